pub mod Hash
pub mod Words

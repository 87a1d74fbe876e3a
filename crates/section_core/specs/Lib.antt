pub mod Sections
pub mod Sound
pub mod Checks
pub mod Steps
pub mod Words

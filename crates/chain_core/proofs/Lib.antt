pub mod Members
pub mod Ways
pub mod Stores
pub mod Faults
pub mod Links
pub mod Walked

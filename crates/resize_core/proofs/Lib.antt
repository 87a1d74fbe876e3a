pub mod Ends
pub mod Sides
pub mod Steps
pub mod Places
pub mod Zips
pub mod Joins

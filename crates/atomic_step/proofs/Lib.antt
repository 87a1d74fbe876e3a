pub mod Choices
pub mod Runs
pub mod Words
pub mod Found

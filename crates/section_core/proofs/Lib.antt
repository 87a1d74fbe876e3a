pub mod Graces
pub mod States
pub mod Runs
pub mod Waiting

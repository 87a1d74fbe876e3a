pub mod Moves
pub mod Unzip
pub mod Join
pub mod Worked

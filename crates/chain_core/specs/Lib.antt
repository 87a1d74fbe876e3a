pub mod Path
pub mod Faults
pub mod Worked
pub mod Nodes

pub mod Faults
pub mod Opened
pub mod Got
pub mod Wrote
pub mod PlannedCalls
pub mod MemFilesState
pub mod MemSinkState
pub mod HostState

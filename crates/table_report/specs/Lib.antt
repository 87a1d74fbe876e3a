pub mod Report
pub mod FileReport

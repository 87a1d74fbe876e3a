pub mod PartLaws
pub mod Left
pub mod Quiet
pub mod Answered
pub mod Longer

pub mod Texts
pub mod Classes
pub mod Cuts
pub mod TokensFrom
pub mod Standing
pub mod TokenSizes
pub mod Counts

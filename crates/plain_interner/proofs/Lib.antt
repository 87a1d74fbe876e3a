pub mod Longest
pub mod Places
pub mod TextMaps

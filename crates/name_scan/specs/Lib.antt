pub mod Pieces
pub mod Classes
pub mod Tokens
pub mod Places
pub mod FileTexts

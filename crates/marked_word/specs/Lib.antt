pub mod Count
pub mod Head
pub mod Link
pub mod Meta
pub mod Number

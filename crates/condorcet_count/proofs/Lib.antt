pub mod Cells
pub mod Choices
pub mod Counted
pub mod Places

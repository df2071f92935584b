pub mod list
pub mod one

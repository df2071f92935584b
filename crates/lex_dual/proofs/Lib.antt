pub mod Tables
pub mod Choices
pub mod Thinning
pub mod Numbers
pub mod Points
pub mod Reaching

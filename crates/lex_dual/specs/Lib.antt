pub mod Choices
pub mod Faults
pub mod Answers
pub mod Reached

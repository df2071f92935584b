pub mod Ways
pub mod Halves
pub mod Refuted

pub mod Runs
pub mod Measures
pub mod Ends
pub mod Multipliers

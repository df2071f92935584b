pub mod AddedRuns
pub mod Faults

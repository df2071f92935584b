pub mod Bests
pub mod Flows
pub mod Paths
pub mod Rows
pub mod Walks

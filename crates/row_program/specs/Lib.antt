pub mod Bounds
pub mod Points
pub mod Sums
pub mod Forms
pub mod Method

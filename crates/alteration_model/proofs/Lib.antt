pub mod Judged
pub mod Merged
pub mod Unique

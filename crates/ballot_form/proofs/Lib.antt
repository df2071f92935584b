pub mod FirstCounts
pub mod Given
pub mod Kept
pub mod Lengths
pub mod Places
pub mod Polls
pub mod RunSums

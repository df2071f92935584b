pub mod Invariant
pub mod Kept
pub mod Origins
pub mod Shorts
pub mod Sizes
pub mod Starts

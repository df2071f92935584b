pub mod Kept
pub mod Branched
pub mod Found
pub mod NewLeaves
pub mod Rooms

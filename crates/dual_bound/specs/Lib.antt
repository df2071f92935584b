pub mod Largest
pub mod CutTest
pub mod Weighing
pub mod WeighingParts
pub mod Sizes
pub mod Rooms
pub mod CellParts
pub mod CellCuts

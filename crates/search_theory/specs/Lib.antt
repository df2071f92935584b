pub mod Spots
pub mod Branchings
pub mod Trees
pub mod Ends
pub mod Leaves
pub mod Laws
pub mod Numbers

pub mod Sums
pub mod Lending
pub mod formers

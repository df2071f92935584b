pub mod Ring
pub mod Divisors
pub mod Maps
pub mod Bounds

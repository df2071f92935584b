pub mod Growing
pub mod Turns
pub mod Proven
pub mod Ended
pub mod Inherited
pub mod Facts
pub mod Numbered

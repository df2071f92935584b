pub mod Ceilings
pub mod Inherited

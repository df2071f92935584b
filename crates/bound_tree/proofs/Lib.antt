pub mod Shapes
pub mod Places
pub mod Finding
pub mod Growing
pub mod Laws
pub mod LineLaws
pub mod Cuts

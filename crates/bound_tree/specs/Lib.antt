pub mod Plain
pub mod Coding
pub mod Nodes
pub mod Places
pub mod Lines
pub mod Growth

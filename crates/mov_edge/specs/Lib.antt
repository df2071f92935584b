pub mod Devices
pub mod Held
pub mod Loads
pub mod Outside

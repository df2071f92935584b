pub mod Behind
pub mod Preferences
pub mod Settlings

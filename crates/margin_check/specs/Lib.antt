pub mod Visits
pub mod Proving
pub mod Validity
pub mod Verdicts
pub mod Meanings
pub mod Walks

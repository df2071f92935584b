pub mod Alterations
pub mod Ballots
pub mod Marks
pub mod Names
pub mod Rules
pub mod Runs
pub mod Scores

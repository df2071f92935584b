pub mod DrawnLists
pub mod MadeNames
pub mod ValidBallots

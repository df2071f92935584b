pub mod BallotFile
pub mod Faults
pub mod HeadRecord
pub mod Left
pub mod Marks
pub mod OneRecord
pub mod PlainForm
pub mod Written

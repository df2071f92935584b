pub mod CommandFacts
pub mod FaultFacts
pub mod Readings

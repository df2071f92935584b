pub mod Faults
pub mod Reading
pub mod HeadLines
pub mod TreeLines
pub mod TreeReading
pub mod CertText
pub mod CertReading

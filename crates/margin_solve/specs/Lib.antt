pub mod Certificates
pub mod Made
pub mod Numbers

pub mod Cases
pub mod Documents
pub mod Reading
pub mod Reads
pub mod Written
pub mod inner

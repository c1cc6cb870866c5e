pub mod Reasons
pub mod Documents

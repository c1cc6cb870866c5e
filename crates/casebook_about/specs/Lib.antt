pub mod Reads
pub mod Rows
pub mod About
pub mod Time
pub mod Labels

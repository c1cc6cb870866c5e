pub mod Documents
pub mod Cells
pub mod Reading
pub mod Reads
pub mod inner

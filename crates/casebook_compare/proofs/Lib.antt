pub mod PathSets
pub mod Folders
pub mod Kept

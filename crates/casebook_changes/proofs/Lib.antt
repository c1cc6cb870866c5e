pub mod Merging
pub mod Changes

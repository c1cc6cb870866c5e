pub mod Ranges
pub mod SameEdits

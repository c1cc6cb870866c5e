pub mod Fields
pub mod Screen
pub mod Told
pub mod Rows
pub mod Why
pub mod Unified
pub mod Diffs
pub mod inner

pub mod Meeting
pub mod NextUses
pub mod Difference
pub mod inner

pub mod Pieces
pub mod Jobs
pub mod Tally
pub mod Refusals
pub mod inner

-- Definitions that only private contracts, models and proofs name.
pub mod HasTold
pub mod Kept
pub mod LineFaults
pub mod Sound
pub mod ToldCode

-- Definitions that only private contracts, invariants and proofs name.
pub mod Altered
pub mod AlteredCode
pub mod GroundCode
pub mod Keeping
pub mod Meetings
pub mod ProgressCode

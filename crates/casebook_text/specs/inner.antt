-- Definitions that only private contracts, invariants and proofs name.
pub mod FoundHunks
pub mod Row
pub mod LineSets

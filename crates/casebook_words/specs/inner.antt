-- Definitions that only private contracts, invariants and proofs name.
pub mod Differences
pub mod Fronts
pub mod NameSets

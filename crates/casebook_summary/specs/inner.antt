-- Definitions that only private contracts, invariants and proofs name.
pub mod Found
pub mod GroupLines
pub mod LedLines
pub mod PathSets

-- Definitions that only private contracts, invariants and proofs name.
pub mod Parts
pub mod Written

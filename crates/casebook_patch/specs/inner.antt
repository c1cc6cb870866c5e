-- Definitions that only private contracts, invariants and proofs name.
pub mod Leading
pub mod Reading
pub mod Cutting

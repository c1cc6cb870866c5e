-- Definitions that only private contracts, invariants and proofs name.
pub mod SessionLines
pub mod Screens

-- Definitions that only private contracts, invariants and proofs name.
pub mod Prefix
pub mod Memory
pub mod Order
pub mod Planning

-- Definitions that only private contracts, invariants and proofs name.
pub mod Places
pub mod Attempts
pub mod Workers
pub mod Rounds

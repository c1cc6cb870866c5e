-- Definitions that only private contracts, invariants and proofs name.
pub mod Visits
pub mod Walks
pub mod Memories
pub mod Placing

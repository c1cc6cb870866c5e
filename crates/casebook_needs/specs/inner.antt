-- Definitions that only private contracts, models and proofs name.
pub mod Sets
pub mod Steps

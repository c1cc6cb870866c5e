-- Definitions that only private contracts, models and proofs name.
pub mod SightCode
pub mod Steps

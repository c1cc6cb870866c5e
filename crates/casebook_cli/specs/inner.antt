-- Definitions that only private contracts and proofs name.
pub mod Views
pub mod Status

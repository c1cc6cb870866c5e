-- Definitions that only private contracts and proofs name.
pub mod Numbers

-- Definitions that only private contracts and proofs name.
pub mod Places
pub mod Lists
pub mod Few
pub mod FirstRecords

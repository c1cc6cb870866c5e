-- Definitions that only private contracts, invariants and proofs name.
pub mod RowReads
pub mod Views
pub mod Readable

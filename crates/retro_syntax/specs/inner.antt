-- Definitions that only private contracts, invariants and proofs name.
pub mod Failing
pub mod Fits
pub mod ParserViews
pub mod QuotingViews

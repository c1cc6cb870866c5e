-- Definitions that only private contracts, invariants and proofs name.
pub mod Numbers
pub mod Latest
pub mod PlaceOrder
pub mod Places

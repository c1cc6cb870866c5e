-- Definitions that only private contracts, invariants and proofs name.
pub mod Cases
pub mod Names
pub mod NewTexts
pub mod Obstacles
pub mod Numbers

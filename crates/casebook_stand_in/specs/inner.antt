-- Definitions that only private contracts, models and proofs name.
pub mod EffectCode
pub mod Pens
pub mod Same
pub mod Trials

-- Definitions that only private contracts, invariants and proofs name.
pub mod Decision
pub mod GrownRef
pub mod Plan
pub mod Undo
pub mod Write
pub mod DifferenceCode
pub mod NextUsesCode
pub mod MayDiffer

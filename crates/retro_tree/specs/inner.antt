-- Definitions that only private contracts, invariants and proofs name.
pub mod CommitSteps
pub mod Entry
pub mod Known
pub mod Marks
pub mod Previous
pub mod SessionCode

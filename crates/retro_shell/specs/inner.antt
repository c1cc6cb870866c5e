-- Definitions that only private contracts, invariants and proofs name.
pub mod FieldsCode
pub mod RunCode
pub mod Trees

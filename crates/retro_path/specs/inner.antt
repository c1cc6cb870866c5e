-- What only the contracts of private functions and proofs need.
pub mod PathText

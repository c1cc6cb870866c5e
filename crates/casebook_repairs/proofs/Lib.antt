pub mod AccountLemmas
pub mod MatchLemmas

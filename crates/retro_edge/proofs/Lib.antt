pub mod CallLemmas
pub mod ReadLemmas

pub mod CallLemmas
pub mod NamedLemmas

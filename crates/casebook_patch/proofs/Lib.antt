pub mod LineLemmas
pub mod PatchedLemmas
pub mod LeadLemmas
pub mod ConcatLemmas
pub mod PieceLemmas
pub mod TreeLemmas

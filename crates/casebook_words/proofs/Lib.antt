pub mod LineLemmas
pub mod CutLemmas
pub mod Fronts
pub mod FirstDifference
pub mod Saying
pub mod WholeLines
pub mod NameSets

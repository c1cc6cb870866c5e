pub mod GroupLemmas
pub mod LedLemmas
pub mod PathSets
pub mod Restoring

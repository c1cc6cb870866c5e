pub mod Floats
pub mod CallLemmas
pub mod RefusalLemmas
pub mod RunLemmas
pub mod FitLemmas
pub mod TrimLemmas

pub mod Showing
pub mod Parting
pub mod PartLemmas

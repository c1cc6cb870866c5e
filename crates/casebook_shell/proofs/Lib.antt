pub mod Sets
pub mod NamesSoFar

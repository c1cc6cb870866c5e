pub mod Trace
pub mod Runs
pub mod Kinds
pub mod inner

pub mod ChangedPaths
pub mod inner

pub mod Index
pub mod Versions
pub mod inner

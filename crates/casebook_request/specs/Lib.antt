pub mod Bounds
pub mod Problems
pub mod Request
pub mod Sources
pub mod Views
pub mod Words

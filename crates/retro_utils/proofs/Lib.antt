pub mod Facts
pub mod Removing
pub mod Moving
pub mod Parents
pub mod Splitting

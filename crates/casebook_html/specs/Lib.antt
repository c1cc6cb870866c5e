pub mod Template
pub mod Safe
pub mod Page
pub mod Harmless

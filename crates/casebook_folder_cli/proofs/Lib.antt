pub mod Known
pub mod Pushing
pub mod Reasons

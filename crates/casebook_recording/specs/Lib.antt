pub mod Faults
pub mod Told
pub mod Logs
pub mod Refusals
pub mod inner

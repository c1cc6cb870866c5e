pub mod LineResult
pub mod FailingNote
pub mod Compensations
pub mod Cause
pub mod inner

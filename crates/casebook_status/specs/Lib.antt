pub mod Counts
pub mod People
pub mod Logins
pub mod Recorded
pub mod Rows
pub mod Status

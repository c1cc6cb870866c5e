pub mod Reads
pub mod Reasons
pub mod Paths
pub mod Rows
pub mod Members
pub mod Joined
pub mod Documents
pub mod ReadBack

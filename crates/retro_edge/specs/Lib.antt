pub mod Calls
pub mod Numbers
pub mod Output
pub mod Paths
pub mod Reads
pub mod Rules

pub mod Alike
pub mod Apart
pub mod Faulty
pub mod Names
pub mod Needing
pub mod Noted
pub mod Runs
pub mod ToldLines

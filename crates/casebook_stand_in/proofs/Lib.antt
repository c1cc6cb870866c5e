pub mod Owning
pub mod Alike
pub mod Stepping
pub mod Leading

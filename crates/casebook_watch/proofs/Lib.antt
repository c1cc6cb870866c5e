pub mod Alike
pub mod Naming
pub mod Leading
pub mod Looks

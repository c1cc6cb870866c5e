pub mod Borrowed
pub mod Left

pub mod First
pub mod Lists
pub mod Lookups
pub mod NoteLists

mod EditLists
mod Fronts
mod Printed
pub mod Matching
mod Telling
mod Untouched

pub mod Faults
pub mod Spools
pub mod Taking
pub mod Views
pub mod Words

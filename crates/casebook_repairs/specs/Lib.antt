pub mod Documents
pub mod Inputs
pub mod Views
pub mod Labels
pub mod Attributes
pub mod Repairs
pub mod Stops

pub mod Carrying
pub mod Choices
pub mod Plans
pub mod Restores
pub mod RowPlans
pub mod Views
pub mod Words
pub mod inner

pub mod Words
pub mod Named
pub mod Variables
pub mod Query
pub mod FirstOfEach
pub mod Line
pub mod Needs
pub mod inner

pub mod Shape
pub mod Forms
pub mod Obstacles

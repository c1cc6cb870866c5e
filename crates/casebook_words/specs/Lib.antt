pub mod Lines
pub mod Cut
pub mod Words
pub mod Difference
pub mod FileLines
pub mod inner
pub mod Obstacles

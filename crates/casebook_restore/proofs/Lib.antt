pub mod Carried
pub mod Changes
pub mod Obstacles
pub mod Placing

pub mod Lines
pub mod World
pub mod Next
pub mod Based
pub mod Played
pub mod inner

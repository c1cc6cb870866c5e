pub mod Sight
pub mod Sights
pub mod Seen
pub mod Delta
pub mod inner

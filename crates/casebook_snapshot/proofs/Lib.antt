pub mod Small
pub mod Names
pub mod Opening
pub mod Walks
pub mod Visits
pub mod Lawful
pub mod Memories
pub mod Placing

pub mod Coverage
pub mod Unread
pub mod Comparison
pub mod Words
pub mod inner

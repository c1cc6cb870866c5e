pub mod Words
pub mod Escapes
pub mod Mounts
pub mod Logins
pub mod LoginViews

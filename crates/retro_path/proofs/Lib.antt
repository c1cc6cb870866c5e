pub mod Slashes
pub mod StripPrefix
pub mod FirstName
pub mod PathOrder
pub mod Known
pub mod Alike
pub mod Prefixes
pub mod Home

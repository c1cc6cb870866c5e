pub mod Effect
pub mod Lengths
pub mod Texts
pub mod Explained
pub mod Shelf
pub mod inner

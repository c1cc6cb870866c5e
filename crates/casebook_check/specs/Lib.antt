pub mod Difference
pub mod Texts
pub mod Keys
pub mod Items
pub mod Place
pub mod Words

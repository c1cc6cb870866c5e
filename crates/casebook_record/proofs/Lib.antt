pub mod Digits
pub mod AllOf
pub mod ReadBack
pub mod Shapes
pub mod Passing

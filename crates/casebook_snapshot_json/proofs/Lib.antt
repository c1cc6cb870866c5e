pub mod Shapes
pub mod Pieces

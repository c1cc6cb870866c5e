pub mod ContentByContent
pub mod Shapes
pub mod Made
pub mod Trip

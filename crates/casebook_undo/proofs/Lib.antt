pub mod Shapes
pub mod PathTrip
pub mod Trip
pub mod RowByRow
pub mod Sorted
pub mod ReadBack

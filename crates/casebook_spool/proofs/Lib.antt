pub mod ItemByItem
pub mod Counting
pub mod LinesRead
pub mod NoteTrip
pub mod WholeRows
pub mod LinesTrip
pub mod Observations
pub mod ListingTrip

pub mod Counts
pub mod Steps
pub mod Seats
pub mod Whole
pub mod Ordered
pub mod Worked
pub mod Wanted

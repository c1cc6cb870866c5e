pub mod Noting
pub mod Order
pub mod Passing

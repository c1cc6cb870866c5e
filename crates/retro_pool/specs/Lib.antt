pub mod Turns
pub mod Seats
pub mod BoardFault
pub mod TakeOutcome
pub mod Jobs
pub mod Guesses
pub mod Work
pub mod inner

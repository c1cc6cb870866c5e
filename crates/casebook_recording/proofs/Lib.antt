pub mod Faulty
pub mod Tellings

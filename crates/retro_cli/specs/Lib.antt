pub mod Exit
pub mod Input
pub mod Program
pub mod RepairReport
pub mod Report
pub mod Words
pub mod inner

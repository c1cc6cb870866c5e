-- Definitions that only private contracts name.
pub mod Views

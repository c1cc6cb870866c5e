-- Definitions that only private contracts, invariants and proofs name.
pub mod CellHistory
pub mod CellHistoryCode
pub mod History
pub mod IndexSteps
pub mod IsHistory
pub mod LineUse
pub mod Numbers
pub mod TrackCode
pub mod TrackMarks
pub mod Tracks
pub mod Uses
pub mod Version

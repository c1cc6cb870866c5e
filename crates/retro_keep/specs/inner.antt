-- Definitions that only private contracts, invariants and proofs name.
pub mod EditCode
pub mod Parts
pub mod Recorder
pub mod RecordingCode
pub mod ScriptCode

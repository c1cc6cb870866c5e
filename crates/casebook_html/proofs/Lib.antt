pub mod SafeTexts
pub mod Harmless

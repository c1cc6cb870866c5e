pub mod LinesPart
pub mod LogLinesPart
pub mod Allowed
pub mod Document
pub mod LogText
pub mod RoundTrip
pub mod inner

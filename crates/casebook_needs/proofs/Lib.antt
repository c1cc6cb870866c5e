pub mod Small
pub mod Plain
pub mod Slashes
pub mod Names
pub mod BelowPrefixes
pub mod FirstLemmas
pub mod AllRules
pub mod NeedLaws

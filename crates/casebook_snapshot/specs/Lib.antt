pub mod Errors
pub mod Items
pub mod Reasons
pub mod Children
pub mod Placed
pub mod Kept
pub mod Snapshots
pub mod inner

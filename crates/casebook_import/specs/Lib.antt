pub mod Opaque
pub mod Nodes
pub mod Directories
pub mod Variables
pub mod Effects
pub mod First
pub mod Understood
pub mod Lines

pub mod Flags
pub mod Kept
pub mod Parts

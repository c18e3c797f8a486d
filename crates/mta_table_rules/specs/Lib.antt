pub mod Counts
pub mod Copied
pub mod Text
pub mod Waits
pub mod Rests

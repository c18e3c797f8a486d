pub mod Breaks
pub mod Text
pub mod Counts

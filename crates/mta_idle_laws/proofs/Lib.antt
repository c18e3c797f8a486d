pub mod Lengths
pub mod Stays
pub mod Kept
pub mod Spans

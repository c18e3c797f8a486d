pub mod Adding
pub mod Entries
pub mod Images
pub mod Kept
pub mod Lefts
pub mod Opened
pub mod Replays
pub mod Sizes

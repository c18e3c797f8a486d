pub mod Moments
pub mod Logged
pub mod Chosen
pub mod Differ
pub mod Told
pub mod Drawn
pub mod Pieces

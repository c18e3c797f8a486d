pub mod Changes
pub mod Finds
pub mod Lane
pub mod Order
pub mod Pieces

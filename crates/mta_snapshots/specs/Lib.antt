pub mod Begins
pub mod Fits
pub mod Items
pub mod Lanes
pub mod Marks
pub mod Names
pub mod Spent

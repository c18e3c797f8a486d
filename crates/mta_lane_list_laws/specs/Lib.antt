pub mod Turns
pub mod Between
pub mod Lanes
pub mod Called

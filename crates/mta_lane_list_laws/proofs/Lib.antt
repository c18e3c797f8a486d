pub mod Turns
pub mod Between
pub mod Ones
pub mod Lanes
pub mod Sides
pub mod Told
pub mod Called

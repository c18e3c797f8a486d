pub mod Called
pub mod Causes
pub mod Runs
pub mod Turning
pub mod TurningRecv
pub mod Whole
pub mod Writing
pub mod Order

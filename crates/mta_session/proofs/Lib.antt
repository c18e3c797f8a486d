pub mod Halves
pub mod Little
pub mod Stepping
pub mod Work

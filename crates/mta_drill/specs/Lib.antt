pub mod Held
pub mod Sides
pub mod Acts
pub mod Runs
pub mod Calls
pub mod Worked
pub mod Rounds
pub mod Laws

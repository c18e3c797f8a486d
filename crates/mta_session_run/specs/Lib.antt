pub mod Running
pub mod Carried

pub mod Running
pub mod Talks

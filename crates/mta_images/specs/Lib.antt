pub mod Image
pub mod Opened

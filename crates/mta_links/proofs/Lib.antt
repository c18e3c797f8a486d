pub mod Told
pub mod Carried
pub mod Inputs

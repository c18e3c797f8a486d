pub mod Links
pub mod Held
pub mod Laws

pub mod Topics
pub mod Fields
pub mod Told
pub mod Laws

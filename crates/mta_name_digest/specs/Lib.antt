pub mod Digests
pub mod Folding
pub mod Places

pub mod Priorities
pub mod Components
pub mod Envelopes
pub mod Contents
pub mod Messages
pub mod Laws
pub mod Places

pub mod Halting
pub mod Deciding
pub mod Lines
pub mod Stations
pub mod Roles
pub mod Peers

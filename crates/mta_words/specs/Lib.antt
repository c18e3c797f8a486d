pub mod Split
pub mod Stations
pub mod Words

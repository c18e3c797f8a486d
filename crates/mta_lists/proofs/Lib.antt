pub mod Fields
pub mod Numbered
pub mod Envelopes
pub mod Chosen

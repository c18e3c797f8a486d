pub mod Pieces
pub mod Lines
pub mod Envelopes
pub mod Reporteds
pub mod Reports
pub mod Apdus

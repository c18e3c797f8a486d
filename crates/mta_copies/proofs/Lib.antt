pub mod Same
pub mod Envelopes
pub mod Bits
pub mod Copied
pub mod Responsible
pub mod Wholes
pub mod ReportParts
pub mod Flags

pub mod Concats
pub mod Cuts
pub mod Holding
pub mod Numbering
pub mod Searching

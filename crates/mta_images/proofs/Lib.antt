pub mod Unique
pub mod NoSpool
pub mod Bodies
pub mod GoingOn

pub mod TablesRead
pub mod Contents
pub mod Samples
pub mod Wholes
pub mod Read
pub mod Relayed
pub mod Delivered

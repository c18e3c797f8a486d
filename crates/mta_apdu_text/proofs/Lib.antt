pub mod Bits
pub mod Chains

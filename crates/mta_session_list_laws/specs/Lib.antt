pub mod Calls
pub mod Abandons
pub mod Standing
pub mod Lists
pub mod Over
pub mod Laws
pub mod Sent
pub mod Examples

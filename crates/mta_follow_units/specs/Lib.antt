pub mod Units
pub mod Look
pub mod Feed
pub mod Laws

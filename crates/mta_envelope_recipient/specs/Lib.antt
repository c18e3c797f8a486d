pub mod Recipients
pub mod Lists
pub mod Laws

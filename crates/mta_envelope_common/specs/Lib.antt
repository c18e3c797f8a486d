pub mod ContentKinds
pub mod TraceLists
pub mod ExtensionLists
pub mod Indicators
pub mod ContentIdentifiers

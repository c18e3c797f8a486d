pub mod Values
pub mod Deliveries
pub mod Failures
pub mod Outcomes
pub mod LastTraces
pub mod ReportedRecipients
pub mod Laws

pub mod ReportValues
pub mod ReportEnvelopes
pub mod ReportContents
pub mod Reports
pub mod Laws
pub mod Lengths

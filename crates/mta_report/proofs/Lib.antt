pub mod EnvelopeLaws
pub mod ContentLaws
pub mod ReportLaws
pub mod ReportAgain
pub mod ReportKept

pub mod Written
pub mod KindLaws
pub mod TraceListLaws
pub mod ExtListLaws
pub mod IndicatorLaws
pub mod SetRows
pub mod Again
pub mod Kept

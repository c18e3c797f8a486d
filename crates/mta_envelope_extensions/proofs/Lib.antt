pub mod KindLaws
pub mod ValueLaws
pub mod FieldLaws
pub mod ToldLaws
pub mod FieldAgain
pub mod ToldAgain
pub mod ExtKept

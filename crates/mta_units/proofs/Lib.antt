pub mod FrontLaws
pub mod BodyLaws
pub mod UnitLaws
pub mod LookLaws
pub mod GrowthLaws
pub mod ReadingLaws
pub mod SizeLaws
pub mod AgainLaws

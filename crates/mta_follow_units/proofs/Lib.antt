pub mod Tests
pub mod LookLaws
pub mod AgainLaws
pub mod SizeLaws

pub mod PlainWords
pub mod BareLaws
pub mod WordLaws
pub mod ServeLaws
pub mod StationLaws
pub mod WordsLaws

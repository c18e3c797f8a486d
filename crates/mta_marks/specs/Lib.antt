pub mod Image
pub mod Left
pub mod Marks
pub mod Opening
pub mod Reading
pub mod Replaying
pub mod Standings

pub mod Beside
pub mod Counted
pub mod Held
pub mod Marked
pub mod Places
pub mod Rows

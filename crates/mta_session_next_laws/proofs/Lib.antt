pub mod Holding
pub mod Listening
pub mod Calls
pub mod Answers
pub mod Pieces

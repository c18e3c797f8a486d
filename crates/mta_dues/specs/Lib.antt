pub mod Answers
pub mod Index
pub mod Looked
pub mod Next
pub mod Agendas
pub mod Spans

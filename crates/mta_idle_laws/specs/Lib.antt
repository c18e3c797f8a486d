pub mod Next
pub mod Idle
pub mod Later
pub mod Spans
pub mod Laws

pub mod Held
pub mod Marks
pub mod Queue
pub mod Queues
pub mod Row

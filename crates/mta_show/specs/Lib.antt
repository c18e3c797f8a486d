pub use Rattle.mta_apdu_text.specs.Apdus
pub mod Statuses
pub mod Lanes
pub mod Queue
pub mod Mailbox
pub mod Compacted

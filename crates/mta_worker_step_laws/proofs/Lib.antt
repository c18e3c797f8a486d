pub mod Dues
pub mod Made
pub mod Turns
pub mod Walk
pub mod Workers

pub mod Joined
mod Parts
mod Wanted

pub mod Awaited
pub mod Seen

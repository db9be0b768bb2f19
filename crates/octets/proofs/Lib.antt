pub mod Appends
pub mod Spells
pub mod Streams
pub mod Yields

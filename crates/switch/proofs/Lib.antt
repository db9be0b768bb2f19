pub mod Holds
pub mod Marked

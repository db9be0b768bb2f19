pub mod Bytes
pub mod Good
pub mod Lines
pub mod Views
pub mod Words

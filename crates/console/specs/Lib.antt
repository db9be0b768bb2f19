pub mod Lines
pub mod Words
pub mod Inputs

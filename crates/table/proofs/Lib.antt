pub mod Alike
pub mod Encoding
pub mod Gathering
pub mod Reading
pub mod Sizes

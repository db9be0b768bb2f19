pub mod Filled
pub mod Format
pub mod Laws

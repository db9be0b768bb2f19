pub mod Listing
pub mod Finding

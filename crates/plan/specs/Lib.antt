pub mod Values
pub mod Parts
pub mod Slots
pub mod Changes
pub mod Views
pub mod Laws

mod Gathering
pub mod Once
pub mod Order
pub mod Sets

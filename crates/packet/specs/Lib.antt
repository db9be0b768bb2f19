pub mod Copies
pub mod Listed
pub mod Packet
pub mod Pairs
pub mod Policy
pub mod Table

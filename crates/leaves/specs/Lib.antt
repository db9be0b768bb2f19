pub mod Pairs
pub mod Outs
pub mod Under

pub mod Nodes
pub mod Texts
pub mod Trees
pub mod Format
pub mod Laws

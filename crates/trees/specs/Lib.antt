pub mod Outs
pub mod Trees
pub mod Nodes
pub mod Names
pub mod Stores
pub mod Search
pub mod Stages
pub mod Walking

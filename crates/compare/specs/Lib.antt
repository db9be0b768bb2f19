pub mod Sets
pub mod Compared
pub mod Tables

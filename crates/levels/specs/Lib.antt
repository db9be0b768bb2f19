pub mod Like
pub mod Bytes
pub mod Rests
pub mod Cut
pub mod Laws

pub mod Sound
pub mod Reading
pub mod Standing
pub mod Trips

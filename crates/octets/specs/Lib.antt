pub mod Faults
pub mod Parse
pub mod Readers
pub mod Streams

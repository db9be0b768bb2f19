pub mod Cuts
pub mod Numerals
pub mod Flags
pub mod Faulty
pub mod Fitting
pub mod Turns
pub mod Splits
pub mod Back

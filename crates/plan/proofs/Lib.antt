pub mod Small
pub mod Placing
pub mod Whole
pub mod Changing
pub mod Empty
pub mod Sizes
pub mod Good
pub mod Trips

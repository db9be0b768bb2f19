pub mod Order
pub mod Table
pub mod Fit
pub mod Alike
pub mod Right

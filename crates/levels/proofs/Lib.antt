pub mod Likes
pub mod Telling
pub mod Resting
pub mod Cutting
pub mod Props
pub mod Dying

mod Filling
mod Sizes
mod Storing
mod Trips

mod Ranges
mod Sizes

mod Fits
mod Keeping
mod Larger
mod Named
mod Selector
mod Unnamed

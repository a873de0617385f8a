mod Found
mod Nests
mod Segments
mod Units

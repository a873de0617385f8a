mod StatusCases
mod Packing
mod WordLaws

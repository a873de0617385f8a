mod Making
mod Marks
mod Passing
mod Reaching
mod Whole
mod BodyCases

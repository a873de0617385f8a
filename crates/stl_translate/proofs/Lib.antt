mod BodyCounts
mod BodyShapes
mod Names
mod Polished
mod Shapes
mod StepTests
mod Text
mod TranslateCases

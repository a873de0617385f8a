mod Heads
mod Shapes
mod TypedLocals
mod UnitTexts

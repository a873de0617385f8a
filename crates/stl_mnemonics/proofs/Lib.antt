mod LowBitsLaws
mod TableLaws

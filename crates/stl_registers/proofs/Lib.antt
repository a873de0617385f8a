mod Moves
mod StatusWord

mod ActualLaws
mod BracketTokens
mod CallLaws
mod InstructionLaws
mod LeftOutLaws
mod NameLaws

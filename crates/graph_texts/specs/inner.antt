pub mod OwnLocals

-- What a tree keeps whose statements are written in another way: all but its statements.
-- Held against: this project's own names.
use Rattle.std.specs.Prelude.{◌≡◌}
use Rattle.st_tree.specs.Fitting.{Paired}
use Rattle.st_tree.specs.declared.program.Pou.{Pou}
use Rattle.st_tree.specs.declared.program.StProgram.{StProgram}

-- a unit has the kind, the name, the formals and the locals of another
pub record KeepsHead (old new : Pou) : Type 0 where
  pub kind : new.program ≡ old.program
  pub name : new.name ≡ old.name
  pub formals : new.formals ≡ old.formals
  pub locals : new.locals ≡ old.locals

-- a tree has the data blocks and the globals of another, and its units in their order
pub record KeepsHeads (old new : StProgram) : Type 0 where
  pub blocks : new.dbs ≡ old.dbs
  pub globals : new.globals ≡ old.globals
  pub units : Paired KeepsHead old.pous new.pous

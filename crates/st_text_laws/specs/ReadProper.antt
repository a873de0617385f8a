-- What a text reads as is proper.
use Rattle.std.specs.Prelude.{ℕ, List}
use Rattle.st_grammar.specs.Syntax.{HasRawTree}
use Rattle.st_rules.specs.Typed.{HasTree}
use Rattle.st_tree.specs.Proper.{Proper}
use Rattle.st_tree.specs.declared.program.StProgram.{StProgram}
use Rattle.st_tree.specs.declared.raw.RawSt.{RawSt}

-- where a text has a raw tree, the tree that this has by the rules of names, types and places is proper
abbrev pub ReadsAreProper : Type 0
ReadsAreProper =
    (bytes : List ℕ) (raw : RawSt) (tree : StProgram) → HasRawTree bytes raw → HasTree raw tree → Proper tree

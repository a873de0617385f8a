-- The reading of a Structured Text. It is the tree, or the first rule that is broken: first all tokens count, then
-- syntax and depth from the front, then names, types and places, then the chain of calls.
-- Held against: this project's own rules.
use Rattle.std.specs.Prelude.{ℕ, List}
use Rattle.s7_base.specs.declared.reason.Line.{Line}
use Rattle.s7_base.specs.declared.reason.Reason.{Reason}
use Rattle.s7_base.specs.declared.reason.Rejection.{Rejection}
use Rattle.s7_base.specs.declared.reason.Rejection.TheVariants as rejection
use Rattle.st_grammar.specs.Syntax.{HasRawTree, IsSyntaxRefused}
use Rattle.st_tree.specs.declared.program.StProgram.{StProgram}
use Rattle.st_tree.specs.declared.raw.RawSt.{RawSt}
use Rattle.st_rules.specs.Typed.{Breaks, HasTree}

-- the text reads as this tree
pub record IsTextOf (bytes : List ℕ) (tree : StProgram) : Type 0 where
  pub raw : RawSt
  pub reads : HasRawTree bytes raw
  pub typed : HasTree raw tree

-- the text is refused on this line for this reason
pub data IsRefusedText (bytes : List ℕ) (line : Line) (reason : Reason) : Type 0 where
  by_syntax : IsSyntaxRefused bytes line reason → IsRefusedText bytes line reason
  by_rules : {raw : RawSt} → HasRawTree bytes raw → Breaks raw line reason → IsRefusedText bytes line reason

-- a refusal names the first broken rule; or memory ran out
abbrev pub IsRefusedAs : List ℕ → Rejection → Type 0
IsRefusedAs bytes (rejection.Refused line reason) = IsRefusedText bytes line reason
IsRefusedAs bytes rejection.NoMemory = Unit {0}

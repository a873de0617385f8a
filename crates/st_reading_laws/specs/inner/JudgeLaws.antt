-- Laws of the pass over a text's tokens: it judges exactly what the text is.
use Rattle.std.specs.Prelude.{◌≡◌, ℕ, List, Some, Err}
use Rattle.s7_base.specs.declared.reason.Line.{Line}
use Rattle.s7_base.specs.declared.reason.Reason.{Reason}
use Rattle.s7_base.specs.declared.reason.Rejection.TheVariants.{Refused}
use Rattle.st_grammar.specs.Syntax.{HasRawTree, IsSyntaxRefused}
use Rattle.st_grammar.specs.inner.Judge.{tree_at, verdict}
use Rattle.st_tree.specs.declared.raw.RawSt.{RawSt}

-- the tree to which a text is judged good is its raw tree, and the other way round
abbrev pub JudgedTrees : Type 0
JudgedTrees =
    (bytes : List ℕ) (raw : RawSt)
    → (tree_at (verdict bytes) ≡ Some raw → HasRawTree bytes raw)
    × (HasRawTree bytes raw → tree_at (verdict bytes) ≡ Some raw)

-- the refusal to which a text is judged is its own, and the other way round
abbrev pub JudgedRefusals : Type 0
JudgedRefusals =
    (bytes : List ℕ) (line : Line) (why : Reason)
    → (verdict bytes ≡ Err (Refused line why) → IsSyntaxRefused bytes line why)
    × (IsSyntaxRefused bytes line why → verdict bytes ≡ Err (Refused line why))

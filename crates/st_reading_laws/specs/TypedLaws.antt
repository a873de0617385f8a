-- A text has one answer: one tree, or one line and rule.
use Rattle.std.specs.Prelude.{◌≡◌}
use Rattle.s7_base.specs.declared.reason.Line.{Line}
use Rattle.s7_base.specs.declared.reason.Reason.{Reason}
use Rattle.st_tree.specs.declared.program.StProgram.{StProgram}
use Rattle.st_tree.specs.declared.raw.RawSt.{RawSt}
use Rattle.st_rules.specs.Typed.{Breaks, HasTree}

-- two trees of a text are the same
abbrev pub OneTree : Type 0
OneTree = (raw : RawSt) (s t : StProgram) → HasTree raw s → HasTree raw t → s ≡ t

-- two refusals of a text have the same line and the same rule
abbrev pub OneRefusal : Type 0
OneRefusal = (raw : RawSt) (l m : Line) (q r : Reason) → Breaks raw l q → Breaks raw m r → (l ≡ m) × (q ≡ r)

-- no text has both a tree and a refusal
abbrev pub NotBoth : Type 0
NotBoth = (raw : RawSt) (t : StProgram) (l : Line) (r : Reason) → HasTree raw t → Breaks raw l r → ⊥

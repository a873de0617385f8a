-- Laws of reading: a text has one tree or one refusal; exactly the trees that some text reads as are proper, and
-- the canonical text of a proper tree reads as it.
use Rattle.std.specs.Prelude.{◌≡◌, ◌⊎◌, ℕ, List}
use Rattle.s7_base.specs.declared.reason.Line.{Line}
use Rattle.s7_base.specs.declared.reason.Reason.{Reason}
use Rattle.st_parser.specs.Texts.{IsRefusedText, IsTextOf}
use Rattle.st_tree.specs.Proper.{Proper}
use Rattle.st_tree.specs.Spelling.{spelling}
use Rattle.st_tree.specs.declared.program.StProgram.{StProgram}

-- two trees of a text are the same
abbrev pub OneTree : Type 0
OneTree = (bytes : List ℕ) (s t : StProgram) → IsTextOf bytes s → IsTextOf bytes t → s ≡ t

-- two refusals of a text have the same line and the same reason
abbrev pub OneRefusal : Type 0
OneRefusal =
    (bytes : List ℕ) (l m : Line) (q r : Reason) → IsRefusedText bytes l q → IsRefusedText bytes m r → (l ≡ m) × (q ≡ r)

-- no text has both a tree and a refusal
abbrev pub NotBoth : Type 0
NotBoth = (bytes : List ℕ) (t : StProgram) (l : Line) (r : Reason) → IsTextOf bytes t → IsRefusedText bytes l r → ⊥

-- each text has a tree or a refusal
abbrev pub EachHasOne : Type 0
EachHasOne =
    (bytes : List ℕ)
    → ((tree : StProgram) × IsTextOf bytes tree) ⊎ ((line : Line) × (reason : Reason) × IsRefusedText bytes line reason)

-- the canonical text of a proper tree reads as the tree
abbrev pub ProperReadsBack : Type 0
ProperReadsBack = (tree : StProgram) → Proper tree → IsTextOf (spelling tree) tree

-- what a text reads as is proper
abbrev pub WhatIsReadIsProper : Type 0
WhatIsReadIsProper = (bytes : List ℕ) (tree : StProgram) → IsTextOf bytes tree → Proper tree

-- the canonical text of what a text reads as reads as the same tree
abbrev pub Rereads : Type 0
Rereads = (bytes : List ℕ) (tree : StProgram) → IsTextOf bytes tree → IsTextOf (spelling tree) tree

-- What the verdict gives.
use Rattle.std.specs.Prelude.{◌≡◌, ℕ, List, Ok}
use Rattle.stl_tree.specs.Accepted.{IsAccepted}
use Rattle.stl_rules.specs.Verdict.{verdict}
use Rattle.stl_tree.specs.declared.program.Program.{Program}

-- the verdict gives only programs that keep the rules
abbrev pub VerdictIsAccepted : Type 0
VerdictIsAccepted = (bytes : List ℕ) (program : Program) → verdict bytes ≡ Ok program → IsAccepted program

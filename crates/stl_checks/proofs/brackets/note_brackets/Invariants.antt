use Rattle.std.proofs.Common.{◌≡◌, ◌++◌, length}
use Rattle.stl_rules.specs.BodyRules.{brackets_from}
use Rattle.stl_checks.proofs.brackets.note_brackets.Given as goal

-- what is noted and what the rest breaks are what the body breaks
abbrev pub invariant-loop-rest : goal.invariant-loop-rest
invariant-loop-rest l = l.breaks ++ brackets_from l.end l.count l.rest ≡ l.initial.breaks ++ brackets_from l.end 0 l.body

abbrev pub decreases-loop-rest : goal.decreases-loop-rest
decreases-loop-rest l = length l.rest

use Rattle.std.proofs.Common.{◌≡◌, ◌+◌, ◌++◌, length}
use Rattle.stl_rules.specs.BodyRules.{labels_from}
use Rattle.stl_checks.proofs.labels.note_labels.Given as goal

-- what is noted and what the rest breaks are what the body breaks
abbrev pub invariant-loop-rest : goal.invariant-loop-rest
invariant-loop-rest l =
    (l.breaks ++ labels_from l.labels l.at l.rest ≡ l.initial.breaks ++ labels_from l.labels 0 l.body)
    × (l.at + length l.rest ≡ length l.body)

abbrev pub decreases-loop-rest : goal.decreases-loop-rest
decreases-loop-rest l = length l.rest

use Rattle.std.proofs.Common.{◌≡◌, ◌++◌, length}
use Rattle.stl_rules.specs.Stages.{deep_breaks}
use Rattle.stl_checks.specs.inner.Chains.{headings_of}
use Rattle.stl_checks.proofs.chain.note_deep.Given as goal

-- what is noted and what the rest breaks are what all break
abbrev pub invariant-loop-flags : goal.invariant-loop-flags
invariant-loop-flags l =
    l.breaks ++ deep_breaks l.flags (headings_of l.rest) ≡ l.initial.breaks ++ deep_breaks l.begins (headings_of l.blocks)

abbrev pub decreases-loop-flags : goal.decreases-loop-flags
decreases-loop-flags l = length l.flags

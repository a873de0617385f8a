use Rattle.std.proofs.Common.{◌≡◌, take, None}
use Rattle.std.specs.List.{fold}
use Rattle.s7_base.specs.Broken.{sooner}
use Rattle.s7_base.proofs.rule_break.first_of_all.Given as goal

abbrev pub invariant-loop-other : goal.invariant-loop-other
invariant-loop-other l = l.first ≡ fold sooner None (take l.other-index l.breaks)

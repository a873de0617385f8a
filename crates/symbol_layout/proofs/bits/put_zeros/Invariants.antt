use Rattle.std.proofs.Common.{◌≡◌, ◌++◌}
use Rattle.stl_rules.specs.Contents.{zeros}
use Rattle.symbol_layout.proofs.bits.put_zeros.Given as goal

abbrev pub invariant-loop-left : goal.invariant-loop-left
invariant-loop-left l = l.bits.items ++ zeros l.left ≡ l.initial.bits.items ++ zeros l.count

abbrev pub decreases-loop-left : goal.decreases-loop-left
decreases-loop-left l = l.left

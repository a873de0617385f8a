use Rattle.std.proofs.Common.{◌≡◌, ◌++◌}
use Rattle.stl_rules.specs.Contents.{times}
use Rattle.symbol_layout.proofs.bits.put_times.Given as goal

abbrev pub invariant-loop-left : goal.invariant-loop-left
invariant-loop-left g l = l.list.items ++ times l.left l.more ≡ l.initial.list.items ++ times l.count l.more

abbrev pub decreases-loop-left : goal.decreases-loop-left
decreases-loop-left g l = l.left

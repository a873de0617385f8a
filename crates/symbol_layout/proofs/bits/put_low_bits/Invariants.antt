use Rattle.std.proofs.Common.{◌≡◌, ◌++◌}
use Rattle.stl_rules.specs.Contents.{low_bits}
use Rattle.symbol_layout.proofs.bits.put_low_bits.Given as goal

abbrev pub invariant-loop-left : goal.invariant-loop-left
invariant-loop-left l = l.bits.items ++ low_bits l.left l.rest ≡ l.initial.bits.items ++ low_bits l.count l.number

abbrev pub decreases-loop-left : goal.decreases-loop-left
decreases-loop-left l = l.left

use Rattle.std.proofs.Common.{◌≡◌, ◌++◌}
use Rattle.stl_rules.specs.Contents.{first_bytes}
use Rattle.symbol_layout.proofs.bits.first_bytes.Given as goal

abbrev pub invariant-loop-left : goal.invariant-loop-left
invariant-loop-left l = l.bytes.items ++ first_bytes l.left l.rest ≡ first_bytes l.count l.bits

abbrev pub decreases-loop-left : goal.decreases-loop-left
decreases-loop-left l = l.left

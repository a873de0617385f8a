use Rattle.std.proofs.Common.{◌≡◌, ◌++◌, length}
use Rattle.instruction_lowering.proofs.SortedPairs.{places_from}
use Rattle.instruction_lowering.proofs.unit_order.in_order.Given as goal

abbrev pub decreases-loop-block : goal.decreases-loop-block
decreases-loop-block l = length l.rest

abbrev pub invariant-loop-block : goal.invariant-loop-block
invariant-loop-block l = l.places.items ++ places_from l.position l.rest ≡ places_from 0 l.blocks

use Rattle.std.proofs.Common.{◌≡◌, [], length}
use Rattle.instruction_lowering.specs.inner.Lowering.{nodes_from}
use Rattle.instruction_lowering.proofs.NodeLoops.{left_after, used_after}
use Rattle.instruction_lowering.proofs.units.nodes.Given as goal

abbrev pub invariant-loop-extent : goal.invariant-loop-extent
invariant-loop-extent l =
    (l.nodes ≡ nodes_from l.blocks (length l.body) 0 l.body l.yielded) × (l.used ≡ used_after l.blocks 0 l.body l.yielded)
    × (l.rest ≡ left_after l.body l.yielded) × (l.steps ≡ [])

use Rattle.std.proofs.Common.{length}
use Rattle.call_chains.proofs.components.Walk.number.Given as goal

abbrev pub decreases-loop-last : goal.decreases-loop-last
decreases-loop-last l = length l.self.open.items

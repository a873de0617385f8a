use Rattle.std.proofs.Common.{◌≡◌, length}
use Rattle.st_tree.specs.WellTyped.{keys_of}
use Rattle.instruction_lowering.specs.inner.Temporaries.{next_number, number_after}
use Rattle.instruction_lowering.proofs.locals.number_after.Given as goal

abbrev pub decreases-loop-behind : goal.decreases-loop-behind
decreases-loop-behind l = length l.rest

abbrev pub invariant-loop-behind : goal.invariant-loop-behind
invariant-loop-behind l = next_number (length (keys_of l.rest)) (keys_of l.formals) l.number ≡ number_after (keys_of l.formals) l.fn.number

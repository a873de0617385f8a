use Rattle.std.proofs.Common.{◌≡◌, ◌++◌, length}
use Rattle.instruction_lowering.proofs.locals.push_all.Given as goal

abbrev pub decreases-loop-ty : goal.decreases-loop-ty
decreases-loop-ty l = length l.rest

-- those that are pushed and those that are left are all of them
abbrev pub invariant-loop-ty : goal.invariant-loop-ty
invariant-loop-ty l = l.types ++ l.rest ≡ l.fn.types ++ l.fn.more

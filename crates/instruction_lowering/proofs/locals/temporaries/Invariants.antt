use Rattle.std.proofs.Common.{◌≡◌, ◌+◌, ◌++◌, ◌^◌, ◌<◌, ◌≤◌, length}
use Rattle.instruction_lowering.specs.inner.Temporaries.{temporaries}
use Rattle.instruction_lowering.proofs.locals.temporaries.Given as goal
use Rattle.st_tree.specs.WellTyped.{keys_of}

abbrev pub decreases-loop-ty : goal.decreases-loop-ty
decreases-loop-ty l = length l.rest

-- as many temporaries are there as types were taken, and their numbers grow
abbrev pub invariant-loop-ty : goal.invariant-loop-ty
invariant-loop-ty l =
    (l.locals ++ temporaries (keys_of l.formals) l.number l.rest ≡ temporaries (keys_of l.formals) 0 l.types)
    × (length l.types ≤ length l.rest + l.number) × (l.number < 2 ^ 32)

use Rattle.std.proofs.Common.{◌≡◌, ◌++◌, length}
use Rattle.instruction_lowering.specs.inner.Temporaries.{types_in}
use Rattle.instruction_lowering.proofs.locals.types.Given as goal

abbrev pub decreases-loop-instr : goal.decreases-loop-instr
decreases-loop-instr l = length l.rest

abbrev pub invariant-loop-instr : goal.invariant-loop-instr
invariant-loop-instr l = l.types ++ types_in l.blocks l.rest ≡ types_in l.blocks l.body

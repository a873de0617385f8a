use Rattle.std.proofs.Common.{◌≡◌, ◌++◌, length}
use Rattle.instruction_lowering.specs.inner.Lowering.{steps_of, used_behind}
use Rattle.instruction_lowering.proofs.units.push_steps.Given as goal

abbrev pub decreases-loop-instr : goal.decreases-loop-instr
decreases-loop-instr l = length l.rest

abbrev pub invariant-loop-instr : goal.invariant-loop-instr
invariant-loop-instr l =
    (l.steps ++ steps_of l.blocks l.spot l.rest ≡ l.fn.steps ++ steps_of l.blocks l.fn.spot l.fn.instructions)
    × (used_behind l.blocks l.spot l.rest ≡ used_behind l.blocks l.fn.spot l.fn.instructions)

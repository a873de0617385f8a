use Rattle.std.proofs.Common.{◌≡◌, ◌++◌, length}
use Rattle.std.specs.List.{flat_map}
use Rattle.stl_rules.specs.Programs.{instrs_of}
use Rattle.stl_rules.specs.Stages.{instr_breaks}
use Rattle.block_variables.specs.Firsts.{with_breaks}
use Rattle.symbol_names.proofs.bodies.put_instrs.Given as goal

-- what is made and found, and what the rest makes and breaks, are those of all instructions
abbrev pub invariant-loop-rest : goal.invariant-loop-rest
invariant-loop-rest l =
    (l.body ++ instrs_of l.scope l.rest ≡ l.initial.body ++ instrs_of l.scope l.raws)
    × (with_breaks l.first (flat_map (instr_breaks l.scope) l.rest) ≡ with_breaks l.initial.first (flat_map (instr_breaks l.scope) l.raws))

abbrev pub decreases-loop-rest : goal.decreases-loop-rest
decreases-loop-rest l = length l.rest

use Rattle.std.proofs.Common.{◌≡◌, take}
use Rattle.std.specs.List.{flat_map}
use Rattle.stl_rules.specs.Stages.{instr_breaks}
use Rattle.block_variables.specs.Firsts.{with_breaks}
use Rattle.symbol_names.proofs.bodies.note_instrs.Given as goal

abbrev pub invariant-loop-raw : goal.invariant-loop-raw
invariant-loop-raw l = l.first ≡ with_breaks l.initial.first (flat_map (instr_breaks l.scope) (take l.raw-index l.raws))

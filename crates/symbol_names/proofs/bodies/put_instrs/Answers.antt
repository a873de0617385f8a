use Rattle.std.specs.List.{flat_map}
use Rattle.stl_rules.specs.Stages.{instr_breaks}
use Rattle.block_variables.specs.Firsts.{with_breaks}
use Rattle.symbol_names.proofs.Instructions.{found_all}
use Rattle.symbol_names.proofs.bodies.put_instrs.Goals as goal

pub returns-clause-first : goal.returns-clause-first
returns-clause-first c =
    found_all c.args.scope.now c.loop-rest.first (with_breaks c.args.first.now (flat_map (instr_breaks c.args.scope.now) c.args.raws.now)) c.loop-rest.rest.now
    c.in_default.len_below c.loop-rest.invariant.1

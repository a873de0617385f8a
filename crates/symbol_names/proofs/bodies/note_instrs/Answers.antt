use Rattle.std.proofs.Common.{sym}
use Rattle.block_variables.proofs.Firsts.{none_more}
use Rattle.stl_rules.specs.Stages.{instr_breaks}
use Rattle.symbol_names.proofs.Turns.{item_turn}
use Rattle.symbol_names.proofs.bodies.note_instrs.Goals as goal

pub loop-raw-init : goal.loop-raw-init
loop-raw-init c = sym (none_more c.args.first.now)

pub loop-raw-preserved : goal.loop-raw-preserved
loop-raw-preserved c =
    item_turn (instr_breaks c.args.scope.now) c.args.first.now c.loop-raw.first c.note_instr.new.first c.args.raws.now c.loop-raw.raw-index
    c.raw-item.result c.loop-raw-test.true c.raw-item.is c.loop-raw.invariant c.in_ok-note_instr.ensures

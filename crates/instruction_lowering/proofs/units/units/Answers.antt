use Rattle.std.proofs.Common.{rules, ◌≡◌, List, [], ◌∷◌, ◌++◌, arith}
use Rattle.std.proofs.lemmas.Grind.{common_steps}
use Rattle.std.specs.Prelude.{Some, slice_get}
use Rattle.instruction_lowering.specs.UnitNames.{in_order}
use Rattle.instruction_lowering.proofs.MadeUnits.{accepted_at, all_are_made, none_made, none_missing, one_more_made, read_there}
use Rattle.stl_tree.specs.declared.program.Block.{Block}
use Rattle.instruction_lowering.proofs.units.units.Goals as goal

pub loop-position-init : goal.loop-position-init
loop-position-init c =
    none_made c.args.blocks.now (in_order c.args.blocks.now) c.new-units.result c.args.order.now c.new-units.ensures c.requires.order

pub unit-requires-clause-accepted : goal.unit-requires-clause-accepted
unit-requires-clause-accepted c =
    accepted_at c.args.blocks.now c.in-Some.position.now c.in-Some-get.block.now c.requires.accepted
    (read_there c.args.blocks.now c.in-Some.position.now c.in-Some-get.block c.in-Some-get.ensures.lookup)

pub loop-position-preserved-in_ok-push : goal.loop-position-preserved-in_ok-push
loop-position-preserved-in_ok-push c =
    one_more_made c.args.blocks.now (in_order c.args.blocks.now) c.loop-position.units c.push.new.self c.in_ok-unit.unit c.loop-position.rest.now
    c.in-Some.behind.now c.in-Some.position.now c.in-Some-get.block.now c.loop-position.invariant
    (first_of (search rules, grind (arith, common_steps)))
    (read_there c.args.blocks.now c.in-Some.position.now c.in-Some-get.block c.in-Some-get.ensures.lookup)
    c.in_ok-unit.ensures.unit c.in_ok-unit.ensures.few (first_of (search rules, grind (arith, common_steps)))

pub loop-position-preserved : goal.loop-position-preserved
loop-position-preserved c =
    absurd
    (none_missing c.args.blocks.now (in_order c.args.blocks.now) c.loop-position.units c.loop-position.rest.now c.in-Some.behind.now
    c.in-Some.position.now c.loop-position.invariant (first_of (search rules, grind (arith, common_steps))) c.in_default-get.ensures.lookup)

pub returns-clause-units : goal.returns-clause-units
returns-clause-units c =
    (all_are_made c.args.blocks.now (in_order c.args.blocks.now) c.loop-position.units c.loop-position.rest.now c.loop-position.invariant
    (first_of (search rules, grind (arith, common_steps)))).0

pub returns-clause-few : goal.returns-clause-few
returns-clause-few c =
    (all_are_made c.args.blocks.now (in_order c.args.blocks.now) c.loop-position.units c.loop-position.rest.now c.loop-position.invariant
    (first_of (search rules, grind (arith, common_steps)))).1

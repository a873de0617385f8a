use Rattle.std.proofs.Common.{rules, arith}
use Rattle.std.proofs.lemmas.Grind.{common_steps}
use Rattle.dispatch_loops.proofs.TurnTexts.{next_entry}
use Rattle.dispatch_loops.proofs.dispatch.table_arms.Goals as goal

pub loop-to-preserved : goal.loop-to-preserved
loop-to-preserved c = record {
  arms = next_entry c.args.turns.selector c.args.turns.past c.in-Some.to c.loop-to.number c.loop-to.yielded c.loop-to.arms c.push.new.self
      c.in_ok-arm_for.field-0 c.loop-to.invariant.arms c.loop-to.invariant.count (first_of (search rules, grind (arith, common_steps)))
      (first_of (search rules, grind (arith, common_steps)));
  count = first_of (search rules, grind (arith, common_steps));
}

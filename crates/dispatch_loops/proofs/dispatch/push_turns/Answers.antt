use Rattle.std.proofs.Common.{rules, arith}
use Rattle.std.proofs.lemmas.Grind.{common_steps}
use Rattle.std.proofs.lemmas.Result.{on_ok_weaker}
use Rattle.dispatch_loops.proofs.TurnTexts.{written_in_turns}
use Rattle.dispatch_loops.proofs.dispatch.push_turns.Goals as goal

pub returns : goal.returns
returns c all known few within from =
    on_ok_weaker c.push-2.result
    (written_in_turns all c.args.blocks.now c.args.turns c.args.nodes.now.items c.node_arms.new.nodes.items c.in_ok-arms.arms c.args.out.now
    c.push.new.self c.push-2.new.self c.in_ok-body.body c.endless.result c.requires within from
    (first_of (search rules, grind (arith, common_steps))) (first_of (search rules, grind (arith, common_steps)))
    (first_of (search rules, grind (arith, common_steps))) (first_of (search rules, grind (arith, common_steps))) c.endless.ensures)
    c.push-2.ensures.ok

use Rattle.std.proofs.Common.{rules, arith}
use Rattle.std.proofs.lemmas.Grind.{common_steps}
use Rattle.segment_plans.proofs.Lasts.{are_known}
use Rattle.segment_plans.proofs.blocks.blocks_of.Goals as goal

pub returns : goal.returns
returns c =
    are_known c.args.nodes.now _ c.in_ok-exits.ensures (first_of (search rules, grind (arith, common_steps)))
    (first_of (search rules, grind (arith, common_steps))) (first_of (search rules, grind (arith, common_steps))) c.ends_alone-ends_alone.ensures

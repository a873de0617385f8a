use Rattle.std.proofs.Common.{rules, arith}
use Rattle.std.proofs.lemmas.Grind.{common_steps}
use Rattle.flow_graph.proofs.Making.{blocks_made}
use Rattle.flow_graph.proofs.nodes.blocks.Goals as goal

pub returns : goal.returns
returns c =
    blocks_made c.args.body.now c.in_ok-begins.begins.items c.in_ok-numbers.numbers.items c.in_ok-bounds.bounds.items c.in_ok-exits.exits.items
    c.in_ok-begins.ensures (first_of (search rules, grind (arith, common_steps))) (first_of (search rules, grind (arith, common_steps)))
    (first_of (search rules, grind (arith, common_steps))) c.requires.some c.requires.targets

use Rattle.flow_graph.proofs.Making.{all_made}
use Rattle.flow_graph.proofs.nodes.exits.Goals as goal

pub returns : goal.returns
returns c =
    all_made c.args.numbers.now c.args.body.now c.loop-rest.rest.now c.args.bounds.now c.loop-rest.exits.items c.in_default.len_below
    c.loop-rest.invariant

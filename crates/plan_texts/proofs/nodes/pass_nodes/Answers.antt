use Rattle.std.proofs.Common.{drop, ap, ◌∙◌}
use Rattle.std.proofs.lemmas.List.{drop-drop}
use Rattle.plan_texts.proofs.nodes.pass_nodes.Goals as goal

pub loop-index-preserved : goal.loop-index-preserved
loop-index-preserved c =
    c.pop_front-node.ensures.rest ∙ ap (drop 1) c.loop-index.invariant ∙ drop-drop 1 c.loop-index._index c.args.nodes.now.items

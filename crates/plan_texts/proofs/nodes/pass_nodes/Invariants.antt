use Rattle.std.proofs.Common.{◌≡◌, drop}
use Rattle.plan_texts.proofs.nodes.pass_nodes.Given as goal

abbrev pub invariant-loop-index : goal.invariant-loop-index
invariant-loop-index l = l.nodes.items ≡ drop l._index l.fn.nodes.items

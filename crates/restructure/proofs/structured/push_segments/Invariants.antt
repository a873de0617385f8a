use Rattle.std.proofs.Common.{drop}
use Rattle.restructure.proofs.Segments.{IsBegun}
use Rattle.restructure.proofs.structured.push_segments.Given as goal

abbrev pub invariant-loop-past : goal.invariant-loop-past
invariant-loop-past l =
    IsBegun l.fn.nodes.items l.unit.blocks.now l.unit.selector l.cuts (drop l.past-index l.cuts) l.first l.nodes.items l.made

use Rattle.std.proofs.Common.{◌≡◌, ◌-◌, false}
use Rattle.segment_plans.specs.inner.Spans.{few_heads}
use Rattle.segment_plans.proofs.nested.has_one_loop.Given as goal

abbrev pub invariant-loop-at : goal.invariant-loop-at
invariant-loop-at l = few_heads l.blocks l.found l.at (l.past - l.at) ≡ few_heads l.blocks false l.first (l.past - l.first)

use Rattle.std.proofs.Common.{◌≡◌, None, drop, length, replicate}
use Rattle.segment_plans.specs.inner.Finding.{lasts_from}
use Rattle.segment_plans.proofs.blocks.lasts_of.Given as goal

abbrev pub invariant-loop-from : goal.invariant-loop-from
invariant-loop-from l =
    lasts_from l.reached l.from (drop l.from l.exits) l.lasts.items ≡ lasts_from l.reached 0 l.exits (replicate (length l.exits) None)

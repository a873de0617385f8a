use Rattle.std.proofs.Common.{◌≡◌, drop, fold, max}
use Rattle.segment_plans.specs.Arms.{last_target}
use Rattle.segment_plans.proofs.arms.last_target.Given as goal

abbrev pub invariant-loop-to : goal.invariant-loop-to
invariant-loop-to l = fold max l.last (drop l.to-index l.to-items) ≡ last_target l.fn.blocks l.fn.list

use Rattle.std.proofs.Common.{◌≡◌, ◌++◌, drop}
use Rattle.region_laws.specs.Regions.{positions_of}
use Rattle.plan_texts.proofs.lists.positions.Given as goal

abbrev pub invariant-loop-target : goal.invariant-loop-target
invariant-loop-target l =
    l.labels ++ positions_of l.block l.position (drop l.target-index l.targets) ≡ positions_of l.block 0 l.targets

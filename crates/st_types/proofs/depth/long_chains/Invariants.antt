use Rattle.std.proofs.Common.{◌≡◌, ◌++◌, drop}
use Rattle.st_rules.specs.LongChains.{long_chains}
use Rattle.st_types.proofs.depth.long_chains.Given as goal

abbrev pub invariant-loop-index : goal.invariant-loop-index
invariant-loop-index l = l.breaks ++ long_chains l.begins l.index (drop l.index l.units) ≡ long_chains l.begins 0 l.units

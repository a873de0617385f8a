use Rattle.std.proofs.Common.{◌≡◌, drop}
use Rattle.call_chains.specs.inner.Cycles.{all_fall}
use Rattle.call_chains.proofs.cycle.all_fall.Given as goal

abbrev pub invariant-loop-unit : goal.invariant-loop-unit
invariant-loop-unit l = all_fall l.numbers l.unit (drop l.unit l.graph) ≡ all_fall l.numbers 0 l.graph

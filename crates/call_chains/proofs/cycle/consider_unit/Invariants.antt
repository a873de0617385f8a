use Rattle.call_chains.specs.inner.Cycles.{IsFirstBefore}
use Rattle.call_chains.proofs.cycle.consider_unit.Given as goal

abbrev pub invariant-loop-call : goal.invariant-loop-call
invariant-loop-call l = IsFirstBefore l.graph l.unit l.call-index l.first

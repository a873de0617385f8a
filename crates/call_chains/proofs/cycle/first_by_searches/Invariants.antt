use Rattle.call_chains.specs.inner.Cycles.{IsFirstBefore}
use Rattle.call_chains.proofs.cycle.first_by_searches.Given as goal

abbrev pub invariant-loop-unit : goal.invariant-loop-unit
invariant-loop-unit l = IsFirstBefore l.graph l.unit 0 l.first

use Rattle.std.proofs.Common.{◌≡◌, drop, None}
use Rattle.call_chains.specs.inner.Cycles.{candidate_from}
use Rattle.call_chains.proofs.candidate.first_candidate.Given as goal

abbrev pub invariant-loop-unit : goal.invariant-loop-unit
invariant-loop-unit l = candidate_from l.numbers l.unit l.first (drop l.unit l.graph) ≡ candidate_from l.numbers 0 None l.graph

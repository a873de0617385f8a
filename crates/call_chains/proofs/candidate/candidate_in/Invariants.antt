use Rattle.std.proofs.Common.{◌≡◌, take}
use Rattle.std.specs.List.{fold}
use Rattle.call_chains.specs.inner.Cycles.{candidate_with}
use Rattle.call_chains.proofs.candidate.candidate_in.Given as goal

abbrev pub invariant-loop-call : goal.invariant-loop-call
invariant-loop-call l = l.soonest ≡ fold (candidate_with l.numbers l.unit) l.initial.soonest (take l.call-index l.calls)

use Rattle.std.proofs.Common.{◌≡◌}
use Rattle.call_chains.specs.Chain.{chains}
use Rattle.call_chains.proofs.depth.chains.Given as goal

abbrev pub invariant-loop : goal.invariant-loop
invariant-loop l = l.begins.items ≡ chains l.graph l.counter

use Rattle.std.proofs.Common.{◌≡◌, map, take}
use Rattle.call_chains.specs.Chain.{calls_one}
use Rattle.call_chains.proofs.depth.longer.Given as goal

abbrev pub invariant-loop-calls : goal.invariant-loop-calls
invariant-loop-calls l = l.longer.items ≡ map (calls_one l.begins) (take l.calls-index l.graph)

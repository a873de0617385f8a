use Rattle.std.proofs.Common.{◌≡◌, take}
use Rattle.stl_checks.specs.inner.Chains.{calls_of_body}
use Rattle.stl_checks.proofs.chain.calls_of.Given as goal

abbrev pub invariant-loop-instr : goal.invariant-loop-instr
invariant-loop-instr l = l.calls ≡ calls_of_body (take l.instr-index l.body)

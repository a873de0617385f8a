use Rattle.std.proofs.Common.{◌≡◌, take}
use Rattle.stl_checks.specs.inner.Chains.{graph_of}
use Rattle.stl_checks.proofs.chain.graph_of.Given as goal

abbrev pub invariant-loop-block : goal.invariant-loop-block
invariant-loop-block l = l.graph ≡ graph_of (take l.block-index l.blocks)

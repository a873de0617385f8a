use Rattle.std.proofs.Common.{◌≡◌, take}
use Rattle.stl_rules.specs.Extents.{elements_in}
use Rattle.symbol_layout.specs.Kept.{capped_bits}
use Rattle.symbol_layout.proofs.extent.elements_in.Given as goal

abbrev pub invariant-loop-dimension : goal.invariant-loop-dimension
invariant-loop-dimension l = l.count ≡ capped_bits (elements_in (take l.dimension-index l.bounds))

use Rattle.std.proofs.Common.{◌≡◌, take}
use Rattle.stl_rules.specs.Extents.{end_of_all}
use Rattle.symbol_layout.specs.Kept.{capped_bits}
use Rattle.symbol_layout.proofs.extent.«+extent».Given as goal

abbrev pub invariant-end_of_all-loop-d : goal.invariant-end_of_all-loop-d
invariant-end_of_all-loop-d l = l.end ≡ capped_bits (end_of_all l.start (take l.d-index l.decls))

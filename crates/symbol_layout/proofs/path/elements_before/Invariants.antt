use Rattle.std.proofs.Common.{◌≡◌, ◌≤◌, ◌^◌, drop}
use Rattle.std.specs.Option.{option_map}
use Rattle.stl_rules.specs.Paths.{elements_before}
use Rattle.symbol_layout.specs.Kept.{capped_bits}
use Rattle.symbol_layout.proofs.path.elements_before.Given as goal

abbrev pub invariant-loop-dimension : goal.invariant-loop-dimension
invariant-loop-dimension l =
    (l.rows ≤ 2 ^ 60)
    × (option_map capped_bits (elements_before l.rows (drop l.dimension-index l.bounds) l.rest) ≡ option_map capped_bits (elements_before 0 l.bounds l.indices))

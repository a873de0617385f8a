use Rattle.std.proofs.Common.{◌≡◌}
use Rattle.std.specs.List.{filter_map}
use Rattle.symbol_names.specs.inner.Kept.{symbol_kept}
use Rattle.symbol_names.proofs.resolution.symbols_of.Given as goal

abbrev pub invariant-loop-line : goal.invariant-loop-line
invariant-loop-line l = l.symbols ≡ filter_map symbol_kept l.yielded

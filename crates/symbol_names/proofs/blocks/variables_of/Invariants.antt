use Rattle.std.proofs.Common.{◌≡◌, take}
use Rattle.symbol_names.proofs.blocks.variables_of.Given as goal

abbrev pub invariant-loop-raw : goal.invariant-loop-raw
invariant-loop-raw l = l.variables.items ≡ take l.raw-index l.raws

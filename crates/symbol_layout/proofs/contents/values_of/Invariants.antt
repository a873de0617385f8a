use Rattle.std.proofs.Common.{◌≡◌, take}
use Rattle.stl_rules.specs.Contents.{values_of}
use Rattle.symbol_layout.proofs.contents.values_of.Given as goal

abbrev pub invariant-loop-item : goal.invariant-loop-item
invariant-loop-item l = l.values.items ≡ values_of (take l.item-index l.items)

use Rattle.std.proofs.Common.{◌≡◌, ◌+◌, ◌≤◌, ◌^◌, drop}
use Rattle.stl_rules.specs.DeclarationRules.{values_in}
use Rattle.symbol_layout.specs.Kept.{capped_bits}
use Rattle.symbol_layout.proofs.initial.values_in.Given as goal

abbrev pub invariant-loop-item : goal.invariant-loop-item
invariant-loop-item l = (l.count ≤ 2 ^ 60) × (capped_bits (l.count + values_in (drop l.item-index l.items)) ≡ capped_bits (values_in l.items))

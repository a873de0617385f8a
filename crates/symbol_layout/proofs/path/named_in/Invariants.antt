use Rattle.std.proofs.Common.{◌≡◌, ◌≤◌, ◌^◌, drop}
use Rattle.stl_rules.specs.Paths.{named_in}
use Rattle.symbol_layout.specs.Kept.{capped_placed}
use Rattle.symbol_layout.proofs.path.named_in.Given as goal

abbrev pub invariant-loop-section : goal.invariant-loop-section
invariant-loop-section l =
    (l.end ≤ 2 ^ 60) × (capped_placed (named_in l.end (drop l.section-index l.sections) l.name) ≡ capped_placed (named_in 0 l.sections l.name))

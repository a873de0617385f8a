use Rattle.std.proofs.Common.{◌≡◌, ◌≤◌, ◌^◌, drop}
use Rattle.stl_rules.specs.TooLarge.{first_large_in}
use Rattle.symbol_layout.specs.Kept.{sections_now}
use Rattle.symbol_layout.proofs.too_large.first_large_in.Given as goal

abbrev pub invariant-loop-section : goal.invariant-loop-section
invariant-loop-section l =
    (l.end ≤ 2 ^ 60)
    × (first_large_in l.limit l.end (sections_now (drop l.section-index l.sections)) ≡ first_large_in l.limit 0 (sections_now l.sections))

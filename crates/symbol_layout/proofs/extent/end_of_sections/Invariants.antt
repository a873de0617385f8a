use Rattle.std.proofs.Common.{◌≡◌, ◌≤◌, ◌^◌, drop}
use Rattle.stl_rules.specs.Extents.{end_of_sections}
use Rattle.symbol_layout.specs.Kept.{sections_now, capped_bits}
use Rattle.symbol_layout.proofs.extent.end_of_sections.Given as goal

abbrev pub invariant-loop-section : goal.invariant-loop-section
invariant-loop-section l =
    (l.end ≤ 2 ^ 60)
    × (capped_bits (end_of_sections l.end (sections_now (drop l.section-index l.sections))) ≡ capped_bits (end_of_sections 0 (sections_now l.sections)))

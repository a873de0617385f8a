use Rattle.std.proofs.Common.{◌≡◌, [], drop}
use Rattle.stl_rules.specs.Contents.{bits_of_sections}
use Rattle.symbol_layout.specs.Kept.{sections_now}
use Rattle.symbol_layout.proofs.contents.bits_of_sections.Given as goal

abbrev pub invariant-loop-section : goal.invariant-loop-section
invariant-loop-section l =
    bits_of_sections l.bits.items (sections_now (drop l.section-index l.sections)) ≡ bits_of_sections [] (sections_now l.sections)

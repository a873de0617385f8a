use Rattle.std.proofs.Common.{◌≡◌, take}
use Rattle.symbol_layout.specs.Kept.{sections_now}
use Rattle.symbol_layout.proofs.laying_out.sections_of.Given as goal

abbrev pub invariant-loop-section : goal.invariant-loop-section
invariant-loop-section l = sections_now l.sections.items ≡ take l.section-index l.decls.sections

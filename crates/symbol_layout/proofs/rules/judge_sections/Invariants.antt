use Rattle.std.proofs.Common.{◌≡◌, ◌++◌, drop}
use Rattle.stl_rules.specs.DeclarationRules.{scope_breaks, section_breaks}
use Rattle.symbol_layout.proofs.Sections.{flat}
use Rattle.symbol_layout.specs.Kept.{sections_now}
use Rattle.symbol_layout.proofs.rules.judge_sections.Given as goal

abbrev pub invariant-loop-section : goal.invariant-loop-section
invariant-loop-section l =
    l.breaks ++ scope_breaks l.names (flat (sections_now (drop l.section-index l.sections)))
    ≡ l.initial.breaks ++ section_breaks (sections_now l.sections)

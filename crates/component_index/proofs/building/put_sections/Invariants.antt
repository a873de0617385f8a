use Rattle.std.proofs.Common.{◌≡◌, take}
use Rattle.stl_rules.specs.Extents.{end_of_sections}
use Rattle.stl_rules.specs.Paths.{named_in}
use Rattle.symbol_layout.specs.Kept.{sections_now, capped_bits}
use Rattle.component_index.specs.inner.Scopes.{AreScopes, IsTable, declarations_in, table_of}
use Rattle.component_index.proofs.building.put_sections.Given as goal

abbrev pub invariant-loop-section : goal.invariant-loop-section
invariant-loop-section l =
    AreScopes l.scopes.items
    × (l.end ≡ capped_bits (end_of_sections 0 (sections_now (take l.section-index l.sections))))
    × IsTable (declarations_in l.scopes.items) (named_in 0 (sections_now (take l.section-index l.sections))) (table_of l.names)

use Rattle.std.proofs.Common.{◌≡◌, take}
use Rattle.stl_rules.specs.Extents.{end_of_all}
use Rattle.stl_rules.specs.Paths.{named_behind}
use Rattle.symbol_layout.specs.Kept.{capped_bits}
use Rattle.component_index.specs.inner.Scopes.{Adds, AreScopes, Grows, declarations_in, table_of}
use Rattle.component_index.proofs.building.«+building».Given as goal

abbrev pub invariant-put_section-loop-d : goal.invariant-put_section-loop-d
invariant-put_section-loop-d l =
    AreScopes l.scopes.items
    × Grows l.initial.scopes.items l.scopes.items
    × (l.end ≡ capped_bits (end_of_all l.start (take l.d-index l.decls)))
    × Adds (declarations_in l.scopes.items) (named_behind l.start (take l.d-index l.decls)) (table_of l.initial.names) (table_of l.names)

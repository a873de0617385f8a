use Rattle.std.proofs.Common.{◌≡◌, drop}
use Rattle.stl_rules.specs.Paths.{after_path}
use Rattle.symbol_layout.specs.Kept.{capped_placed}
use Rattle.component_index.specs.inner.Scopes.{IsAt, declarations_in, placed_of_entry}
use Rattle.component_index.proofs.walking.after_path.Given as goal

abbrev pub invariant-loop-step : goal.invariant-loop-step
invariant-loop-step l =
    IsAt (declarations_in l.scopes) l.at
    × (capped_placed (after_path (drop l.step-index l.path) (placed_of_entry l.at)) ≡ capped_placed (after_path l.path (placed_of_entry l.start)))

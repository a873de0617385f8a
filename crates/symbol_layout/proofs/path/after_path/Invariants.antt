use Rattle.std.proofs.Common.{◌≡◌, ◌≤◌, ◌^◌, drop}
use Rattle.stl_rules.specs.Paths.{after_path}
use Rattle.symbol_layout.specs.Kept.{capped_placed, placed_of_code}
use Rattle.symbol_layout.proofs.path.after_path.Given as goal

abbrev pub invariant-loop-step : goal.invariant-loop-step
invariant-loop-step l =
    (l.at.place ≤ 2 ^ 60)
    × (capped_placed (after_path (drop l.step-index l.path) (placed_of_code l.at)) ≡ capped_placed (after_path l.path (placed_of_code l.start)))

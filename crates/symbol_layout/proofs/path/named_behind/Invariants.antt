use Rattle.std.proofs.Common.{◌≡◌, ◌≤◌, ◌^◌, drop}
use Rattle.stl_rules.specs.Paths.{named_behind}
use Rattle.symbol_layout.specs.Kept.{capped_placed}
use Rattle.symbol_layout.proofs.path.named_behind.Given as goal

abbrev pub invariant-loop-d : goal.invariant-loop-d
invariant-loop-d l =
    (l.end ≤ 2 ^ 60) × (capped_placed (named_behind l.end (drop l.d-index l.decls) l.name) ≡ capped_placed (named_behind l.start l.decls l.name))

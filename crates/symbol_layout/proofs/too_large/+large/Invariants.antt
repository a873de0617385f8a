use Rattle.std.proofs.Common.{◌≡◌, ◌≤◌, ◌^◌, drop}
use Rattle.stl_rules.specs.TooLarge.{first_large}
use Rattle.symbol_layout.proofs.too_large.«+large».Given as goal

abbrev pub invariant-first_large-loop-d : goal.invariant-first_large-loop-d
invariant-first_large-loop-d l = (l.end ≤ 2 ^ 60) × (first_large l.limit l.end (drop l.d-index l.decls) ≡ first_large l.limit l.start l.decls)

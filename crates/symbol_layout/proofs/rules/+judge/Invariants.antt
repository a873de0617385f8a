use Rattle.std.proofs.Common.{◌≡◌, ◌++◌, drop, take}
use Rattle.stl_rules.specs.DeclarationRules.{scope_breaks}
use Rattle.symbol_layout.specs.inner.Scopes.{names_behind}
use Rattle.symbol_layout.proofs.rules.«+judge».Given as goal

abbrev pub invariant-judge_scope-loop-d : goal.invariant-judge_scope-loop-d
invariant-judge_scope-loop-d l =
    (l.names ≡ names_behind l.initial.names (take l.d-index l.decls))
    × (l.breaks ++ scope_breaks l.names (drop l.d-index l.decls) ≡ l.initial.breaks ++ scope_breaks l.initial.names l.decls)

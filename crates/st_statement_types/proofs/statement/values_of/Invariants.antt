use Rattle.std.proofs.Common.{◌≡◌, ℤ, map, take}
use Rattle.st_tree.specs.declared.expr.StType.{StType}
use Rattle.st_statement_types.proofs.statement.values_of.Given as goal

abbrev pub invariant-loop-label : goal.invariant-loop-label
invariant-loop-label l = l.values ≡ map (λ (label : StType × ℤ). label.1) (take l.label-index l.labels)

use Rattle.std.proofs.Common.{◌≡◌, drop, map}
use Rattle.call_operands.specs.inner.ActualPlaces.{lacks_one}
use Rattle.call_operands.proofs.actuals.Actuals.lacks_one.Given as goal

abbrev pub invariant-loop-place : goal.invariant-loop-place
invariant-loop-place l = lacks_one l.self (drop l.place (map (λ e. e.0.items) l.names.entries)) ≡ lacks_one l.self (map (λ e. e.0.items) l.names.entries)

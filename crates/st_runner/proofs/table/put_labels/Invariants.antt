use Rattle.std.proofs.Common.{◌≡◌, ℤ, if◌then◌else◌, length, None, Some}
use Rattle.std.specs.HashMap.{get}
use Rattle.std.specs.Option.{option_or}
use Rattle.std.specs.Ordering.{int_eq}
use Rattle.st_runner.specs.inner.Choice.{has_label}
use Rattle.st_runner.proofs.table.put_labels.Given as goal

abbrev pub decreases-loop-label : goal.decreases-loop-label
decreases-loop-label l = length l.rest

abbrev pub invariant-loop-label : goal.invariant-loop-label
invariant-loop-label l =
    (n : ℤ)
    → option_or (get int_eq l.places n) (if has_label l.rest n then Some l.at else None)
    ≡ option_or (get int_eq l.fn.places n) (if has_label l.labels n then Some l.at else None)

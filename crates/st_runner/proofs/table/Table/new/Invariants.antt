use Rattle.std.proofs.Common.{◌≡◌, ◌+◌, ℤ, length}
use Rattle.std.specs.HashMap.{get}
use Rattle.std.specs.Option.{option_or}
use Rattle.std.specs.Ordering.{int_eq}
use Rattle.st_runner.specs.inner.Choice.{labels_of, place_from}
use Rattle.st_runner.proofs.table.Table.new.Given as goal

abbrev pub decreases-loop-arm : goal.decreases-loop-arm
decreases-loop-arm l = length l.rest

abbrev pub invariant-loop-arm : goal.invariant-loop-arm
invariant-loop-arm l =
    ((n : ℤ) → option_or (get int_eq l.places n) (place_from l.at n (labels_of l.rest)) ≡ place_from 0 n (labels_of l.arms))
    × (l.at + length l.rest ≡ length l.arms)

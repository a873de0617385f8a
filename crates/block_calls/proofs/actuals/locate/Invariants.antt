use Rattle.std.proofs.Common.{◌≡◌, ◌+◌, length, All}
use Rattle.block_calls.proofs.Locating.{in_all}
use Rattle.block_calls.specs.inner.Views.{IsGivableActual, now_of}
use Rattle.stl_registers.specs.Values.{values}
use Rattle.stl_tree.specs.Calls.{actual_places}
use Rattle.stl_tree.specs.declared.program.Actual.{Actual}
use Rattle.block_calls.proofs.actuals.locate.Given as goal

abbrev pub decreases-loop-formal : goal.decreases-loop-formal
decreases-loop-formal l = length l.formals_left

abbrev pub invariant-loop-formal : goal.invariant-loop-formal
invariant-loop-formal l =
    (actual_places (length l.stack) 0 l.formals l.actuals (now_of (values l.registers) l.memory l.stack)
    ≡ in_all (length l.stack) l.k l.formals_left l.actuals_left (now_of (values l.registers) l.memory l.stack) l.places)
    × (l.k + length l.formals_left ≡ length l.formals) × (length l.places ≡ l.k)
    × All (λ (a : Actual). IsGivableActual a l.stack) l.actuals_left

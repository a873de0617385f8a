use Rattle.std.proofs.Common.{◌≡◌, ◌++◌, [], length}
use Rattle.st_tree.specs.WellTyped.{keys_of}
use Rattle.instruction_lowering.specs.UnitNames.{formals_from}
use Rattle.instruction_lowering.proofs.unit_names.named_formals.Given as goal

abbrev pub decreases-loop-formal : goal.decreases-loop-formal
decreases-loop-formal l = length l.rest

abbrev pub invariant-loop-formal : goal.invariant-loop-formal
invariant-loop-formal l = l.named ++ formals_from (keys_of l.named) (length l.named) l.rest ≡ formals_from [] 0 l.formals

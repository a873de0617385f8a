use Rattle.std.proofs.Common.{◌≡◌, length}
use Rattle.st_tree.specs.WellTyped.{keys_of}
use Rattle.instruction_lowering.specs.UnitNames.{until_new}
use Rattle.instruction_lowering.proofs.unit_names.until_new.Given as goal

abbrev pub decreases-loop-behind : goal.decreases-loop-behind
decreases-loop-behind l = length l.rest

abbrev pub invariant-loop-behind : goal.invariant-loop-behind
invariant-loop-behind l = until_new (length l.rest) (keys_of l.earlier) l.name ≡ until_new (length l.earlier) (keys_of l.earlier) l.fn.name

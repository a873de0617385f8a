use Rattle.std.proofs.Common.{◌≡◌, length}
use Rattle.st_tree.specs.Naming.{is_new, key_of}
use Rattle.st_tree.specs.WellTyped.{keys_of}
use Rattle.instruction_lowering.proofs.unit_names.has_name.Given as goal

abbrev pub decreases-loop-formal : goal.decreases-loop-formal
decreases-loop-formal l = length l.rest

-- none of those before has the name
abbrev pub invariant-loop-formal : goal.invariant-loop-formal
invariant-loop-formal l = is_new (key_of l.name) (keys_of l.rest) ≡ is_new (key_of l.name) (keys_of l.formals)

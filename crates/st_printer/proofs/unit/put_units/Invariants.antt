use Rattle.st_tree.proofs.Common.{◌≡◌, ◌++◌, take, flat_map, unit_text}
use Rattle.st_printer.proofs.unit.put_units.Given as goal

-- what was passed so far stands after what stood there
abbrev pub invariant-loop-unit : goal.invariant-loop-unit
invariant-loop-unit l = l.out.items ≡ l.fn.out.items ++ flat_map (unit_text l.tree) (take l.unit-index l.units)

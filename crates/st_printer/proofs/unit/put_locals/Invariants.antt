use Rattle.st_tree.proofs.Common.{◌≡◌, ◌++◌, take, flat_map, local_text}
use Rattle.st_printer.proofs.unit.put_locals.Given as goal

-- what was passed so far stands after what stood there
abbrev pub invariant-loop-local : goal.invariant-loop-local
invariant-loop-local l = l.out.items ≡ l.fn.out.items ++ flat_map local_text (take l.local-index l.locals)

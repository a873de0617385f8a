use Rattle.st_tree.proofs.Common.{◌≡◌, ◌++◌, take, flat_map, global_text}
use Rattle.st_printer.proofs.global.put_located_globals.Given as goal

-- what was passed so far stands after what stood there
abbrev pub invariant-loop-global : goal.invariant-loop-global
invariant-loop-global l = l.out.items ≡ l.fn.out.items ++ flat_map global_text (take l.global-index l.globals)

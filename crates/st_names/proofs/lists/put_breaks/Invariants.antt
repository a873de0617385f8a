use Rattle.std.proofs.Common.{◌≡◌, ◌++◌, take}
use Rattle.st_names.proofs.lists.put_breaks.Given as goal

abbrev pub invariant-loop-other : goal.invariant-loop-other
invariant-loop-other l = l.breaks ≡ l.initial.breaks ++ take l.other-index l.more

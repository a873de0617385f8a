use Rattle.std.proofs.Common.{◌≡◌, ◌++◌, take}
use Rattle.stl_checks.specs.inner.Formals.{lines_of}
use Rattle.stl_checks.proofs.bodies.put_lines.Given as goal

abbrev pub invariant-loop-d : goal.invariant-loop-d
invariant-loop-d l = l.lines ≡ l.initial.lines ++ lines_of (take l.d-index l.decls)

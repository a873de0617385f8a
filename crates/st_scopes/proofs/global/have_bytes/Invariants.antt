use Rattle.std.proofs.Common.{◌≡◌, ◌+◌, drop}
use Rattle.st_rules.specs.Globals.{total}
use Rattle.st_scopes.proofs.global.have_bytes.Given as goal

abbrev pub invariant-loop-run : goal.invariant-loop-run
invariant-loop-run l = l.size + total (drop l.run-index l.runs) ≡ l.left + total l.runs

use Rattle.std.proofs.Common.{◌≡◌, drop}
use Rattle.stl_rules.specs.Calls.{are_repeated, repeats_behind}
use Rattle.call_operands.proofs.actuals.are_repeated.Given as goal

abbrev pub invariant-loop-actual : goal.invariant-loop-actual
invariant-loop-actual l = repeats_behind l.names (drop l.actual-index l.all) ≡ are_repeated l.all

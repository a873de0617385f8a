use Rattle.std.proofs.Common.{◌≡◌, take}
use Rattle.stl_rules.specs.Calls.{all_own_rules}
use Rattle.call_operands.specs.inner.Rules.{with_rules}
use Rattle.call_operands.proofs.rules.note_all_own.Given as goal

abbrev pub invariant-loop-actual : goal.invariant-loop-actual
invariant-loop-actual l = l.least ≡ with_rules l.initial.least (all_own_rules l.scope (take l.actual-index l.actuals))

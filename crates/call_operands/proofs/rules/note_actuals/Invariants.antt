use Rattle.std.proofs.Common.{◌≡◌, take}
use Rattle.stl_rules.specs.Calls.{rules_of_actuals}
use Rattle.stl_rules.specs.Interfaces.{formals_of}
use Rattle.call_operands.specs.inner.Rules.{with_rules}
use Rattle.call_operands.proofs.rules.note_actuals.Given as goal

abbrev pub invariant-loop-actual : goal.invariant-loop-actual
invariant-loop-actual l = l.least ≡ with_rules l.initial.least (rules_of_actuals l.scope (formals_of l.called) (take l.actual-index l.actuals))

use Rattle.std.proofs.Common.{◌≡◌, ◌++◌, take}
use Rattle.st_rules.specs.Invocations.{given_by}
use Rattle.st_statement_types.proofs.invocation.given_by.Given as goal

abbrev pub invariant-loop-actual : goal.invariant-loop-actual
invariant-loop-actual l = record {
  vars : l.vars ≡ (given_by l.at.scope.now l.at.line l.types (take l.actual-index l.actuals)).vars;
  breaks : l.breaks ≡ l.initial.breaks ++ (given_by l.at.scope.now l.at.line l.types (take l.actual-index l.actuals)).breaks;
}

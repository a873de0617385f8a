use Rattle.std.proofs.Common.{◌≡◌, ◌++◌, take}
use Rattle.st_rules.specs.Invocations.{given_to_none}
use Rattle.st_statement_types.proofs.invocation.judge_actuals.Given as goal

abbrev pub invariant-loop-actual : goal.invariant-loop-actual
invariant-loop-actual l = record {
  vars : l.vars ≡ (given_to_none l.at.scope.now l.at.line (take l.actual-index l.actuals)).vars;
  breaks : l.breaks ≡ l.initial.breaks ++ (given_to_none l.at.scope.now l.at.line (take l.actual-index l.actuals)).breaks;
}

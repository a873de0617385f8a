use Rattle.std.proofs.Common.{sym, ◌∙◌, subst, refl}
use Rattle.call_chains.specs.Chain.{IsFirstCycle}
use Rattle.st_rules.specs.Typed.{cycle, long, no_unit}
use Rattle.st_types.proofs.Refusals.{is_nil}
use Rattle.st_types.proofs.text.judge_calls.Goals as goal

pub returns-in-Some-clause-err : goal.returns-in-Some-clause-err
returns-in-Some-clause-err c = cycle (subst (IsFirstCycle c.args.graph.now) c.in-Some.is c.in_ok-line.ensures)

pub returns-in-Some-2-clause-err : goal.returns-in-Some-2-clause-err
returns-in-Some-2-clause-err c =
    long (subst (IsFirstCycle c.args.graph.now) c.in_default.is c.in_ok-line.ensures) (sym c.in_ok-first.ensures ∙ c.in-Some-2.is)

pub returns-then-is_empty-clause-err : goal.returns-then-is_empty-clause-err
returns-then-is_empty-clause-err c = no_unit (is_nil c.args.units.now c.if-is_empty.ensures) refl

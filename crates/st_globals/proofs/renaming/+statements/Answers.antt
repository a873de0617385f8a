use Rattle.std.proofs.Common.{rules, sym, ap, ◌∙◌}
use Rattle.st_globals.specs.WithVariables.{arm_with, case_with, stmt_with}
use Rattle.st_globals.specs.inner.Tables.{var_by}
use Rattle.st_globals.proofs.ArmParts.{arm_is, case_is}
use Rattle.st_globals.proofs.InPlace.{change_item}
use Rattle.st_globals.proofs.renaming.+statements.Goals as goal

pub named_arms-loop-arm-preserved : goal.named_arms-loop-arm-preserved
named_arms-loop-arm-preserved t c = (
  search rules,
  change_item (arm_with (var_by c.args.numbers.now.entries)) c.args.arms c.deref_mut-arm-items.result.now
      c.loop-arm.arm-items c.loop-arm.arm-index c.arm-item.result _ (search rules) c.loop-arm.invariant.1 c.loop-arm-test.true
      c.arm-item.is
      (arm_is (var_by c.args.numbers.now.entries) c.arm-item.result c.replace-test.result c.in_ok-test.test c.in_ok-body.body
      (c.replace-test.ensures.value ∙ sym c.arm-item.is) c.in_ok-test.ensures c.in_ok-body.ensures),
)

pub named_body-loop-stmt-preserved : goal.named_body-loop-stmt-preserved
named_body-loop-stmt-preserved t c = (
  search rules,
  change_item (stmt_with (var_by c.args.numbers.now.entries)) c.args.body c.deref_mut-stmt-items.result.now
      c.loop-stmt.stmt-items c.loop-stmt.stmt-index c.stmt-item.result _ (search rules) c.loop-stmt.invariant.1
      c.loop-stmt-test.true c.stmt-item.is
      (c.in_ok-stmt.ensures ∙ ap (stmt_with (var_by c.args.numbers.now.entries)) (c.replace.ensures.value ∙ sym c.stmt-item.is)),
)

pub named_cases-loop-arm-preserved : goal.named_cases-loop-arm-preserved
named_cases-loop-arm-preserved t c = (
  search rules,
  change_item (case_with (var_by c.args.numbers.now.entries)) c.args.arms c.deref_mut-arm-items.result.now
      c.loop-arm.arm-items c.loop-arm.arm-index c.arm-item.result _ (search rules) c.loop-arm.invariant.1 c.loop-arm-test.true
      c.arm-item.is
      (case_is (var_by c.args.numbers.now.entries) c.arm-item.result c.replace-labels.result c.in_ok-body.body
      (c.replace-labels.ensures.value ∙ sym c.arm-item.is) c.in_ok-body.ensures),
)

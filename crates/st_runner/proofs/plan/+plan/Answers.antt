use Rattle.st_tree.proofs.Common.{◌≡◌, List, ◌++◌, length, length-append, ap, ◌∙◌, arith}
use Rattle.st_runner.proofs.Common.{CaseArm, Stmt}
use Rattle.st_runner.proofs.Plans.{arm_turn, case_closed, starts_turn}
use Rattle.st_runner.specs.inner.Choice.{labels_of}
use Rattle.st_runner.specs.inner.Plan.{body_parts, each_parts, all_parts, starts_from}
use Rattle.st_runner.specs.declared.plan.Part.{Part}
use Rattle.st_runner.proofs.plan.«+plan».Goals as goal

pub put_case_arms-loop-arm-preserved : goal.put_case_arms-loop-arm-preserved
put_case_arms-loop-arm-preserved t c =
    let old = c.args.parts.now.items in
    let now = c.loop-arm.parts.items in
    let new = c.put_body.new.parts.items in
    let put : new ≡ now ++ body_parts c.as_slice.result.now = c.in_ok-put_body.ensures in (
      arm_turn old now new c.loop-arm.arm-index c.args.arms.now _ c.loop-arm-test.true c.loop-arm.invariant.0
          (put ∙ ap (λ (xs : List Stmt). now ++ body_parts xs) (c.as_slice.ensures ∙ ap (λ (a : CaseArm). a.body) c.arm-item.is)),
      starts_turn old now c.args.from c.loop-arm.arm-index c.len.result c.args.arms.now c.arm-item.result c.loop-arm.starts c.push.new.self c.loop-arm-test.true
          c.loop-arm.invariant.0 c.loop-arm.invariant.1 (omega (arith, c.len.ensures, c.loop-arm.parts.ok.0)) c.in_ok-push.ensures.ok,
      omega (arith, ap (λ (xs : List Part). length xs) put, length-append now (body_parts c.as_slice.result.now), c.loop-arm.invariant.2),
    )

pub put_statement-returns-in_ok-table-in-Case : goal.put_statement-returns-in_ok-table-in-Case
put_statement-returns-in_ok-table-in-Case t c =
    let a = c.push-in-Case.new.self.items in
    let b = c.put_body-in-Case.new.parts.items in
    case_closed c.args.parts.now.items a b c.put_case_arms.new.parts.items c.close_case.new.parts.items c.len-at-in-Case.result c.args.stmt.now
    c.in-Case.field-0 c.in-Case.arms c.in-Case.other c.in_ok-table-in-Case.table c.in_ok-starts-in-Case.starts c.in-Case.is
    (omega (arith, c.len-at-in-Case.ensures, c.args.parts.now.ok.0)) c.in_ok-push-in-Case.ensures.items
    (c.in_ok-put_body-in-Case.ensures ∙ ap (λ (xs : List Stmt). a ++ body_parts xs) c.as_slice-in-Case.ensures)
    (c.in_ok-starts-in-Case.ensures.parts ∙ ap (λ (xs : List CaseArm). b ++ all_parts (each_parts xs)) c.as_slice-in-Case-2.ensures)
    (c.in_ok-table-in-Case.ensures ∙ ap labels_of c.as_slice-in-Case-3.ensures)
    (λ n e. c.in_ok-starts-in-Case.ensures.starts n e ∙ ap (λ (xs : List CaseArm). starts_from n (each_parts xs)) c.as_slice-in-Case-2.ensures)
    c.close_case.ensures

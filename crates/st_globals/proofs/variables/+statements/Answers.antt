use Rattle.std.proofs.Common.{ap, ◌∙◌, fold}
use Rattle.st_globals.specs.inner.Tables.{with_arm_keys, with_case_keys, with_stmt_keys}
use Rattle.st_globals.proofs.Marking.{arm_keys, case_keys, next_keys}
use Rattle.st_globals.proofs.variables.+statements.Goals as goal

pub put_arms-loop-arm-preserved : goal.put_arms-loop-arm-preserved
put_arms-loop-arm-preserved t c =
    next_keys with_arm_keys c.args.keys.now.keys c.args.arms.now c.loop-arm.arm-index c.arm-item.result c.loop-arm-test.true
    c.arm-item.is c.loop-arm.keys.keys c.put_body.new.keys.keys c.loop-arm.invariant
    (c.in_ok-put_body.ensures ∙ ap (fold with_stmt_keys c.put_expr.new.keys.keys) c.as_slice.ensures
    ∙ ap (λ keys. fold with_stmt_keys keys c.arm-item.result.body) c.in_ok-put_expr.ensures
    ∙ arm_keys c.arm-item.result c.loop-arm.keys.keys)

pub put_cases-loop-arm-preserved : goal.put_cases-loop-arm-preserved
put_cases-loop-arm-preserved t c =
    next_keys with_case_keys c.args.keys.now.keys c.args.arms.now c.loop-arm.arm-index c.arm-item.result c.loop-arm-test.true
    c.arm-item.is c.loop-arm.keys.keys c.put_body.new.keys.keys c.loop-arm.invariant
    (c.in_ok-put_body.ensures ∙ ap (fold with_stmt_keys c.loop-arm.keys.keys) c.as_slice.ensures
    ∙ case_keys c.arm-item.result c.loop-arm.keys.keys)

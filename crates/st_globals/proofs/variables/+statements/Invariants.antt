use Rattle.std.proofs.Common.{◌≡◌, fold, take}
use Rattle.st_globals.specs.inner.Tables.{with_arm_keys, with_case_keys, with_stmt_keys}
use Rattle.st_globals.proofs.variables.+statements.Given as goal

abbrev pub invariant-put_arms-loop-arm : goal.invariant-put_arms-loop-arm
invariant-put_arms-loop-arm l = l.keys.keys ≡ fold with_arm_keys l.initial.keys.keys (take l.arm-index l.arms)

abbrev pub invariant-put_body-loop-stmt : goal.invariant-put_body-loop-stmt
invariant-put_body-loop-stmt l = l.keys.keys ≡ fold with_stmt_keys l.initial.keys.keys (take l.stmt-index l.body)

abbrev pub invariant-put_cases-loop-arm : goal.invariant-put_cases-loop-arm
invariant-put_cases-loop-arm l = l.keys.keys ≡ fold with_case_keys l.initial.keys.keys (take l.arm-index l.arms)

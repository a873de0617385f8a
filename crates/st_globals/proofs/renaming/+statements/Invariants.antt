use Rattle.std.proofs.Common.{◌≡◌, ◌++◌, drop, map, take}
use Rattle.st_globals.specs.WithVariables.{arm_with, case_with, stmt_with}
use Rattle.st_globals.specs.inner.Tables.{var_by}
use Rattle.st_globals.proofs.renaming.+statements.Given as goal

abbrev pub invariant-named_arms-loop-arm : goal.invariant-named_arms-loop-arm
invariant-named_arms-loop-arm l =
    goal.unvisited-named_arms-loop-arm l
    × (l.arm-items ≡ map (arm_with (var_by l.numbers.entries)) (take l.arm-index l.fn.arms) ++ drop l.arm-index l.fn.arms)

abbrev pub invariant-named_body-loop-stmt : goal.invariant-named_body-loop-stmt
invariant-named_body-loop-stmt l =
    goal.unvisited-named_body-loop-stmt l
    × (l.stmt-items ≡ map (stmt_with (var_by l.numbers.entries)) (take l.stmt-index l.fn.body) ++ drop l.stmt-index l.fn.body)

abbrev pub invariant-named_cases-loop-arm : goal.invariant-named_cases-loop-arm
invariant-named_cases-loop-arm l =
    goal.unvisited-named_cases-loop-arm l
    × (l.arm-items ≡ map (case_with (var_by l.numbers.entries)) (take l.arm-index l.fn.arms) ++ drop l.arm-index l.fn.arms)

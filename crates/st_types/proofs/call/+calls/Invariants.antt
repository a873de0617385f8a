use Rattle.std.proofs.Common.{◌≡◌, ◌++◌, map, take}
use Rattle.st_rules.specs.Calls.{all_calls, calls_of_arm, calls_of_case_arm, join_calls}
use Rattle.st_types.proofs.call.«+calls».Given as goal

abbrev pub invariant-all_calls-loop-raw : goal.invariant-all_calls-loop-raw
invariant-all_calls-loop-raw l = l.calls ≡ l.initial.calls ++ all_calls l.scope (take l.raw-index l.raws)

abbrev pub invariant-calls_of_arms-loop-raw : goal.invariant-calls_of_arms-loop-raw
invariant-calls_of_arms-loop-raw l = l.calls ≡ l.initial.calls ++ join_calls (map (calls_of_arm l.scope) (take l.raw-index l.raws))

abbrev pub invariant-calls_of_case_arms-loop-raw : goal.invariant-calls_of_case_arms-loop-raw
invariant-calls_of_case_arms-loop-raw l = l.calls ≡ l.initial.calls ++ join_calls (map (calls_of_case_arm l.scope) (take l.raw-index l.raws))

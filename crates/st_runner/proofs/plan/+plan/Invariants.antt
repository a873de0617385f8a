use Rattle.std.proofs.Common.{◌≡◌, ◌+◌, ◌++◌, ◌≤◌, ℕ, length, take}
use Rattle.st_runner.specs.inner.Plan.{arms_parts, body_parts, each_parts, all_parts, starts_from}
use Rattle.st_runner.proofs.plan.«+plan».Given as goal

abbrev pub invariant-put_arms-loop-arm : goal.invariant-put_arms-loop-arm
invariant-put_arms-loop-arm l = l.parts.items ≡ l.initial.parts.items ++ arms_parts (take l.arm-index l.arms)

abbrev pub invariant-put_body-loop-stmt : goal.invariant-put_body-loop-stmt
invariant-put_body-loop-stmt l = l.parts.items ≡ l.initial.parts.items ++ body_parts (take l.stmt-index l.body)

abbrev pub invariant-put_case_arms-loop-arm : goal.invariant-put_case_arms-loop-arm
invariant-put_case_arms-loop-arm l =
    (l.parts.items ≡ l.initial.parts.items ++ all_parts (each_parts (take l.arm-index l.arms)))
    × ((n : ℕ) → length l.initial.parts.items ≡ l.from + n → l.starts ≡ starts_from n (each_parts (take l.arm-index l.arms)))
    × (l.from ≤ length l.parts.items)

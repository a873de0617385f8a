use Rattle.std.proofs.Common.{◌≡◌, map}
use Rattle.condition_laws.specs.inner.Rewriting.{at, rewrite, rewrite_arm, rewrite_case}
use Rattle.st_conditions.proofs.statement.«+rewrite».Given as goal

abbrev pub invariant-if_arms-loop-arm : goal.invariant-if_arms-loop-arm
invariant-if_arms-loop-arm l = l.new ≡ at l.room (map rewrite_arm l.yielded)

abbrev pub invariant-case_arms-loop-arm : goal.invariant-case_arms-loop-arm
invariant-case_arms-loop-arm l = l.new ≡ at l.room (map rewrite_case l.yielded)

abbrev pub invariant-statements-loop-x : goal.invariant-statements-loop-x
invariant-statements-loop-x l = l.new ≡ at l.room (map rewrite l.yielded)

use Rattle.std.proofs.Common.{◌≡◌, ◌++◌, length}
use Rattle.st_runner.proofs.Common.{if_body, state_of}
use Rattle.st_runner.specs.inner.Plan.{Stands, arms_parts, body_parts}
use Rattle.st_runner.proofs.state.State.if_body.Given as goal

abbrev pub decreases-loop-arm : goal.decreases-loop-arm
decreases-loop-arm l = length l.rest

abbrev pub invariant-loop-arm : goal.invariant-loop-arm
invariant-loop-arm l =
    (if_body l.globals l.rest l.other (state_of l.self) ≡ if_body l.globals l.arms l.other (state_of l.self))
    × Stands l.plan l.place (arms_parts l.rest ++ body_parts l.other)

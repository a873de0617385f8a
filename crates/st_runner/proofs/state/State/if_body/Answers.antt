use Rattle.std.proofs.Common.{rules, ◌+◌, ◌++◌, sym, ap, ◌∙◌}
use Rattle.st_runner.proofs.Common.{state_of}
use Rattle.st_runner.proofs.Plans.{arm_there, arms_end, at_stands, if_none, same_stands}
use Rattle.st_runner.specs.inner.Plan.{arms_parts, body_parts}
use Rattle.st_runner.proofs.state.State.if_body.Goals as goal

pub further-requires : goal.further-requires
further-requires c =
    (arm_there c.args.plan.now c.loop-arm.place c.loop-arm.rest.now c.in-Some.arm.now c.in-Some.behind.now (body_parts c.args.other.now)
    c.in-Some.ensures.cases.0 c.loop-arm.invariant.1).one

pub returns-then-branch : goal.returns-then-branch
returns-then-branch c =
    let h =
    (arm_there c.args.plan.now c.loop-arm.place c.loop-arm.rest.now c.in-Some.arm.now c.in-Some.behind.now (body_parts c.args.other.now)
    c.in-Some.ensures.cases.0 c.loop-arm.invariant.1).body in (
      search rules,
      at_stands c.args.plan.now (c.loop-arm.place + 1) c.further.result (body_parts c.as_slice.result.now) (sym c.further.ensures)
          (same_stands c.args.plan.now (c.loop-arm.place + 1) (body_parts c.in-Some.arm.now.body) (body_parts c.as_slice.result.now)
          (ap body_parts (sym c.as_slice.ensures)) h),
    )

pub behind_part-place-requires-clause-there : goal.behind_part-place-requires-clause-there
behind_part-place-requires-clause-there c =
    (arm_there c.args.plan.now c.loop-arm.place c.loop-arm.rest.now c.in-Some.arm.now c.in-Some.behind.now (body_parts c.args.other.now)
    c.in-Some.ensures.cases.0 c.loop-arm.invariant.1).there

pub behind_part-place-requires-clause-within : goal.behind_part-place-requires-clause-within
behind_part-place-requires-clause-within c =
    (arm_there c.args.plan.now c.loop-arm.place c.loop-arm.rest.now c.in-Some.arm.now c.in-Some.behind.now (body_parts c.args.other.now)
    c.in-Some.ensures.cases.0 c.loop-arm.invariant.1).within

pub returns : goal.returns
returns c = (
  sym c.loop-arm.invariant.0 ∙ if_none c.args.globals.now c.loop-arm.rest.now c.args.other.now (state_of c.args.self.now) c.in_default.ensures.cases,
  arms_end c.args.plan.now c.loop-arm.place c.loop-arm.rest.now (body_parts c.args.other.now) c.in_default.ensures.cases c.loop-arm.invariant.1,
)

pub loop-arm-preserved : goal.loop-arm-preserved
loop-arm-preserved c =
    let there =
    arm_there c.args.plan.now c.loop-arm.place c.loop-arm.rest.now c.in-Some.arm.now c.in-Some.behind.now (body_parts c.args.other.now)
    c.in-Some.ensures.cases.0 c.loop-arm.invariant.1 in (
      search rules,
      at_stands c.args.plan.now _ c.behind_part-place.result
          (arms_parts c.in-Some.behind.now ++ body_parts c.args.other.now) (sym c.behind_part-place.ensures) there.next,
    )

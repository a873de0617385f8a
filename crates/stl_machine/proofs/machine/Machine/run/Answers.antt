use Rattle.std.proofs.Common.{◌≡◌, ◌∙◌, ◌≤◌, None, ap, arith, rules}
use Rattle.stl_machine.proofs.Steps.{known_step, one_more, still_early}
use Rattle.stl_machine.proofs.machine.Machine.run.Goals.{else-loop-test, then-loop-test+in_default}
use Rattle.stl_machine.proofs.machine.Machine.run.Goals as goal
use Rattle.stl_machine.specs.inner.Effects.{next_of}
use Rattle.stl_machine.specs.inner.Views.{standing}
use Rattle.stl_tree.specs.StlRun.{steps_on}

pub loop-preserved : goal.loop-preserved
loop-preserved c =
    let before = c.loop.self-inside in (
      c.step_by.ensures.run
          ∙ known_step before.program.now before.progress before.state c.in-Some.instr.now c.in-Some.ensures.instruction
          ∙ one_more c.loop.counter c.args.self.now (standing before.program.now before.progress before.state) c.loop.invariant.0,
      c.loop.invariant.1,
      c.step_by.ensures.sound,
    )

pub returns-clause-state : goal.returns-clause-state
returns-clause-state c =
    let before = c.loop.self-inside in
    elim c.loop-test.branch [
      | else-loop-test w ↦ let all : c.loop.counter ≡ c.args.n = first_of (search rules, omega arith) in
          w.self-is ∙ c.loop.invariant.0 ∙ ap (λ k. steps_on k c.args.self.now) all
      | then-loop-test+in_default w ↦ let within : c.loop.counter ≤ c.args.n = first_of (search rules, omega arith) in
          let stands : next_of (standing before.program.now before.progress before.state) ≡ None = search rules in
          w.self-is
          ∙ still_early c.loop.counter c.args.n c.args.self.now (standing before.program.now before.progress before.state) within c.loop.invariant.0 stands
    ]

use Rattle.std.proofs.Common.{◌+◌, sym, subst}
use Rattle.stl_machine.proofs.Effects.{state_after}
use Rattle.stl_machine.specs.declared.machine.Progress.{Progress}
use Rattle.stl_machine.specs.inner.Runs.{IsSound}
use Rattle.stl_machine.proofs.machine.after_effect.Goals as goal

pub after_return-requires-clause-sound : goal.after_return-requires-clause-sound
after_return-requires-clause-sound c =
    state_after c.args.program.now c.args.op.now c.in-Ok-Leave.field-0 c.args.state.now c.effect_of.new.state c.requires.sound c.in-Ok-Leave.ensures

pub returns-in-Ok-Next-clause-sound : goal.returns-in-Ok-Next-clause-sound
returns-in-Ok-Next-clause-sound c =
    let sound = state_after c.args.program.now c.args.op.now c.in-Ok-Next.field-0 c.args.state.now c.effect_of.new.state
    c.requires.sound c.in-Ok-Next.ensures in
    subst (λ (p : Progress). IsSound c.args.program.now p (record c.effect_of.new.state { at = c.effect_of.new.state.at + 1 }))
    (sym c.requires.running) (record { fitting = sound.fitting; memory = sound.memory })

pub returns-in-Ok-Go-clause-sound : goal.returns-in-Ok-Go-clause-sound
returns-in-Ok-Go-clause-sound c =
    let sound = state_after c.args.program.now c.args.op.now c.in-Ok-Go.field-0 c.args.state.now c.effect_of.new.state
    c.requires.sound c.in-Ok-Go.ensures in
    subst (λ (p : Progress). IsSound c.args.program.now p (record c.effect_of.new.state { at = c.in-Ok-Go.to }))
    (sym c.requires.running) (record { fitting = sound.fitting; memory = sound.memory })

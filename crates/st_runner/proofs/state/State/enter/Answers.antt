use Rattle.st_tree.proofs.Common.{◌≤◌, length, refl, sym, subst, ◌∙◌, arith, vec_capacity}
use Rattle.st_runner.proofs.Frames.{sound_running, sound_back, sound_enter, taken}
use Rattle.st_runner.proofs.state.State.enter.Goals as goal

pub locate_actuals-requires-clause-running : goal.locate_actuals-requires-clause-running
locate_actuals-requires-clause-running c =
    let r = sound_running c.requires.may.0 c.requires.may.1 c.args.self.now c.requires.may.2.sound in
    record { some = r.some; few = r.few; held = r.held }

pub locate_actuals-requires-clause-room : goal.locate_actuals-requires-clause-room
locate_actuals-requires-clause-room c =
    let can = c.requires.may.2 in
    let frame =
    (taken c.requires.may.0 c.requires.may.1 c.args.self.now.spare.items c.pop.new.self.items c.in-Some.activation c.in-Some.ensures.items can.sound.spare).1 in
    omega (arith, can.actuals_fit, frame.formals_room)

pub returns-in-Err-clause-sound : goal.returns-in-Err-clause-sound
returns-in-Err-clause-sound c = λ l f sound.
    let s = c.args.self.now in
    let a = c.in-Some.activation in
    sound_back l f s (record s { spare = c.push_reserved.new.self }) c.pop.new.self.items a (record a { formals = c.locate_actuals.new.formals })
    c.in-Some.ensures.items c.push_reserved.ensures.items refl (c.push_reserved.ensures.capacity ∙ c.in-Some.ensures.capacity)
    refl c.locate_actuals.ensures.capacity c.locate_actuals.ensures.reachable sound

pub zero_locals-requires : goal.zero_locals-requires
zero_locals-requires c =
    let can = c.requires.may.2 in
    let frame =
    (taken c.requires.may.0 c.requires.may.1 c.args.self.now.spare.items c.pop.new.self.items c.in-Some.activation c.in-Some.ensures.items can.sound.spare).1 in
    subst (λ xs. length xs ≤ vec_capacity c.in-Some.activation.locals) (sym c.as_slice.ensures) (omega (arith, can.locals_fit, frame.locals_room))

pub returns-clause-sound : goal.returns-clause-sound
returns-clause-sound c = λ l f sound.
    let s = c.args.self.now in
    let a = c.in-Some.activation in
    let b = record a { locals = c.zero_locals.new.locals; formals = c.locate_actuals.new.formals } in
    sound_enter l f s (record s { memory = c.clear.new.self; activations = c.push_reserved-2.new.self; spare = c.pop.new.self }) a b
    c.in-Some.ensures.items c.push_reserved-2.ensures.items c.push_reserved-2.ensures.capacity c.in-Some.ensures.capacity
    c.zero_locals.ensures.capacity c.locate_actuals.ensures.capacity c.locate_actuals.ensures.reachable sound

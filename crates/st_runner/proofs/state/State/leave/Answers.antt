use Rattle.st_runner.proofs.Frames.{sound_leave}
use Rattle.st_runner.proofs.state.State.leave.Goals as goal

pub returns-in-Some-clause-sound : goal.returns-in-Some-clause-sound
returns-in-Some-clause-sound c = λ l f sound.
    let s = c.args.self.now in
    sound_leave l f s (record s { activations = c.pop.new.self; spare = c.push_reserved.new.self }) c.in-Some.activation
    c.in-Some.ensures.items c.push_reserved.ensures.items c.in-Some.ensures.capacity c.push_reserved.ensures.capacity c.requires.3 sound

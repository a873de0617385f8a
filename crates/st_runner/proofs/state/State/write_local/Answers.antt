use Rattle.std.proofs.Common.{refl}
use Rattle.st_runner.proofs.Frames.{sound_by}
use Rattle.st_runner.proofs.state.State.write_local.Goals as goal

pub returns-clause-sound : goal.returns-clause-sound
returns-clause-sound c = λ l f sound.
    sound_by l f c.args.self.now (record c.args.self.now { activations = c.set_local.new.activations })
    (c.set_local.ensures.frames l f sound.running) refl c.set_local.ensures.len c.set_local.ensures.capacity sound

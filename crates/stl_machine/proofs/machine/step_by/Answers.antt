use Rattle.std.proofs.Common.{rules}
use Rattle.stl_machine.proofs.Activations.{known_next}
use Rattle.stl_machine.specs.inner.RegisterInstructions.{IsNoCall}
use Rattle.stl_machine.proofs.machine.step_by.Goals as goal

pub after_effect-requires : goal.after_effect-requires
after_effect-requires c =
    let known = known_next c.args.program.now c.requires.accepted c.args.state.now.at c.args.state.now.frames c.args.instr.now
    c.requires.sound.fitting c.requires.next in
    let no_call : IsNoCall c.args.instr.now.op = search rules in
    record {
      accepted = c.requires.accepted;
      no_call = no_call;
      running = c.requires.running;
      sound = c.requires.sound;
      places = known.places;
      begun = known.running;
      room = known.room;
    }

use Rattle.st_tree.proofs.Common.{Ok}
use Rattle.st_runner.proofs.Frames.{formal_reach}
use Rattle.st_runner.proofs.state.State.write_referred.Goals as goal

pub write_at-requires : goal.write_at-requires
write_at-requires c = formal_reach c.args.self.now c.in-Formal.i (Ok c.in_ok-reference-in-Formal.reference) c.requires.running c.in_ok-reference-in-Formal.ensures

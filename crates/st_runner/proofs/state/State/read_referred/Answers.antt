use Rattle.st_tree.proofs.Common.{Ok}
use Rattle.st_runner.proofs.Frames.{formal_reach}
use Rattle.st_runner.proofs.state.State.read_referred.Goals as goal

pub read_at-requires : goal.read_at-requires
read_at-requires c = formal_reach c.args.self.now c.in-Formal.i (Ok c.in_ok-reference-in-Formal.reference) c.requires.running c.in_ok-reference-in-Formal.ensures

use Rattle.st_runner.proofs.Shifts.{moved_below, moved_is}
use Rattle.st_runner.proofs.operators.moved_up.Goals as goal

pub returns-clause-value : goal.returns-clause-value
returns-clause-value c = moved_is c.args.bits c.args.j c.args.k c.requires.1 c.requires.2

pub returns-clause-few : goal.returns-clause-few
returns-clause-few c = moved_below c.args.bits c.args.j c.args.k c.requires.1 c.requires.2

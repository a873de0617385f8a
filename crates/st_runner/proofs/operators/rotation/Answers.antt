use Rattle.st_runner.proofs.Shifts.{turn_room}
use Rattle.st_runner.proofs.operators.rotation.Goals as goal

pub overflow_add-result : goal.overflow_add-result
overflow_add-result c = record { fits = turn_room c.moved_up.result c.args.bits c.args.j c.args.k c.moved_up.ensures.few c.requires.sizes.2 c.requires.bits }

use Rattle.instruction_laws.proofs.Located.{each_located}
use Rattle.instruction_laws.proofs.accesses_are_located.Goals as goal

pub returns : goal.returns
returns c = each_located

use Rattle.s7_base.proofs.FirstBreak.{first_of_all_is_first}
use Rattle.s7_base.proofs.break_laws.first_of_all_is_first.Goals as goal

pub returns : goal.returns
returns c = first_of_all_is_first

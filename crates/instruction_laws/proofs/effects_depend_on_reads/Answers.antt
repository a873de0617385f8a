use Rattle.instruction_laws.proofs.InstructionEffects.{effects_depend}
use Rattle.instruction_laws.proofs.effects_depend_on_reads.Goals as goal

pub returns : goal.returns
returns c = effects_depend

use Rattle.stl_instructions.proofs.InstructionLaws.{have_forms}
use Rattle.stl_instructions.proofs.laws.instructions_have_forms.Goals as goal

pub returns : goal.returns
returns c = have_forms

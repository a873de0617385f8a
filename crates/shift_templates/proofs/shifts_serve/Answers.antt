use Rattle.shift_templates.proofs.ShiftEffects.{shifts_serve}
use Rattle.shift_templates.proofs.shifts_serve.Goals as goal

pub returns : goal.returns
returns c = shifts_serve

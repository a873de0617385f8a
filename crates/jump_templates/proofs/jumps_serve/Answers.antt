use Rattle.jump_templates.proofs.Serving.{jumps}
use Rattle.jump_templates.proofs.jumps_serve.Goals as goal

pub returns : goal.returns
returns c = jumps

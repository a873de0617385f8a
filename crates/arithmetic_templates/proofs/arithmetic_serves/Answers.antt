use Rattle.arithmetic_templates.proofs.Serving.{arithmetic_serves}
use Rattle.arithmetic_templates.proofs.arithmetic_serves.Goals as goal

pub returns : goal.returns
returns c = arithmetic_serves

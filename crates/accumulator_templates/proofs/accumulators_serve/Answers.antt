use Rattle.accumulator_templates.proofs.Serving.{accumulator_serves}
use Rattle.accumulator_templates.proofs.accumulators_serve.Goals as goal

pub returns : goal.returns
returns c = accumulator_serves

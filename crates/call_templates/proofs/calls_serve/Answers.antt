use Rattle.call_templates.proofs.Serving.{calls_serve}
use Rattle.call_templates.proofs.calls_serve.Goals as goal

pub returns : goal.returns
returns c = calls_serve

use Rattle.pointer_templates.proofs.Serving.{pointers_serve}
use Rattle.pointer_templates.proofs.pointers_serve.Goals as goal

pub returns : goal.returns
returns c = pointers_serve

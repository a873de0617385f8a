use Rattle.digit_templates.proofs.Serving.{digits_serve}
use Rattle.digit_templates.proofs.digits_serve.Goals as goal

pub returns : goal.returns
returns c = digits_serve

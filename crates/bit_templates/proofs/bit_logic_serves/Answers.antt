use Rattle.bit_templates.proofs.Serving.{bit_logic}
use Rattle.bit_templates.proofs.bit_logic_serves.Goals as goal

pub returns : goal.returns
returns c = bit_logic

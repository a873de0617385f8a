use Rattle.std.proofs.Common.{◌∙◌}
use Rattle.st_globals.proofs.keys.look_up.Goals as goal

pub returns : goal.returns
returns c = c.copied.ensures ∙ c.get.ensures.value

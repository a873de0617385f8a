use Rattle.std.proofs.Common.{◌∙◌}
use Rattle.memory_areas.proofs.Blocks.{position_found}
use Rattle.memory_areas.proofs.memory.position.Goals as goal

pub returns : goal.returns
returns c = c.ok.ensures.value ∙ position_found c.args.number c.args.numbers.now c.binary_search.result c.requires c.binary_search.ensures.position

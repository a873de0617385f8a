use Rattle.image_text.proofs.Writing.{usable_fresh}
use Rattle.image_text.proofs.read.new_memory.Goals as goal

pub returns-clause-usable : goal.returns-clause-usable
returns-clause-usable c = usable_fresh c.args.blocks.now c.in_ok-memory.memory c.requires c.in_ok-memory.ensures.fresh c.in_ok-memory.ensures.numbers

use Rattle.std.proofs.Common.{◌∙◌, ap}
use Rattle.memory_areas.specs.Areas.{Contents, block_of}
use Rattle.memory_areas.specs.inner.Stored.{position_of}
use Rattle.std.specs.Prelude.{is_some}
use Rattle.memory_areas.proofs.Blocks.{has_stored}
use Rattle.memory_areas.proofs.memory.Memory.has_block.Goals as goal

pub returns : goal.returns
returns c =
    c.is_some.ensures
    ∙ ap is_some (c.position.ensures ∙ ap (position_of c.args.number) c.deref.ensures.value)
    ∙ has_stored c.args.number c.self.inside.numbers.items c.self.inside.blocks.items c.self.invariant.0
    ∙ ap (λ (m : Contents). is_some (block_of c.args.number m.areas.blocks)) c.self.view_is

use Rattle.std.proofs.Common.{◌∙◌, sym, ap}
use Rattle.memory_areas.specs.Areas.{Contents, numbers_of}
use Rattle.memory_areas.proofs.Blocks.{numbers_stored}
use Rattle.memory_areas.proofs.memory.Memory.numbers.Goals as goal

pub returns-clause-value : goal.returns-clause-value
returns-clause-value c =
    c.as_slice.ensures.value
    ∙ sym (numbers_stored c.self.inside.numbers.items c.self.inside.blocks.items c.self.invariant.0)
    ∙ ap (λ (m : Contents). numbers_of m.areas.blocks) c.self.view_is

use Rattle.std.proofs.Common.{◌∙◌, sym}
use Rattle.memory_areas.proofs.Accesses.{missing}
use Rattle.memory_areas.proofs.memory.Memory.bytes_for_access.Goals as goal

pub returns-in_default : goal.returns-in_default
returns-in_default c = missing c.args.place c.args.width c.args.self.now c.in_default.ensures (sym c.is_closed.ensures ∙ c.if-is_closed.false)

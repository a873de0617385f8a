use Rattle.std.proofs.Common.{Result, subst}
use Rattle.s7_base.specs.declared.outcome.Fault.{Fault}
use Rattle.memory_areas.specs.Access.{write_byte}
use Rattle.memory_areas.specs.Memory.{Writes}
use Rattle.memory_areas.specs.declared.place.Place.{Place}
use Rattle.memory_areas.proofs.AreaLaws.{bytes_leave_memories}
use Rattle.image_text.proofs.read.put_byte.Goals as goal

pub returns-clause-stays : goal.returns-clause-stays
returns-clause-stays c blocks memory =
    let place : Place = record { area = c.args.area; byte = c.args.at; bit = 0 } in
    bytes_leave_memories place c.args.value c.args.memory.now c.write_byte.new.self blocks c.ranges.value.fits memory
    (subst (λ (r : Result (Unit {0}) Fault). Writes (write_byte place c.args.value c.args.memory.now) r c.args.memory.now c.write_byte.new.self)
    c.unwrap.ensures c.write_byte.ensures)

use Rattle.std.proofs.Common.{◌≡◌, true, sym, subst, arith}
use Rattle.std.proofs.lemmas.Grind.{common_steps}
use Rattle.memory_areas.specs.Access.{or_none}
use Rattle.memory_areas.specs.Areas.{bytes_of}
use Rattle.image_text.specs.Image.{has_room, is_blank, values_of}
use Rattle.image_text.specs.inner.Fields.{IsUsable, pieces_left}
use Rattle.image_text.proofs.Writing.{count_is, ready, usable_written}
use Rattle.image_text.proofs.read.apply_area_line.Goals as goal

pub put_fields-requires-clause-is_open : goal.put_fields-requires-clause-is_open
put_fields-requires-clause-is_open c =
    let room : has_room (bytes_of c.args.area_line.area c.args.memory.now) c.args.area_line.byte c.in-Some.count ≡ true = grind (arith, common_steps) in
    (ready c.args.area_line.area c.args.area_line.byte c.in-Some.count c.args.memory.now c.requires.named c.requires.usable room).0

pub put_fields-requires-clause-small : goal.put_fields-requires-clause-small
put_fields-requires-clause-small c =
    let room : has_room (bytes_of c.args.area_line.area c.args.memory.now) c.args.area_line.byte c.in-Some.count ≡ true = grind (arith, common_steps) in
    let count = count_is c.in-Some.count (values_of (pieces_left is_blank c.args.area_line.fields.now)) c.in-Some.ensures in
    let small = (ready c.args.area_line.area c.args.area_line.byte c.in-Some.count c.args.memory.now c.requires.named c.requires.usable room).1 in
    omega arith

pub returns-clause-usable : goal.returns-clause-usable
returns-clause-usable c =
    let room : has_room (bytes_of c.args.area_line.area c.args.memory.now) c.args.area_line.byte c.in-Some.count ≡ true = grind (arith, common_steps) in
    let count = count_is c.in-Some.count (values_of (pieces_left is_blank c.args.area_line.fields.now)) c.in-Some.ensures in
    let whole = subst (λ n. has_room (bytes_of c.args.area_line.area c.args.memory.now) c.args.area_line.byte n ≡ true) count room in
    subst IsUsable (sym c.put_fields.ensures.done)
    (usable_written c.args.area_line.area c.args.area_line.byte
    (or_none (values_of (pieces_left is_blank c.args.area_line.fields.now))) c.args.memory.now c.requires.named c.requires.usable whole)

use Rattle.std.proofs.Common.{◌≡◌, length, arith}
use Rattle.std.proofs.lemmas.Grind.{common_steps}
use Rattle.memory_areas.specs.Access.{or_none}
use Rattle.image_text.specs.Image.{is_blank, values_of}
use Rattle.image_text.specs.inner.Fields.{pieces_left}
use Rattle.image_text.proofs.Writing.{field_done, fields_done}
use Rattle.image_text.proofs.read.put_fields.Goals as goal

pub loop-left-preserved : goal.loop-left-preserved
loop-left-preserved c =
    let done =
    field_done c.args.area c.loop-left.at c.next_value-value.result.0 (or_none (values_of (pieces_left is_blank c.next_value-value.result.1.now)))
    (or_none (values_of (pieces_left is_blank c.loop-left.left.now)))
    c.loop-left.memory c.put_byte.new.memory _ c.requires.named c.next_value-value.ensures.first
    c.loop-left.invariant.room c.put_byte.ensures.done c.loop-left.invariant.same in
    let small = c.loop-left.invariant.small in
    record {
      bytes = c.next_value-value.ensures.bytes;
      room = done.0.room;
      small = omega (arith, rw c.next_value-value.ensures.first at small);
      same = done.1;
      stays = λ blocks m. c.put_byte.ensures.stays blocks (c.loop-left.invariant.stays blocks m);
    }

pub returns-clause-done : goal.returns-clause-done
returns-clause-done c =
    let none : length c.loop-left.left.now ≡ 0 = grind (arith, common_steps) in
    fields_done c.args.area c.loop-left.at c.loop-left.left.now c.loop-left.memory _ c.requires.named none c.loop-left.invariant.room c.loop-left.invariant.same

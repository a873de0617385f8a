use Rattle.std.proofs.Common.{◌≡◌, ◌∙◌, ◌+◌, ◌≤◌, ◌<◌, [], length, sym, ap, subst, get_or, Some, None, List}
use Rattle.std.proofs.lemmas.List.{with_items_is}
use Rattle.memory_areas.specs.Access.{or_none}
use Rattle.memory_areas.specs.Areas.{Contents, bytes_of, with_bytes, overwrite}
use Rattle.memory_areas.specs.inner.Stored.{HasRoom, data_blocks_of, position_of}
use Rattle.memory_areas.specs.declared.data_block.DataBlock.{DataBlock}
use Rattle.memory_areas.specs.declared.place.Area.{Area}
use Rattle.memory_areas.specs.declared.place.Area.TheVariants as area
use Rattle.memory_areas.proofs.Blocks.{items_of, no_room, put_stored, room_stored, within_stored}
use Rattle.memory_areas.proofs.memory.Memory.write_bytes.Goals as goal

pub replace_in_block-requires-clause-within : goal.replace_in_block-requires-clause-within
replace_in_block-requires-clause-within c =
    let there : position_of c.in-Db.number c.self.inside.numbers.items ≡ Some c.in-Some.position =
    ap (position_of c.in-Db.number) (sym c.deref.ensures.value) ∙ sym c.in-Some.ensures in
    subst (λ blocks. c.in-Some.position < length blocks) (sym c.deref_mut-in-Some.ensures.value)
    (within_stored c.in-Db.number c.self.inside.numbers.items c.self.inside.blocks.items c.in-Some.position c.self.invariant.0 there)

pub replace_in_block-requires-clause-room : goal.replace_in_block-requires-clause-room
replace_in_block-requires-clause-room c =
    let there : position_of c.in-Db.number c.self.inside.numbers.items ≡ Some c.in-Some.position =
    ap (position_of c.in-Db.number) (sym c.deref.ensures.value) ∙ sym c.in-Some.ensures in
    let room = subst (λ (a : Area). HasRoom (bytes_of a c.args.self.now) c.args.place.byte (length c.args.new.now)) c.in-Db.is c.requires in
    subst (λ blocks. c.args.place.byte + length c.args.new.now ≤ length (get_or (items_of blocks) c.in-Some.position []))
    (sym c.deref_mut-in-Some.ensures.value)
    (room_stored c.in-Db.number c.self.inside.numbers.items c.self.inside.blocks.items c.in-Some.position c.args.place.byte
    (length c.args.new.now) c.self.invariant.0 there
    (subst (λ (m : Contents). HasRoom (bytes_of (area.Db c.in-Db.number) m) c.args.place.byte (length c.args.new.now)) (sym c.self.view_is) room))

pub returns-in-Some : goal.returns-in-Some
returns-in-Some c =
    let there : position_of c.in-Db.number c.self.inside.numbers.items ≡ Some c.in-Some.position =
    ap (position_of c.in-Db.number) (sym c.deref.ensures.value) ∙ sym c.in-Some.ensures in
    let sized = c.replace_in_block.auto.blocks ∙ ap length c.deref_mut-in-Some.ensures.value ∙ sym c.self.inside.blocks.ok.0 in
    let view : List DataBlock → Contents = λ blocks. record {
      areas = record {
        inputs = c.self.inside.inputs.items;
        outputs = c.self.inside.outputs.items;
        markers = c.self.inside.markers.items;
        blocks = blocks;
      };
      locals = c.self.inside.locals;
      cells = c.self.inside.cells;
    } in
    let changed =
    ap items_of (with_items_is c.self.inside.blocks c.replace_in_block.new.blocks sized)
    ∙ c.replace_in_block.ensures
    ∙ ap (λ blocks. Rattle.std.specs.Prelude.slice_set (items_of blocks) c.in-Some.position
    (overwrite (get_or (items_of blocks) c.in-Some.position []) c.args.place.byte c.args.new.now)) c.deref_mut-in-Some.ensures.value in
    let whole =
    put_stored c.in-Db.number c.self.inside.numbers.items c.self.inside.blocks.items
    c.in-Some.position c.args.place.byte c.args.new.now c.self.invariant.0 there in
    ap view (ap (data_blocks_of c.self.inside.numbers.items) changed ∙ whole)
    ∙ ap (λ (m : Contents). with_bytes (area.Db c.in-Db.number) (overwrite (or_none (bytes_of (area.Db c.in-Db.number) m)) c.args.place.byte c.args.new.now) m)
    c.self.view_is
    ∙ ap (λ (a : Area). with_bytes a (overwrite (or_none (bytes_of a c.args.self.now)) c.args.place.byte c.args.new.now) c.args.self.now) (sym c.in-Db.is)

pub returns-in_default : goal.returns-in_default
returns-in_default c =
    let nowhere : position_of c.in-Db.number c.self.inside.numbers.items ≡ None =
    ap (position_of c.in-Db.number) (sym c.deref.ensures.value) ∙ sym c.position.ensures ∙ c.in_default.is in
    let room = subst (λ (a : Area). HasRoom (bytes_of a c.args.self.now) c.args.place.byte (length c.args.new.now)) c.in-Db.is c.requires in
    absurd (no_room c.in-Db.number c.self.inside.numbers.items c.self.inside.blocks.items c.args.place.byte (length c.args.new.now) c.self.invariant.0 nowhere
    (subst (λ (m : Contents). HasRoom (bytes_of (area.Db c.in-Db.number) m) c.args.place.byte (length c.args.new.now)) (sym c.self.view_is) room))

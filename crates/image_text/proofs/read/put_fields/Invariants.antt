use Rattle.std.proofs.Common.{◌≡◌, ◌+◌, ◌<◌, ◌^◌, true, length}
use Rattle.std.specs.Prelude.{IsSome}
use Rattle.memory_areas.specs.Access.{or_none}
use Rattle.memory_areas.specs.Areas.{bytes_of}
use Rattle.image_text.specs.Image.{has_room, is_blank, values_of, with_bytes_from}
use Rattle.image_text.specs.inner.Fields.{MemoryStays, pieces_left}
use Rattle.image_text.proofs.read.put_fields.Given as goal

-- there is room for the bytes that are left, and with them the memory is the one that is wanted
abbrev pub invariant-loop-left : goal.invariant-loop-left
invariant-loop-left l = record {
  bytes : IsSome (values_of (pieces_left is_blank l.left));
  room : has_room (bytes_of l.area l.memory) l.at (length (or_none (values_of (pieces_left is_blank l.left)))) ≡ true;
  small : l.at + length (or_none (values_of (pieces_left is_blank l.left))) < 2 ^ 32;
  same : with_bytes_from l.area l.at (or_none (values_of (pieces_left is_blank l.left))) l.memory
      ≡ with_bytes_from l.area l.byte (or_none (values_of (pieces_left is_blank l.fields))) l.initial.memory;
  stays : MemoryStays l.initial.memory l.memory;
}

abbrev pub decreases-loop-left : goal.decreases-loop-left
decreases-loop-left l = length l.left

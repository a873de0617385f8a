use Rattle.std.proofs.Common.{◌≡◌, ◌≤◌, ◌+◌, length}
use Rattle.std.specs.Option.{option_map}
use Rattle.image_text.specs.Image.{is_blank, values_of}
use Rattle.image_text.specs.inner.Fields.{pieces_left}
use Rattle.image_text.proofs.area_line.count_bytes.Given as goal

-- the count so far and the bytes that are left are all bytes
abbrev pub invariant-loop-left : goal.invariant-loop-left
invariant-loop-left l = record {
  within : l.count + length l.left ≤ length l.fields;
  same : option_map (λ values. l.count + length values) (values_of (pieces_left is_blank l.left))
      ≡ option_map length (values_of (pieces_left is_blank l.fields));
}

abbrev pub decreases-loop-left : goal.decreases-loop-left
decreases-loop-left l = length l.left

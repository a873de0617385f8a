use Rattle.std.proofs.Common.{◌≡◌, length}
use Rattle.std.specs.List.{list_any}
use Rattle.image_text.specs.Image.{is_blank, is_empty}
use Rattle.image_text.specs.inner.Fields.{pieces_left}
use Rattle.image_text.proofs.area_line.has_empty.Given as goal

-- an empty field is among those that are left if it is among all
abbrev pub invariant-loop-left : goal.invariant-loop-left
invariant-loop-left l = list_any is_empty (pieces_left is_blank l.left) ≡ list_any is_empty (pieces_left is_blank l.fields)

abbrev pub decreases-loop-left : goal.decreases-loop-left
decreases-loop-left l = length l.left

use Rattle.std.proofs.Common.{◌≡◌, ◌+◌, length}
use Rattle.std.specs.List.{prefix_len}
use Rattle.body_labels.specs.inner.Listed.{is_ju}
use Rattle.body_labels.proofs.lists.count_of_ju.Given as goal

-- those that are counted and the first ones of the rest are the first ones of all
abbrev pub invariant-loop-left : goal.invariant-loop-left
invariant-loop-left l = (l.count + prefix_len is_ju l.left ≡ prefix_len is_ju l.rest) × (l.count + length l.left ≡ length l.rest)

abbrev pub decreases-loop-left : goal.decreases-loop-left
decreases-loop-left l = length l.left

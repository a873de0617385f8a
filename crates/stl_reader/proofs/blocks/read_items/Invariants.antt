use Rattle.std.proofs.Common.{◌≡◌, length}
use Rattle.stl_grammar.specs.Items.{items_from, items_of}
use Rattle.stl_reader.specs.inner.Finding.{read_behind}
use Rattle.stl_reader.proofs.blocks.read_items.Given as goal

-- what is read and the items behind it give the raw program of the whole
abbrev pub invariant-loop-item : goal.invariant-loop-item
invariant-loop-item l =
    read_behind l.reading (items_from l.end 0 l.place l.rest) ≡ read_behind l.initial.reading (items_of l.end l.tokens)

abbrev pub decreases-loop-item : goal.decreases-loop-item
decreases-loop-item l = length l.rest

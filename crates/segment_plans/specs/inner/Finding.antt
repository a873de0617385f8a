-- How it is found how a unit goes on after its nodes, and where loops end.
use Rattle.std.specs.Prelude.{ℕ, suc, Bool, true, false, ◌&&◌, nat_le, nat_lt, if◌then◌else◌, List, [], ◌∷◌, Option, Some, fold, get_or, length, slice_set}
use Rattle.flow_graph.specs.Graphs.{ways_of}
use Rattle.flow_graph.specs.declared.graph.Exit.{Exit}
use Rattle.flow_graph.specs.declared.graph.Exit.TheVariants as exit
use Rattle.st_tree.specs.declared.graph.StExit.{StExit}
use Rattle.st_tree.specs.declared.graph.StExit.TheVariants as way

-- the exit of a node, without what it tests
abbrev pub way_of : StExit → Exit
way_of way.Fall = exit.Fall
way_of (way.Jump j) = exit.Jump j
way_of (way.Branch e j) = exit.Branch j
way_of (way.EndIf e) = exit.EndIf
way_of (way.Table e targets last) = exit.Table targets last
way_of way.End = exit.End

-- the last blocks that jump back, after one more jump
abbrev pub note : ℕ → List (Option ℕ) → ℕ → List (Option ℕ)
note from lasts to = if nat_le to from && nat_lt to (length lasts) then slice_set lasts to (Some from) else lasts

-- after the jumps of a block, if it is reached
abbrev pub note_block : Bool → ℕ → Exit → List (Option ℕ) → List (Option ℕ)
note_block true from exit lasts = fold (note from) lasts (ways_of exit).jumps
note_block false from exit lasts = lasts

-- after the jumps of the blocks from a number on, of which it is known whether they are reached
abbrev pub lasts_from : List Bool → ℕ → List Exit → List (Option ℕ) → List (Option ℕ)
lasts_from reached from [] lasts = lasts
lasts_from reached from (exit ∷ rest) lasts =
    lasts_from reached (suc from) rest (note_block (get_or reached from true) from exit lasts)

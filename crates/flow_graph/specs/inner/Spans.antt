-- How far jumps pass over points between nodes. A span belongs to a node, and is the greatest end of a jump whose
-- lesser end is this node, where a jump passes over all points after its lesser end and before its greater one.
use Rattle.std.specs.Prelude.{ℕ, suc, min, max, Bool, true, false, if◌then◌else◌, nat_le, List, [], ◌∷◌, ◌++◌, fold, get_or, slice_set}
use Rattle.flow_graph.specs.Graphs.{ways_of}
use Rattle.flow_graph.specs.declared.graph.Exit.{Exit}

-- spans after one more jump from a node
abbrev pub note : ℕ → List ℕ → ℕ → List ℕ
note from spans to = slice_set spans (min from to) (max (get_or spans (min from to) 0) (max to (suc from)))

-- spans after the jumps of a node, if it is reached
abbrev pub note_exit : Bool → ℕ → Exit → List ℕ → List ℕ
note_exit true from exit spans = fold (note from) spans (ways_of exit).jumps
note_exit false from exit spans = spans

-- spans after the jumps of the nodes from a number on, of which it is known whether they are reached
abbrev pub spans_from : List Bool → ℕ → List Exit → List ℕ → List ℕ
spans_from reached from [] spans = spans
spans_from reached from (exit ∷ rest) spans =
    spans_from reached (suc from) rest (note_exit (get_or reached from true) from exit spans)

-- the points over which no jump passes, from one on that jumps from before pass over up to some point
abbrev pub cuts_from : ℕ → ℕ → List ℕ → List ℕ
cuts_from until at [] = []
cuts_from until at (span ∷ rest) =
    (if nat_le until at then at ∷ [] else []) ++ cuts_from (max until span) (suc at) rest

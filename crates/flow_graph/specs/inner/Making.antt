-- How the nodes of a body are made.
use Rattle.std.specs.Prelude.{◌≡◌, ℕ, suc, ◌≤◌, Bool, true, false, List, [], ◌∷◌, length, map, get_or}
use Rattle.stl_tree.specs.Blocks.{AreBlocksOf, Way, always, if_made, instructions_of, on, one_of, stops, unless_ended, way_of}
use Rattle.stl_tree.specs.declared.program.Instr.{Instr}
use Rattle.flow_graph.specs.Graphs.{HaveExits, extent_of}
use Rattle.flow_graph.specs.declared.graph.Exit.{Exit}
use Rattle.flow_graph.specs.declared.graph.Exit.TheVariants as exit
use Rattle.flow_graph.specs.declared.graph.Node.{Node}

-- the number at a position
abbrev pub number_at : List ℕ → ℕ → ℕ
number_at numbers at = get_or numbers at 0

-- the exit by a way, where positions have these numbers
abbrev pub exit_by : List ℕ → Way → Exit
exit_by numbers on = exit.Fall
exit_by numbers (always to) = exit.Jump (number_at numbers to)
exit_by numbers (if_made to) = exit.Branch (number_at numbers to)
exit_by numbers unless_ended = exit.EndIf
exit_by numbers (one_of targets label) = exit.Table (map (number_at numbers) targets) (number_at numbers label)
exit_by numbers stops = exit.End

-- the exit after the block from a position to the one before another
abbrev pub exit_between : List ℕ → List Instr → ℕ → ℕ → Exit
exit_between numbers body first past =
    exit_by numbers (way_of (instructions_of body (record { first = first; past = past })))

-- the positions at which blocks begin, and the end of the body; of the positions from one on it is known whether blocks
-- begin there
abbrev pub bounds_from : ℕ → List Bool → List ℕ
bounds_from at [] = at ∷ []
bounds_from at (true ∷ rest) = at ∷ bounds_from (suc at) rest
bounds_from at (false ∷ rest) = bounds_from (suc at) rest

-- the exits after the blocks between positions
abbrev pub exits_from : List ℕ → List Instr → List ℕ → List Exit
exits_from numbers body [] = []
exits_from numbers body (first ∷ []) = []
exits_from numbers body (first ∷ past ∷ rest) =
    exit_between numbers body first past ∷ exits_from numbers body (past ∷ rest)

-- the nodes with these exits, from the one of a number on, of the blocks between positions
abbrev pub joined_from : ℕ → List ℕ → List Exit → List Node
joined_from i bounds [] = []
joined_from i bounds (exit ∷ exits) =
    record { first = get_or bounds i 0; past = get_or bounds (suc i) 0; exit = exit } ∷ joined_from (suc i) bounds exits

-- exits, and the positions between which their blocks lie, are those of a body: joined they are its blocks, each with
-- an exit to the nodes that follow it; there are no more of them than instructions
pub record AreBlocks (body : List Instr) (bounds : List ℕ) (exits : List Exit) : Type 0 where
  pub blocks : AreBlocksOf body (map extent_of (joined_from 0 bounds exits))
  pub lead : HaveExits body (joined_from 0 bounds exits)
  pub size : suc (length exits) ≡ length bounds
  pub few : length exits ≤ length body

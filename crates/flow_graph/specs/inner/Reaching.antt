-- A search for the nodes that a path from the first one reaches.
use Rattle.std.specs.Prelude.{◌≡◌, ◌⊎◌, ℕ, suc, ◌<◌, Bool, true, false, if◌then◌else◌, List, [], ◌∷◌, ◌++◌, length, fold, get_or, slice_get, slice_set, Option, Some, None}
use Rattle.stl_tree.specs.Segments.{IsOneOf, IsReached, Ways}
use Rattle.flow_graph.specs.Graphs.{ways_of}
use Rattle.flow_graph.specs.declared.graph.Exit.{Exit}

-- what a search has found: which nodes are seen, and those among them from which it has not gone on yet
pub record SearchState : Type 0 where
  pub seen : List Bool
  pub work : List ℕ

abbrev pub state_of : List Bool → List ℕ → SearchState
state_of seen work = record { seen = seen; work = work }

-- what is found after one more node is met; one that is seen already, or does not exist, changes nothing
abbrev pub meet : SearchState → ℕ → SearchState
meet f i = if get_or f.seen i true then f else record { seen = slice_set f.seen i true; work = f.work ++ i ∷ [] }

-- the nodes that may follow a node
abbrev pub next_of : ℕ → Ways → List ℕ
next_of s ways = if ways.falls then suc s ∷ ways.jumps else ways.jumps

-- what is found after the search goes on from a node
abbrev pub go_on : Option Exit → ℕ → SearchState → SearchState
go_on None s f = f
go_on (Some exit) s f = fold meet f (next_of s (ways_of exit))

-- how many nodes are not seen
abbrev pub count_unseen : List Bool → ℕ
count_unseen [] = 0
count_unseen (true ∷ seen) = count_unseen seen
count_unseen (false ∷ seen) = suc (count_unseen seen)

-- all of some nodes are reached
abbrev pub AllReached : List Ways → List ℕ → Type 0
AllReached blocks [] = Unit {0}
AllReached blocks (j ∷ js) = IsReached blocks j × AllReached blocks js

-- all of some nodes are seen, or do not exist
abbrev pub AllSeen : List Bool → List ℕ → Type 0
AllSeen seen [] = Unit {0}
AllSeen seen (j ∷ js) = (get_or seen j true ≡ true) × AllSeen seen js

-- what is found is reached
pub record IsSound (blocks : List Ways) (f : SearchState) : Type 0 where
  pub size : length f.seen ≡ length blocks
  pub seen : (i : ℕ) → i < length f.seen → get_or f.seen i true ≡ true → IsReached blocks i
  pub work : AllReached blocks f.work

-- the nodes that may follow a seen node are seen, or the search has not gone on from it yet
abbrev pub IsClosedButFor : List Ways → SearchState → Type 0
IsClosedButFor blocks f = (i : ℕ) (ways : Ways) → slice_get blocks i ≡ Some ways → get_or f.seen i true ≡ true
    → IsOneOf i f.work ⊎ AllSeen f.seen (next_of i ways)

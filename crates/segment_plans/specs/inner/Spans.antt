-- How loops, jumps and jump lists around a block are counted, how it is seen that blocks end arms, and that
-- there is at most one loop.
use Rattle.std.specs.Prelude.{ℕ, zero, suc, ◌+◌, ◌-◌, ◌==◌, Bool, true, false, not, ◌&&◌, ◌||◌, nat_le, nat_lt, if◌then◌else◌, List, [], ◌∷◌, ◌++◌, Option, Some, None, get_or, slice_get, slice_set}
use Rattle.std.specs.List.{list_all}
use Rattle.std.specs.Option.{is_some}
use Rattle.flow_graph.specs.declared.graph.Exit.{Exit}
use Rattle.flow_graph.specs.declared.graph.Exit.TheVariants as exit
use Rattle.segment_plans.specs.Arms.{arms_end}
use Rattle.segment_plans.specs.Counts.{is_end, is_reached, last_of}
use Rattle.segment_plans.specs.declared.blocks.Blocks.{Blocks}
use Rattle.segment_plans.specs.declared.planning.Around.{Around}
use Rattle.segment_plans.specs.declared.planning.Around.TheVariants as around

-- loops are known by their last blocks, the innermost one first; those left that do not end before a block
abbrev pub leave : ℕ → List ℕ → List ℕ
leave at [] = []
leave at (last ∷ loops) = if nat_lt last at then leave at loops else last ∷ loops

abbrev pub with_loop : Option ℕ → List ℕ → List ℕ
with_loop None loops = loops
with_loop (Some last) loops = last ∷ loops

abbrev pub innermost : List ℕ → Option ℕ
innermost [] = None
innermost (last ∷ loops) = Some last

-- the loops around each block from the first one on
abbrev pub stack : Blocks → ℕ → ℕ → List ℕ
stack blocks first zero = []
stack blocks first (suc i) = with_loop (last_of blocks (first + i)) (leave (first + i) (stack blocks first i))

-- the innermost ones around so many blocks
abbrev pub inner_loops : Blocks → ℕ → ℕ → List (Option ℕ)
inner_loops blocks first zero = []
inner_loops blocks first (suc i) = inner_loops blocks first i ++ innermost (stack blocks first (suc i)) ∷ []

abbrev pub inner_at : List (Option ℕ) → ℕ → Option ℕ
inner_at inner place = get_or inner place None

abbrev pub left_by : Option ℕ → ℕ → Bool
left_by None to = false
left_by (Some last) to = to == last + 1

abbrev pub is_plain : Blocks → Option ℕ → ℕ → ℕ → Bool
is_plain blocks inner at to =
    nat_lt at to && is_reached blocks at && not (is_end blocks to) && not (left_by inner to)

-- the loop around a block, of which the last block alone is asked for
abbrev pub loop_by : ℕ → Option ℕ → Around
loop_by at None = around.NoLoop
loop_by at (Some last) = around.Inside at last true

-- where the arms of the jump list of a block end
abbrev pub list_end : Blocks → Option ℕ → ℕ → ℕ
list_end blocks inner at = arms_end blocks (loop_by at inner) at

-- where the plain jump of a block leads, or the arms of its list end
abbrev pub span_by : Blocks → Option ℕ → ℕ → Option Exit → Option ℕ
span_by blocks inner at (Some (exit.Jump to)) = if is_plain blocks inner at to then Some to else None
span_by blocks inner at (Some (exit.Branch to)) = if is_plain blocks inner at to then Some to else None
span_by blocks inner at (Some (exit.Table targets label)) =
    if is_reached blocks at then Some (list_end blocks inner at) else None
span_by blocks inner at other = None

abbrev pub span_end : Blocks → Option ℕ → ℕ → Option ℕ
span_end blocks inner at = span_by blocks inner at (slice_get blocks.exits.items at)

-- how many end at each block from one on, after one more
abbrev pub note_end : ℕ → List ℕ → Option ℕ → List ℕ
note_end first ends None = ends
note_end first ends (Some end) = slice_set ends (end - first) (get_or ends (end - first) 0 + 1)

-- a block ends an arm, the end of all arms of which is known, as it goes on
abbrev pub ends_arm_by : Blocks → Option ℕ → ℕ → ℕ → Option Exit → Bool
ends_arm_by blocks inner end at (Some (exit.Jump to)) =
    (to == end) || (nat_le to at || (left_by inner to || is_end blocks to))
ends_arm_by blocks inner end at (Some exit.End) = true
ends_arm_by blocks inner end at other = false

-- the block before a target of a list, if that is not the list, ends an arm
abbrev pub closes_arm : Blocks → List (Option ℕ) → ℕ → ℕ → ℕ → ℕ → Bool
closes_arm blocks inner first list end to =
    (to == list + 1)
    || ends_arm_by blocks (inner_at inner (to - 1 - first)) end (to - 1) (slice_get blocks.exits.items (to - 1))

-- all blocks right before targets of a list end arms
unfoldable pub are_all_closed : Blocks → List (Option ℕ) → ℕ → ℕ → List ℕ → Bool
are_all_closed blocks inner first list targets =
    list_all (closes_arm blocks inner first list (list_end blocks (inner_at inner (list - first)) list)) targets

abbrev pub closed_by : Blocks → List (Option ℕ) → ℕ → ℕ → Option Exit → Bool
closed_by blocks inner first list (Some (exit.Table targets label)) =
    are_all_closed blocks inner first list (label ∷ targets)
closed_by blocks inner first list other = true

abbrev pub are_closed : Blocks → List (Option ℕ) → ℕ → ℕ → Bool
are_closed blocks inner first list =
    not (is_reached blocks list) || closed_by blocks inner first list (slice_get blocks.exits.items list)

-- those of all lists of some blocks
abbrev pub all_closed : Blocks → List (Option ℕ) → ℕ → ℕ → ℕ → Bool
all_closed blocks inner first at zero = true
all_closed blocks inner first at (suc count) =
    are_closed blocks inner first at && all_closed blocks inner first (suc at) count

-- of so many blocks from one on at most one is the head of a loop, or none is where one was found
abbrev pub few_heads : Blocks → Bool → ℕ → ℕ → Bool
few_heads blocks found at zero = true
few_heads blocks found at (suc count) =
    not (is_some (last_of blocks at) && found)
    && few_heads blocks (found || is_some (last_of blocks at)) (suc at) count

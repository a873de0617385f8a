-- The targets of a jump list, and where its arms end.
-- Held against: this project's own segments.
use Rattle.std.specs.Prelude.{ℕ, zero, suc, ◌+◌, ◌-◌, ◌==◌, max, Bool, false, not, ◌&&◌, ◌||◌, nat_lt, if◌then◌else◌, List, [], ◌∷◌, Option, Some, None, fold, slice_get}
use Rattle.flow_graph.specs.declared.graph.Exit.{Exit}
use Rattle.flow_graph.specs.declared.graph.Exit.TheVariants as exit
use Rattle.segment_plans.specs.Counts.{is_end, is_reached}
use Rattle.segment_plans.specs.declared.blocks.Blocks.{Blocks}
use Rattle.segment_plans.specs.declared.planning.Around.{Around}
use Rattle.segment_plans.specs.declared.planning.Around.TheVariants as around

-- the blocks to which a jump list leads, its label first
abbrev pub listed : Option Exit → List ℕ
listed (Some (exit.Table targets label)) = label ∷ targets
listed other = []

abbrev pub targets_at : Blocks → ℕ → List ℕ
targets_at blocks list = listed (slice_get blocks.exits.items list)

-- the last block to which the jump list of a block leads
abbrev pub last_by : Option Exit → ℕ
last_by (Some (exit.Table targets label)) = fold max label targets
last_by other = 0

abbrev pub last_target : Blocks → ℕ → ℕ
last_target blocks list = last_by (slice_get blocks.exits.items list)

-- the nearer of two ends of what stands after a block
abbrev pub nearer : ℕ → ℕ → ℕ → ℕ
nearer at end to = if nat_lt at to && nat_lt to end then to else end

-- the next block after one to which the jump list of a block leads, or the end of all arms
abbrev pub next_arm : Blocks → ℕ → ℕ → ℕ → ℕ
next_arm blocks list at end = fold (nearer at) end (targets_at blocks list)

-- a block begins the next turn of the loop around, or follows it where it may be left
abbrev pub is_way_out : Around → ℕ → Bool
is_way_out around.NoLoop to = false
is_way_out (around.Inside head last left) to = (to == head) || (left && (to == last + 1))

-- where a jump leads that passes over a block, but for one out of the loop around, to its next turn, or to the end word
abbrev pub over_if : Blocks → Around → ℕ → ℕ → Option ℕ
over_if blocks a last to =
    if nat_lt last to && not (is_way_out a to || is_end blocks to) then Some to else None

abbrev pub over_by : Blocks → Around → ℕ → Option Exit → Option ℕ
over_by blocks a last (Some (exit.Jump to)) = over_if blocks a last to
over_by blocks a last (Some (exit.Branch to)) = over_if blocks a last to
over_by blocks a last other = None

abbrev pub jump_over : Blocks → Around → ℕ → ℕ → Option ℕ
jump_over blocks a last source =
    if is_reached blocks source then over_by blocks a last (slice_get blocks.exits.items source) else None

abbrev pub found_or : Option ℕ → ℕ → ℕ
found_or None other = other
found_or (Some to) other = to

-- where the first such jump leads, of those of so many blocks from one on; that block, where there is none
abbrev pub first_over : Blocks → Around → ℕ → ℕ → ℕ → ℕ
first_over blocks a last source zero = last
first_over blocks a last source (suc count) =
    found_or (jump_over blocks a last source) (first_over blocks a last (suc source) count)

-- where the arms of a jump list end: where the first jump over its last target leads, or there
abbrev pub arms_end : Blocks → Around → ℕ → ℕ
arms_end blocks a list =
    first_over blocks a (last_target blocks list) (list + 1) (last_target blocks list - (list + 1))

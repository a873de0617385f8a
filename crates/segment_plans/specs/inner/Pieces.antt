-- How it is found what is written at a block.
use Rattle.std.specs.Prelude.{ℕ, ◌+◌, ◌-◌, ◌==◌, Bool, true, false, not, ◌&&◌, ◌||◌, nat_lt, nat_le, if◌then◌else◌, Option, Some, None, slice_get}
use Rattle.std.specs.List.{list_all, list_any}
use Rattle.flow_graph.specs.declared.graph.Exit.{Exit}
use Rattle.flow_graph.specs.declared.graph.Exit.TheVariants as exit
use Rattle.segment_plans.specs.declared.blocks.Blocks.{Blocks}
use Rattle.segment_plans.specs.declared.planning.Kind.{Kind}
use Rattle.segment_plans.specs.declared.planning.Kind.TheVariants as kind
use Rattle.segment_plans.specs.declared.planning.Part.{Part}
use Rattle.segment_plans.specs.declared.planning.Piece.{Piece}
use Rattle.segment_plans.specs.declared.planning.Piece.TheVariants as piece
use Rattle.segment_plans.specs.Arms.{arms_end, is_way_out, last_target, targets_at}
use Rattle.segment_plans.specs.Counts.{is_bare, is_end, is_reached, last_of}

-- an arm or a loop may end before a block inside a part, or where the part does
abbrev pub is_inner_end : Part → ℕ → Bool
is_inner_end part past = nat_le past part.past && (not (past == part.past) || (part.follow == part.past))

abbrev pub is_list_arm : Kind → Bool
is_list_arm kind.Blocks = false
is_list_arm kind.ListArm = true

-- a jump to the end of all arms of a jump list takes the rest of an arm
abbrev pub takes_rest : Part → ℕ → Bool
takes_rest part to = is_list_arm part.kind && (to == part.follow) && nat_lt part.past to

abbrev pub inner_end : Part → ℕ → Option ℕ
inner_end part to =
    if is_inner_end part to then Some to else (if takes_rest part to then Some part.past else None)

abbrev pub falls_off : Blocks → Part → ℕ → ℕ → Bool → Bool
falls_off blocks part at to alone =
    (to == part.follow) && is_bare blocks at part.past && ((part.follow == part.past) || alone)

abbrev pub goes_on : Blocks → Part → ℕ → ℕ → Bool
goes_on blocks part at to = nat_lt at to && nat_lt to part.past && is_bare blocks at to

abbrev pub jumps_out : Blocks → Part → ℕ → Bool
jumps_out blocks part to = is_way_out part.around to || is_end blocks to

abbrev pub may_lead : Blocks → Part → ℕ → ℕ → Bool → Bool
may_lead blocks part at to alone =
    goes_on blocks part at to || jumps_out blocks part to || falls_off blocks part at to alone

-- where the second arm ends, over which a jump leads, and to where
abbrev pub second_if : Part → ℕ → ℕ → Option ℕ → Option (ℕ × ℕ)
second_if part past to None = None
second_if part past to (Some end) = if nat_lt past end then Some (to, end) else None

abbrev pub second_to : Blocks → Part → ℕ → ℕ → Option (ℕ × ℕ)
second_to blocks part past to = if jumps_out blocks part to then None else second_if part past to (inner_end part to)

abbrev pub second_by : Blocks → Part → ℕ → Option Exit → Option (ℕ × ℕ)
second_by blocks part past (Some (exit.Jump to)) = second_to blocks part past to
second_by blocks part past other = None

abbrev pub second_end : Blocks → Part → ℕ → Option (ℕ × ℕ)
second_end blocks part past =
    if is_reached blocks (past - 1)
    then second_by blocks part past (slice_get blocks.exits.items (past - 1))
    else None

abbrev pub one_if : Bool → Option Piece
one_if fits = if fits then Some piece.One else None

abbrev pub arms_by : ℕ → ℕ → Option (ℕ × ℕ) → Piece
arms_by to past None = piece.Arm to past
arms_by to past (Some (over, end)) = piece.Arms past over end

-- the block after one follows it, where that is in the part, or the part goes on there
abbrev pub may_fall : Part → ℕ → Bool
may_fall part at = not (at + 1 == part.past) || (part.follow == part.past)

abbrev pub branch_to : Blocks → Part → ℕ → ℕ → Option ℕ → Option Piece
branch_to blocks part at to None = None
branch_to blocks part at to (Some past) =
    if nat_lt at past && may_fall part at then Some (arms_by to past (second_end blocks part past)) else None

abbrev pub branch : Blocks → Part → ℕ → ℕ → Option Piece
branch blocks part at to =
    if jumps_out blocks part to
    then one_if (may_lead blocks part at (at + 1) false)
    else branch_to blocks part at to (inner_end part to)

-- a block ends an arm of a jump list, as it goes on
abbrev pub ends_by : Option Exit → Bool
ends_by (Some (exit.Jump to)) = true
ends_by (Some exit.End) = true
ends_by other = false

-- the block before a target of a list does not go on with it, if that is not the list
abbrev pub is_closed : Blocks → ℕ → ℕ → Bool
is_closed blocks list to =
    (to == list + 1) || (not (is_reached blocks (to - 1)) || ends_by (slice_get blocks.exits.items (to - 1)))

-- the arms of a list begin behind it, and none goes on with the next one
abbrev pub are_arms : Blocks → ℕ → Bool
are_arms blocks list =
    list_any (λ to. to == list + 1) (targets_at blocks list)
    && list_all (λ to. nat_lt list to && is_closed blocks list to) (targets_at blocks list)

-- the arms of a list may end before a block
abbrev pub may_end : Blocks → Part → ℕ → Bool
may_end blocks part end =
    nat_le end part.past && (not (end == part.past) || ((part.follow == part.past) || jumps_out blocks part end))

abbrev pub choice : Blocks → Part → ℕ → Option Piece
choice blocks part at =
    if nat_le (last_target blocks at) part.past && are_arms blocks at
    && may_end blocks part (arms_end blocks part.around at)
    then Some (piece.Cases (arms_end blocks part.around at))
    else None

abbrev pub piece_by : Blocks → Part → ℕ → Option Exit → Option Piece
piece_by blocks part at None = None
piece_by blocks part at (Some exit.Fall) = one_if (may_lead blocks part at (at + 1) false)
piece_by blocks part at (Some exit.EndIf) = one_if (may_lead blocks part at (at + 1) false)
piece_by blocks part at (Some (exit.Jump to)) = one_if (may_lead blocks part at to true)
piece_by blocks part at (Some (exit.Branch to)) = branch blocks part at to
piece_by blocks part at (Some exit.End) = Some piece.One
piece_by blocks part at (Some (exit.Table targets last)) = choice blocks part at

abbrev pub piece_within : Blocks → Part → ℕ → Option Piece
piece_within blocks part at = piece_by blocks part at (slice_get blocks.exits.items at)

-- a loop at the end of an arm of a jump list has another arm behind it
abbrev pub is_endless : Part → ℕ → Bool
is_endless part last = (last + 1 == part.past) && nat_lt part.past part.follow

abbrev pub loop_end : Part → ℕ → Option Piece
loop_end part last =
    if is_inner_end part (last + 1)
    then Some (piece.Loop last true)
    else (if is_endless part last then Some (piece.Loop last false) else None)

abbrev pub loop_if : Part → ℕ → ℕ → Option Piece
loop_if part at last = if nat_le at last && nat_lt last part.past then loop_end part last else None

abbrev pub fresh_or_loop : Blocks → Part → ℕ → Option ℕ → Option Piece
fresh_or_loop blocks part at None = piece_within blocks part at
fresh_or_loop blocks part at (Some last) = loop_if part at last

abbrev pub piece_at : Blocks → Part → ℕ → Bool → Option Piece
piece_at blocks part at paid =
    if is_reached blocks at
    then (if paid then piece_within blocks part at else fresh_or_loop blocks part at (last_of blocks at))
    else Some piece.Skip

-- a piece has no blocks one level deeper
abbrev pub is_flat : Piece → Bool
is_flat piece.Skip = true
is_flat piece.One = true
is_flat other = false

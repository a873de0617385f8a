-- Whether a part of a segment has a plan, and what a plan has at one block.
-- Held against: this project's own segments.
use Rattle.std.specs.Prelude.{◌≡◌, ℕ, suc, ◌+◌, ◌-◌, ◌<◌, ◌≤◌, Bool, true, false, Option, Some, None}
use Rattle.stl_tree.specs.Segments.{IsReached}
use Rattle.stl_tree.specs.Flows.{Segment, blocks_of}
use Rattle.stl_tree.specs.WellNested.{IsTarget}
use Rattle.nesting_laws.specs.Plans.{Around as PlanAround, IsBranch, IsChoice, IsFresh, IsLeft, IsOne, IsOpened, IsOther, IsPlan, Kind as PlanKind, Plan, blocks as in_blocks, inside, levels, list_arm as in_list_arm, list_arms, no_loop}
use Rattle.segment_plans.specs.Arms.{arms_end}
use Rattle.segment_plans.specs.declared.blocks.Blocks.{Blocks}
use Rattle.segment_plans.specs.declared.planning.Around.{Around}
use Rattle.segment_plans.specs.declared.planning.Around.TheVariants as around
use Rattle.segment_plans.specs.declared.planning.Kind.{Kind}
use Rattle.segment_plans.specs.declared.planning.Kind.TheVariants as kind
use Rattle.segment_plans.specs.declared.planning.Part.{Part}
use Rattle.segment_plans.specs.declared.planning.Piece.{Piece}
use Rattle.segment_plans.specs.declared.planning.Piece.TheVariants as piece

-- the loop around a part, as plans have it
abbrev pub around_of : Around → PlanAround
around_of around.NoLoop = no_loop
around_of (around.Inside head last left) = inside left head last

-- what a part is, as plans have it
abbrev pub kind_of : Kind → PlanKind
kind_of kind.Blocks = in_blocks
kind_of kind.ListArm = in_list_arm

-- a plan of the blocks of a part from one on
abbrev pub IsPlanIn : Segment → Plan → Bool → ℕ → Part → Type 0
IsPlanIn g plan paid at part = IsPlan g plan paid at part.past part.follow (around_of part.around) (kind_of part.kind)

-- the blocks of a part from one on have a plan of at most so many levels
abbrev pub HasPlan : Segment → ℕ → Part → Bool → ℕ → Type 0
HasPlan g left part paid at = (plan : Plan) × IsPlanIn g plan paid at part × (levels plan ≤ left)

-- the arms of the jump list of a block from one on, up to their end, have plans of at most so many levels
abbrev pub HasArms : Segment → ℕ → Part → ℕ → ℕ → ℕ → Type 0
HasArms g left part list end at =
    (plan : Plan) × IsPlan g plan false at end end (around_of part.around) (list_arms list) × (levels plan ≤ left)

-- a part lies in a segment, from a block on
pub record IsPartOf (g : Segment) (part : Part) (at : ℕ) : Type 0 where
  pub low : g.first ≤ at
  pub ordered : at ≤ part.past
  pub high : part.past ≤ g.past

-- a block begins an arm up to another, over which its jump leads to a third
abbrev pub IsBranchIn : Segment → Part → ℕ → ℕ → ℕ → Type 0
IsBranchIn g part at to past = IsBranch g at part.past part.follow (around_of part.around) (kind_of part.kind) to past

-- the last block of the arm before a block jumps to another, over a second arm up to a third
abbrev pub IsOtherIn : Segment → Part → ℕ → ℕ → ℕ → Type 0
IsOtherIn g part past over end =
    IsOther g part.past part.follow (around_of part.around) (kind_of part.kind) past over end

-- a piece may stand at a block of a part
abbrev pub IsPiece : Segment → Blocks → Part → Bool → ℕ → Piece → Type 0
IsPiece g blocks part paid at piece.Skip = IsReached (blocks_of g.flow) at → ⊥
IsPiece g blocks part paid at piece.One = IsOne g paid at part.past part.follow (around_of part.around)
IsPiece g blocks part paid at (piece.Arm to past) =
    IsFresh g paid at × IsBranchIn g part at to past × ((u d : ℕ) → IsOtherIn g part past u d → ⊥)
IsPiece g blocks part paid at (piece.Arms to over past) =
    IsFresh g paid at × IsBranchIn g part at to to × IsOtherIn g part to over past
IsPiece g blocks part paid at (piece.Loop last left) =
    IsOpened g paid at part.past last × IsLeft part.past part.follow last left
IsPiece g blocks part paid at (piece.Cases end) =
    IsFresh g paid at × IsChoice g at part.past part.follow (around_of part.around) end × IsTarget g at (suc at)
    × (end ≡ arms_end blocks part.around at)

-- a piece that is found may stand at a block; where none is, none may
abbrev pub AnswersPiece : Segment → Blocks → Part → Bool → ℕ → Option Piece → Type 0
AnswersPiece g blocks part paid at None = (p : Piece) → IsPiece g blocks part paid at p → ⊥
AnswersPiece g blocks part paid at (Some p) = IsPiece g blocks part paid at p

-- the arm of a part up to a block, which another follows
abbrev pub arm : Part → ℕ → ℕ → Part
arm part past follow = record { past = past; follow = follow; around = part.around; kind = part.kind }

-- the first of two arms, from the end of which a jump leads over the second
abbrev pub first_arm : Part → ℕ → ℕ → Part
first_arm part past follow = record { past = past; follow = follow; around = part.around; kind = kind.Blocks }

-- an arm of a jump list, up to a block; the end of all arms follows
abbrev pub list_arm : Part → ℕ → ℕ → Part
list_arm part past end = record { past = past; follow = end; around = part.around; kind = kind.ListArm }

-- the body of a loop
abbrev pub body : ℕ → ℕ → Bool → Part
body head last left =
    record { past = last + 1; follow = head; around = around.Inside head last left; kind = kind.Blocks }

-- the block after a piece
abbrev pub after : ℕ → Piece → ℕ
after at piece.Skip = at + 1
after at piece.One = at + 1
after at (piece.Arm to past) = past
after at (piece.Arms to over past) = past
after at (piece.Loop last left) = last + 1
after at (piece.Cases end) = end

-- a piece lies in its part
abbrev pub IsWithin : Part → ℕ → Piece → Type 0
IsWithin part at piece.Skip = at < part.past
IsWithin part at piece.One = at < part.past
IsWithin part at (piece.Arm to past) = (at < past) × (past ≤ part.past)
IsWithin part at (piece.Arms to over past) = (at < to) × (to < past) × (past ≤ part.past)
IsWithin part at (piece.Loop last left) = (at ≤ last) × (last < part.past)
IsWithin part at (piece.Cases end) = (at < end) × (end ≤ part.past)

-- the blocks one level deeper in a piece have plans of at most so many levels less one
abbrev pub HasInner : Segment → ℕ → Part → ℕ → Piece → Type 0
HasInner g left part at piece.Skip = Unit {0}
HasInner g left part at piece.One = Unit {0}
HasInner g left part at (piece.Arm to past) = (0 < left) × HasPlan g (left - 1) (arm part past to) false (at + 1)
HasInner g left part at (piece.Arms to over past) =
    (0 < left) × HasPlan g (left - 1) (first_arm part to over) false (at + 1)
    × HasPlan g (left - 1) (arm part past over) false to
HasInner g left part at (piece.Loop last leaves) = (0 < left) × HasPlan g (left - 1) (body at last leaves) true at
HasInner g left part at (piece.Cases end) = (0 < left) × HasArms g (left - 1) part at end (at + 1)

-- the whole of a segment, as a part
abbrev pub whole : ℕ → Part
whole past = record { past = past; follow = past; around = around.NoLoop; kind = kind.Blocks }

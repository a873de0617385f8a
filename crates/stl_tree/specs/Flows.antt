-- The segments of a body, their jumps and their loops. A body is seen as its blocks and how each goes on; only blocks
-- that a path from the first one reaches have jumps that count.
-- Held against: this project's own segments.
use Rattle.std.specs.Prelude.{◌≡◌, ◌⊎◌, ℕ, suc, ◌<◌, ◌≤◌, Bool, true, false, List, [], ◌∷◌, length, map, slice_get, Some}
use Rattle.stl_tree.specs.Blocks.{Way, always, if_made, on, one_of, stops, unless_ended}
use Rattle.stl_tree.specs.Segments.{AreAscending, IsCut, IsOneOf, IsReached, Ways}

-- Blocks

-- the blocks of a body: how it goes on after each, by the numbers of blocks, and whether the last one holds the end
-- word alone
pub record Flow : Type 0 where
  pub ways : List Way
  pub ends_alone : Bool

-- the blocks to which a block jumps
abbrev pub jumps_of : Way → List ℕ
jumps_of on = []
jumps_of (always to) = to ∷ []
jumps_of (if_made to) = to ∷ []
jumps_of unless_ended = []
jumps_of (one_of targets label) = label ∷ targets
jumps_of stops = []

-- the next block may follow a block
abbrev pub falls_by : Way → Bool
falls_by on = true
falls_by (always to) = false
falls_by (if_made to) = true
falls_by unless_ended = true
falls_by (one_of targets label) = false
falls_by stops = false

-- the ways after a block that goes on so
abbrev pub ways_by : Way → Ways
ways_by way = record { jumps = jumps_of way; falls = falls_by way }

-- the ways after each block
abbrev pub blocks_of : Flow → List Ways
blocks_of flow = map ways_by flow.ways

-- the block that holds the end word alone
abbrev pub IsEndBlock : Flow → ℕ → Type 0
IsEndBlock flow b = (flow.ends_alone ≡ true) × (suc b ≡ length flow.ways)

-- Segments

-- neighbouring blocks of a body: from the first to the one before the last
pub record Segment : Type 0 where
  pub flow : Flow
  pub first : ℕ
  pub past : ℕ

-- a segment lies between two neighbouring cuts, or between the last one and the end
pub record IsSegment (g : Segment) : Type 0 where
  pub begins : IsCut (blocks_of g.flow) g.first
  pub some : g.first < g.past
  pub inside : (q : ℕ) → g.first < q → q < g.past → IsCut (blocks_of g.flow) q → ⊥
  pub ends : (g.past ≡ length g.flow.ways) ⊎ IsCut (blocks_of g.flow) g.past

-- the segments of a body from a block on, by the cuts after it
abbrev pub AreSegmentsFrom : Flow → ℕ → List ℕ → List Segment → Type 0
AreSegmentsFrom flow b [] [] = ⊥
AreSegmentsFrom flow b [] (g ∷ gs) = (g ≡ record { flow = flow; first = b; past = length flow.ways }) × (gs ≡ [])
AreSegmentsFrom flow b (cut ∷ cuts) [] = ⊥
AreSegmentsFrom flow b (cut ∷ cuts) (g ∷ gs) =
    (g ≡ record { flow = flow; first = b; past = cut }) × AreSegmentsFrom flow cut cuts gs

-- Jumps

-- a block of a segment that a path reaches
pub record IsIn (g : Segment) (b : ℕ) : Type 0 where
  pub reached : IsReached (blocks_of g.flow) b
  pub low : g.first ≤ b
  pub high : b < g.past

-- such a block goes on so
abbrev pub GoesOn : Segment → ℕ → Way → Type 0
GoesOn g b way = IsIn g b × (slice_get g.flow.ways b ≡ Some way)

-- a jump from a block of a segment to a block
abbrev pub IsJump : Segment → ℕ → ℕ → Type 0
IsJump g s t = (way : Way) × GoesOn g s way × IsOneOf t (jumps_of way)

abbrev pub IsConditional : Segment → ℕ → Type 0
IsConditional g s = (t : ℕ) × GoesOn g s (if_made t)

abbrev pub IsUnconditional : Segment → ℕ → Type 0
IsUnconditional g s = (t : ℕ) × GoesOn g s (always t)

-- a block ends in a jump list
abbrev pub IsList : Segment → ℕ → Type 0
IsList g s = (targets : List ℕ) × (label : ℕ) × GoesOn g s (one_of targets label)

-- Loops

-- a loop: the target of jumps back, its head, and the last block from which one of them comes
pub record IsLoop (g : Segment) (head last : ℕ) : Type 0 where
  pub back : IsJump g last head
  pub ordered : head ≤ last
  pub greatest : (s : ℕ) → IsJump g s head → s ≤ last

-- a block lies in a loop
pub record IsInLoop (g : Segment) (head last b : ℕ) : Type 0 where
  pub loop : IsLoop g head last
  pub low : head ≤ b
  pub high : b ≤ last

-- of the loops in which a block lies, the one with the greatest head
pub record IsInnermost (g : Segment) (head last b : ℕ) : Type 0 where
  pub around : IsInLoop g head last b
  pub inner : (h l : ℕ) → IsInLoop g h l b → h ≤ head

-- two loops are disjoint, or one lies inside the other
abbrev pub AreNested : ℕ → ℕ → ℕ → ℕ → Type 0
AreNested h l k m = (l < k) ⊎ ((m < h) ⊎ (((h ≤ k) × (m ≤ l)) ⊎ ((k ≤ h) × (l ≤ m))))

-- each of some blocks is the head of a loop in which a block lies
abbrev pub AreHeadsAround : Segment → ℕ → List ℕ → Type 0
AreHeadsAround g b [] = Unit {0}
AreHeadsAround g b (h ∷ rest) = ((l : ℕ) × IsInLoop g h l b) × AreHeadsAround g b rest

-- the heads of the loops of a segment
pub record AreHeads (g : Segment) (heads : List ℕ) : Type 0 where
  pub ascending : AreAscending heads
  pub each : (h : ℕ) → IsOneOf h heads → (l : ℕ) × IsLoop g h l
  pub all : (h l : ℕ) → IsLoop g h l → IsOneOf h heads

-- Forward jumps

-- a jump leaves the innermost loop around its block for the block after that loop
abbrev pub IsExitJump : Segment → ℕ → ℕ → Type 0
IsExitJump g s t = (head : ℕ) × (last : ℕ) × IsInnermost g head last s × (t ≡ suc last)

-- a plain jump: forward, to no block of the end word alone, no exit jump and of no jump list
pub record IsPlainJump (g : Segment) (s t : ℕ) : Type 0 where
  pub jump : IsJump g s t
  pub forward : s < t
  pub no_end : IsEndBlock g.flow t → ⊥
  pub no_exit : IsExitJump g s t → ⊥
  pub no_list : IsList g s → ⊥

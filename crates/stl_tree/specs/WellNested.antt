-- Which segments of a body are well nested, so that statements can take the place of their jumps and jump lists.
-- Held against: this project's own segments.
use Rattle.std.specs.Prelude.{◌≡◌, ◌⊎◌, ℕ, suc, ◌+◌, ◌<◌, ◌≤◌, List, [], ◌∷◌, length, slice_get, Some}
use Rattle.stl_tree.specs.Blocks.{Way, always, stops}
use Rattle.stl_tree.specs.Segments.{AreAscending}
use Rattle.stl_tree.specs.Flows.{AreHeadsAround, AreNested, GoesOn, IsConditional, IsEndBlock, IsExitJump, IsInLoop, IsInnermost, IsJump, IsList, IsLoop, IsPlainJump, IsUnconditional, Segment}

-- Jump lists

-- a block to which the jump list of a block leads; the list has an arm for each
pub record IsTarget (g : Segment) (x t : ℕ) : Type 0 where
  pub list : IsList g x
  pub jump : IsJump g x t

-- a block stands in an arm of a jump list whose arms end before a block
pub record IsInArms (g : Segment) (x e b : ℕ) : Type 0 where
  pub begin : ℕ
  pub target : IsTarget g x begin
  pub low : begin ≤ b
  pub high : b < e

-- two blocks of the arms of a jump list stand in the same one: no arm begins between them
abbrev pub IsSameArm : Segment → ℕ → ℕ → ℕ → Type 0
IsSameArm g x b d = (u : ℕ) → IsTarget g x u → ((u ≤ b → u ≤ d) × (u ≤ d → u ≤ b))

-- a jump back to the head of the innermost loop around its block
abbrev pub IsTurn : Segment → ℕ → ℕ → Type 0
IsTurn g s t = (last : ℕ) × IsInnermost g t last s

-- a block that goes on so may be the last one of an arm: it ends the body, or jumps to the end of all arms, back, out
-- of a loop, or to the block of the end word alone
abbrev pub EndsArm : Segment → ℕ → ℕ → Way → Type 0
EndsArm g e b stops = Unit {0}
EndsArm g e b (always t) = (t ≡ e) ⊎ ((t ≤ b) ⊎ (IsExitJump g b t ⊎ IsEndBlock g.flow t))
EndsArm g e b other = ⊥

-- the arms of the jump list of a block may end before a block. Each arm goes up to the next one, the last up to there
pub record IsCase (g : Segment) (x e : ℕ) : Type 0 where
  -- all arms stand behind the list
  pub after : (t : ℕ) → IsTarget g x t → (x < t) × (t ≤ e)
  -- no arm but the last goes on with the next one
  pub closed : (b u t : ℕ) (way : Way) → IsTarget g x u → IsTarget g x t → u < t → suc b ≡ t → GoesOn g b way
      → EndsArm g e b way
  -- only the list jumps into an arm
  pub entries : (s t : ℕ) → IsJump g s t → IsInArms g x e t → (s ≡ x) ⊎ (IsInArms g x e s × IsSameArm g x s t)
  -- a jump from an arm stays in it, or leads to the end of all arms, to the next turn of a loop, out of one, or to the
  -- block of the end word alone
  pub exits : (s t : ℕ) → IsJump g s t → IsInArms g x e s
      → (IsInArms g x e t × IsSameArm g x s t) ⊎ ((t ≡ e) ⊎ (IsTurn g s t ⊎ (IsExitJump g s t ⊎ IsEndBlock g.flow t)))
  -- a loop that holds the list holds its arms
  pub loops : (h l b : ℕ) → IsInLoop g h l x → IsInArms g x e b → b ≤ l

-- the arms of the jump list of a block end before a block: the first one at which they may
pub record IsCaseEnd (g : Segment) (x e : ℕ) : Type 0 where
  pub list : IsList g x
  pub fits : IsCase g x e
  pub least : (d : ℕ) → IsCase g x d → e ≤ d

-- Plain jumps

-- an arm after the one from which a jump leads to the end of all arms begins at a block
abbrev pub IsLaterArm : Segment → ℕ → ℕ → ℕ → Type 0
IsLaterArm g s t d = (x : ℕ) × IsCaseEnd g x t × IsTarget g x d × (x < s) × (s < d)

-- a jump counts as one to a block: to where it leads, or from an arm to the end of all arms, to the end of its own arm.
-- Of several such, to the nearest
pub record CountsAs (g : Segment) (s t c : ℕ) : Type 0 where
  pub one : (c ≡ t) ⊎ IsLaterArm g s t c
  pub most : c ≤ t
  pub nearest : (d : ℕ) → IsLaterArm g s t d → c ≤ d

-- the two jumps around an ELSE: the second is that of the last block before the end of the first, and no other jump
-- forward counts as one to there
pub record IsElse (g : Segment) (s1 c1 s2 : ℕ) : Type 0 where
  pub first : IsConditional g s1
  pub second : IsUnconditional g s2
  pub next : suc s2 ≡ c1
  pub alone : (s t : ℕ) → IsJump g s t → s < t → CountsAs g s t c1 → s ≡ s1

-- Spans

-- from a block a plain jump leads to another, or its jump list has its arms up to there
abbrev pub IsSpan : Segment → ℕ → ℕ → Type 0
IsSpan g s t = IsPlainJump g s t ⊎ IsCaseEnd g s t

-- each of some blocks has a plain jump or a jump list that begins at a block or before it, and ends there or behind it
abbrev pub AreSpansOver : Segment → ℕ → List ℕ → Type 0
AreSpansOver g b [] = Unit {0}
AreSpansOver g b (s ∷ rest) = ((t : ℕ) × IsSpan g s t × (s ≤ b) × (b ≤ t)) × AreSpansOver g b rest

-- no block lies in more than 64 loops, plain jumps and jump lists
abbrev pub IsShallow : Segment → Type 0
IsShallow g = (b : ℕ) (heads sources : List ℕ) → AreAscending heads → AreHeadsAround g b heads
    → AreAscending sources → AreSpansOver g b sources → length heads + length sources ≤ 64

-- Well nested

-- a segment is well nested, where only blocks count that a path reaches
pub record IsWellNestedByPaths (g : Segment) : Type 0 where
  pub loops : (h l k m : ℕ) → IsLoop g h l → IsLoop g k m → AreNested h l k m
  -- a jump into a loop leads to its head
  pub entries : (s t h l : ℕ) → IsJump g s t → IsInLoop g h l t → IsInLoop g h l s ⊎ (t ≡ h)
  -- a jump from a loop stays in the innermost one, or leads to the block after it or to the block of the end word alone
  pub exits : (s t h l : ℕ) → IsJump g s t → IsInnermost g h l s
      → ((h ≤ t) × (t ≤ l)) ⊎ ((t ≡ suc l) ⊎ IsEndBlock g.flow t)
  -- plain jumps cross only as the two jumps around an ELSE do
  pub crossings : (s1 t1 c1 s2 t2 c2 : ℕ) → IsPlainJump g s1 t1 → CountsAs g s1 t1 c1
      → IsPlainJump g s2 t2 → CountsAs g s2 t2 c2 → s1 < s2 → s2 < c1 → c1 < c2 → IsElse g s1 c1 s2
  -- each jump list has arms
  pub cases : (x : ℕ) → IsList g x → (e : ℕ) × IsCaseEnd g x e
  pub shallow : IsShallow g

-- a block that stands right before an arm, but for the first one, ends the arm before it, be it reached or not
abbrev pub HasClosedArms : Segment → Type 0
HasClosedArms g = (x e b u t : ℕ) (way : Way) → IsCaseEnd g x e → IsTarget g x u → IsTarget g x t → u < t → suc b ≡ t
    → slice_get g.flow.ways b ≡ Some way → EndsArm g e b way

-- a segment is well nested
pub record IsWellNested (g : Segment) : Type 0 where
  pub by_paths : IsWellNestedByPaths g
  pub closed : HasClosedArms g

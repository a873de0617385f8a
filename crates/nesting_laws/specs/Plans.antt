-- How a segment is written as statements, from its first block on: what is a loop, what an arm of an IF or a CASE, and
-- what stands one after another. A plan looks at one block at a time, never at pairs of jumps.
use Rattle.std.specs.Prelude.{◌≡◌, ◌⊎◌, ℕ, suc, ◌<◌, ◌≤◌, max, Bool, true, false}
use Rattle.stl_tree.specs.Blocks.{Way, always, if_made, stops}
use Rattle.stl_tree.specs.Segments.{IsOneOf, IsReached}
use Rattle.stl_tree.specs.Flows.{GoesOn, IsEndBlock, IsIn, IsJump, IsList, IsLoop, IsUnconditional, Segment, blocks_of, falls_by, jumps_of}
use Rattle.stl_tree.specs.WellNested.{IsTarget}

-- Nothing; a block that no path reaches, and the rest; a block, and the rest; a block with a conditional jump to a
-- block, an arm up to another, which is done where the jump is not made, and the rest; one with two arms, from the last
-- block of the first of which a jump leads to a block, and the second of which ends before another; a loop, whether it
-- may be left, the last of its blocks, its body, and the rest; a block with a jump list, where its arms end, the arms,
-- and the rest; or, of such arms, where the first one ends, it, and the others
pub data Plan : Type 0 where
  done : Plan
  skip : Plan → Plan
  one : Plan → Plan
  arm : ℕ → ℕ → Plan → Plan → Plan
  arms : ℕ → ℕ → ℕ → Plan → Plan → Plan → Plan
  loop : Bool → ℕ → Plan → Plan → Plan
  cases : ℕ → Plan → Plan → Plan
  next : ℕ → Plan → Plan → Plan

-- how deep arms and bodies stand in one another
abbrev pub levels : Plan → ℕ
levels done = 0
levels (skip rest) = levels rest
levels (one rest) = levels rest
levels (arm t c inner rest) = max (suc (levels inner)) (levels rest)
levels (arms t u c first second rest) = max (suc (max (levels first) (levels second))) (levels rest)
levels (loop left l body rest) = max (suc (levels body)) (levels rest)
levels (cases e inner rest) = max (suc (levels inner)) (levels rest)
levels (next d inner others) = max (levels inner) (levels others)

-- the loop around a part: none, or one by its head and its last block. Some may be left for the block after them
pub data Around : Type 0 where
  no_loop : Around
  inside : Bool → ℕ → ℕ → Around

-- a part of a segment is some of its blocks in a row; or an arm of a jump list, which may be left from anywhere for the
-- end of all arms; or the arms of the jump list of a block
pub data Kind : Type 0 where
  blocks : Kind
  list_arm : Kind
  list_arms : ℕ → Kind

-- a part is a row of blocks, and none of arms
abbrev pub IsRow : Kind → Type 0
IsRow blocks = Unit {0}
IsRow list_arm = Unit {0}
IsRow (list_arms x) = ⊥

-- a part is an arm of a jump list
abbrev pub IsListArm : Kind → Type 0
IsListArm blocks = ⊥
IsListArm list_arm = Unit {0}
IsListArm (list_arms x) = ⊥

-- a block begins the next turn of the loop around, or follows it where it may be left
abbrev pub IsWayOut : Around → ℕ → Type 0
IsWayOut no_loop t = ⊥
IsWayOut (inside left head last) t = (t ≡ head) ⊎ ((left ≡ true) × (t ≡ suc last))

-- a block may be followed by a block
abbrev pub LeadsTo : Segment → ℕ → ℕ → Type 0
LeadsTo g b t = (way : Way) × GoesOn g b way × (IsOneOf t (jumps_of way) ⊎ ((falls_by way ≡ true) × (t ≡ suc b)))

-- no block between two is reached
abbrev pub IsBare : Segment → ℕ → ℕ → Type 0
IsBare g lo hi = (q : ℕ) → lo < q → q < hi → IsReached (blocks_of g.flow) q → ⊥

-- where a block of a part may lead: to the next block that is reached, by a way out, to the end word, or off the end of
-- the part
abbrev pub Goes : Segment → ℕ → ℕ → ℕ → Around → ℕ → Type 0
Goes g lo hi follow a t =
    ((lo < t) × (t < hi) × IsBare g lo t)
    ⊎ (IsWayOut a t ⊎ (IsEndBlock g.flow t ⊎ ((t ≡ follow) × IsBare g lo hi × ((follow ≡ hi) ⊎ IsUnconditional g lo))))

-- a block is no head of a loop that is still to be opened
abbrev pub IsFresh : Segment → Bool → ℕ → Type 0
IsFresh g true lo = Unit {0}
IsFresh g false lo = (s : ℕ) → IsJump g s lo → s < lo

-- an arm inside a part, over which a jump leads to a block, ends before a block: before that one; or with the part,
-- where that is an arm of a jump list, and the jump leads to the end of all arms
abbrev pub EndsBefore : ℕ → ℕ → Kind → ℕ → ℕ → Type 0
EndsBefore hi follow k t c =
    ((c ≡ t) × (t ≤ hi) × (t ≡ hi → follow ≡ hi)) ⊎ ((t ≡ follow) × (c ≡ hi) × (hi < follow) × IsListArm k)

-- a block begins an arm that ends before a block: its conditional jump leads there, forward within the part
pub record IsBranch (g : Segment) (lo hi follow : ℕ) (a : Around) (k : Kind) (t c : ℕ) : Type 0 where
  pub jump : GoesOn g lo (if_made t)
  pub stays : IsWayOut a t → ⊥
  pub free : IsEndBlock g.flow t → ⊥
  pub ahead : lo < c
  pub ends : EndsBefore hi follow k t c
  -- the next block follows too
  pub falls : suc lo ≡ hi → follow ≡ hi

-- the last block of an arm jumps over a second one, which ends before a block
pub record IsOther (g : Segment) (hi follow : ℕ) (a : Around) (k : Kind) (t u c : ℕ) : Type 0 where
  pub source : ℕ
  pub jump : GoesOn g source (always u)
  pub next : suc source ≡ t
  pub stays : IsWayOut a u → ⊥
  pub free : IsEndBlock g.flow u → ⊥
  pub ahead : t < c
  pub ends : EndsBefore hi follow k u c

-- a block that is written as it is: where it leads is written as nothing, EXIT, CONTINUE or RETURN
pub record IsOne (g : Segment) (paid : Bool) (lo hi follow : ℕ) (a : Around) : Type 0 where
  pub here : IsIn g lo
  pub fresh : IsFresh g paid lo
  pub leads : (t : ℕ) → LeadsTo g lo t → Goes g lo hi follow a t
  pub jumps : (t : ℕ) → GoesOn g lo (if_made t) → IsWayOut a t ⊎ IsEndBlock g.flow t
  pub no_list : IsList g lo → ⊥

-- a loop may be left for the block after it, but where it ends with an arm of a jump list: there another arm begins
abbrev pub IsLeft : ℕ → ℕ → ℕ → Bool → Type 0
IsLeft hi follow l true = suc l ≡ hi → follow ≡ hi
IsLeft hi follow l false = (suc l ≡ hi) × (hi < follow)

-- a loop begins, and ends within the part
pub record IsOpened (g : Segment) (paid : Bool) (lo hi l : ℕ) : Type 0 where
  pub free : paid ≡ false
  pub loop : IsLoop g lo l
  pub within : l < hi

-- the arms of a jump list end before its last target, or before a block behind it to which an arm before that one jumps
abbrev pub IsEndOfArms : Segment → ℕ → ℕ → Around → Type 0
IsEndOfArms g lo e a =
    IsTarget g lo e
    ⊎ ((s : ℕ) × (t : ℕ) × IsTarget g lo t × (lo < s) × (s < t) × IsJump g s e × (IsWayOut a e → ⊥)
    × (IsEndBlock g.flow e → ⊥))

-- a block begins the arms of its jump list, which end before a block
pub record IsChoice (g : Segment) (lo hi follow : ℕ) (a : Around) (e : ℕ) : Type 0 where
  pub list : IsList g lo
  pub after : (t : ℕ) → IsTarget g lo t → (lo < t) × (t ≤ e)
  pub ends : IsEndOfArms g lo e a
  -- no arm but the last goes on with the next one
  pub closed : (b t : ℕ) → IsTarget g lo t → suc lo < t → suc b ≡ t → IsIn g b → GoesOn g b stops ⊎ IsUnconditional g b
  pub within : e ≤ hi
  pub falls : e ≡ hi → (follow ≡ hi) ⊎ (IsWayOut a e ⊎ IsEndBlock g.flow e)

-- of the arms of a jump list, one begins at a block and ends before another: the next target, or the end of all
pub record IsNextArm (g : Segment) (x lo hi d : ℕ) : Type 0 where
  pub begins : IsTarget g x lo
  pub some : lo < d
  pub within : d ≤ hi
  pub ends : IsTarget g x d ⊎ (d ≡ hi)
  pub alone : (u : ℕ) → IsTarget g x u → (u ≤ lo) ⊎ (d ≤ u)

-- a plan of the blocks from one up to, and not including, another, after which a block follows, in a loop. `paid` says
-- that the first block is the head of that loop
abbrev pub IsPlan : Segment → Plan → Bool → ℕ → ℕ → ℕ → Around → Kind → Type 0
IsPlan g done paid lo hi follow a k = lo ≡ hi
IsPlan g (skip rest) paid lo hi follow a k =
    (lo < hi) × IsRow k × (IsReached (blocks_of g.flow) lo → ⊥) × IsPlan g rest false (suc lo) hi follow a k
IsPlan g (one rest) paid lo hi follow a k =
    (lo < hi) × IsRow k × IsOne g paid lo hi follow a × IsPlan g rest false (suc lo) hi follow a k
IsPlan g (arm t c inner rest) paid lo hi follow a k =
    (lo < hi) × IsRow k × IsFresh g paid lo × IsBranch g lo hi follow a k t c
    × ((u d : ℕ) → IsOther g hi follow a k c u d → ⊥)
    × IsPlan g inner false (suc lo) c t a k × IsPlan g rest false c hi follow a k
IsPlan g (arms t u c first second rest) paid lo hi follow a k =
    (lo < hi) × IsRow k × IsFresh g paid lo × IsBranch g lo hi follow a k t t × IsOther g hi follow a k t u c
    × IsPlan g first false (suc lo) t u a blocks × IsPlan g second false t c u a k × IsPlan g rest false c hi follow a k
IsPlan g (loop left l body rest) paid lo hi follow a k =
    IsRow k × IsOpened g paid lo hi l × IsLeft hi follow l left
    × IsPlan g body true lo (suc l) lo (inside left lo l) blocks × IsPlan g rest false (suc l) hi follow a k
IsPlan g (cases e inner rest) paid lo hi follow a k =
    (lo < hi) × IsRow k × IsFresh g paid lo × IsChoice g lo hi follow a e
    × IsPlan g inner false (suc lo) e e a (list_arms lo) × IsPlan g rest false e hi follow a k
IsPlan g (next d inner others) paid lo hi follow a blocks = ⊥
IsPlan g (next d inner others) paid lo hi follow a list_arm = ⊥
IsPlan g (next d inner others) paid lo hi follow a (list_arms x) =
    (follow ≡ hi) × IsNextArm g x lo hi d
    × IsPlan g inner false lo d follow a list_arm × IsPlan g others false d hi follow a (list_arms x)

-- a plan of a whole segment
abbrev pub IsPlanOf : Segment → Plan → Type 0
IsPlanOf g plan = IsPlan g plan false g.first g.past g.past no_loop blocks

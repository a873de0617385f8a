-- The region of a part of a unit, by its plan. It is made from the first block of the part on, and looks at one block
-- at a time.
-- Held against: this project's own segments.
use Rattle.std.specs.Prelude.{ℕ, suc, ◌==◌, nat_le, nat_lt, Bool, true, false, ◌&&◌, if◌then◌else◌, List, [], ◌∷◌, ◌++◌, length, slice_get, Option, Some, None}
use Rattle.st_tree.specs.declared.graph.StExit.{StExit}
use Rattle.st_tree.specs.declared.graph.StExit.TheVariants as exit
use Rattle.st_tree.specs.declared.graph.StNode.{StNode}
use Rattle.st_tree.specs.declared.program.Stmt.{Stmt}
use Rattle.graph_rules.specs.Flow.{flow_of}
use Rattle.nesting_laws.specs.Plans.{Around, Plan, arm, arms, cases, done, inside, loop, next, no_loop, one, skip}
use Rattle.region_laws.specs.Regions.{Marked, Place, Region, again, at, choose, cycle, ended, fork, is_among, leaves, node, off, out, quit, selected}

-- what regions are made from: the nodes of a unit, those that are reached and what each is besides; the first block
-- behind each that is reached, or how many blocks there are; and the steps of the block of the end word alone
pub record Chart : Type 0 where
  pub unit : Marked
  pub next : ℕ → ℕ
  pub end_steps : List Stmt

-- Where a block leads

-- a block is that of the end word alone
abbrev pub is_end : Chart → ℕ → Bool
is_end c t = (flow_of c.unit.nodes).ends_alone && (suc t == length c.unit.nodes)

-- to a block: the steps of the end block and RETURN, if it is that
abbrev pub end_of : Chart → ℕ → Region
end_of c t = if is_end c t then node c.end_steps ended else off

-- to a block, out of the loop around: CONTINUE, EXIT where the loop may be left, or as above
abbrev pub way_to : Chart → Around → ℕ → Region
way_to c no_loop t = end_of c t
way_to c (inside left head last) t =
    if t == head then again else if left && (t == suc last) then leaves else end_of c t

-- a place is that of a block
abbrev pub is_at : Place → ℕ → Bool
is_at (at f) t = f == t
is_at out t = false
is_at (selected k) t = false

-- a place is the end of the unit
abbrev pub is_out : Place → Bool
is_out (at f) = false
is_out out = true
is_out (selected k) = false

-- no block behind one is reached before another
abbrev pub is_last : Chart → ℕ → ℕ → Bool
is_last c lo hi = nat_le hi (c.next lo)

-- from a block of a part to a block: the rest of the part, if it begins there; nothing, if the part leads there when it
-- falls off its end; or a way out
abbrev pub tail_to : Chart → ℕ → ℕ → Place → Around → Region → ℕ → Region
tail_to c lo hi follow a rest t =
    if (t == c.next lo) && nat_lt t hi
    then rest
    else if is_at follow t && is_last c lo hi then off else way_to c a t

-- from a block of a part to the end of the unit
abbrev pub tail_out : Chart → ℕ → ℕ → Place → Region
tail_out c lo hi follow = if is_out follow && is_last c lo hi then off else ended

-- Blocks

-- a block that is written as it is, by its steps and its exit, and the rest of the part. Where its test leads to a
-- block, that is a way out
abbrev pub exit_region : Chart → ℕ → ℕ → Place → Around → Region → List Stmt → StExit → Region
exit_region c lo hi follow a rest steps exit.Fall = node steps (tail_to c lo hi follow a rest (suc lo))
exit_region c lo hi follow a rest steps (exit.Jump t) = node steps (tail_to c lo hi follow a rest t)
exit_region c lo hi follow a rest steps (exit.Branch e t) =
    if is_at follow t && is_last c lo hi
    then fork steps e off (tail_to c lo hi follow a rest (suc lo)) follow off
    else fork steps e (way_to c a t) off (at (suc lo)) (tail_to c lo hi follow a rest (suc lo))
exit_region c lo hi follow a rest steps (exit.EndIf e) = quit steps e (tail_to c lo hi follow a rest (suc lo))
exit_region c lo hi follow a rest steps (exit.Table e targets last) = off
exit_region c lo hi follow a rest steps exit.End = node steps (tail_out c lo hi follow)

abbrev pub one_region : Chart → ℕ → ℕ → Place → Around → Region → Option StNode → Region
one_region c lo hi follow a rest None = off
one_region c lo hi follow a rest (Some n) = exit_region c lo hi follow a rest n.steps n.exit

-- a block with a test, with a region each way, the place where both fall off, and the rest from there
abbrev pub test_region : Region → Region → Place → Region → List Stmt → StExit → Region
test_region there behind join rest steps (exit.Branch e t) = fork steps e there behind join rest
test_region there behind join rest steps other = off

abbrev pub fork_region : Region → Region → Place → Region → Option StNode → Region
fork_region there behind join rest None = off
fork_region there behind join rest (Some n) = test_region there behind join rest n.steps n.exit

-- a loop, by its last block, and the rest. Where no path leads from the loop to the block behind it, there is no rest
abbrev pub loop_region : Bool → Region → ℕ → Place → Region → Region
loop_region true body l follow rest = cycle body (at (suc l)) rest
loop_region false body l follow rest = cycle body follow off

-- Jump lists

-- where the arms of a jump list begin, from the one that begins at a block on
abbrev pub starts_from : Plan → ℕ → List ℕ
starts_from (next d inner others) lo = lo ∷ starts_from others d
starts_from other lo = []

-- where those after the first one begin
abbrev pub later_starts : Plan → List ℕ
later_starts (next d inner others) = starts_from others d
later_starts other = []

-- the nodes with an arm of their own: where arms begin after that of the label, and where all arms end, if entries lead
-- there
abbrev pub nodes_of : Plan → ℕ → List ℕ → List ℕ
nodes_of inner e targets = later_starts inner ++ (if is_among e targets then e ∷ [] else [])

-- a block with a jump list, by the arms of its nodes, that of its label, where all arms end, and what stands from there
-- on
abbrev pub list_region : Plan → ℕ → (ℕ → Region) → Region → Region → List Stmt → StExit → Region
list_region inner e by_node other rest steps (exit.Table test targets last) =
    choose steps test targets (nodes_of inner e targets) by_node other (at e) rest
list_region inner e by_node other rest steps other_exit = off

abbrev pub cases_region : Plan → ℕ → (ℕ → Region) → Region → Region → Option StNode → Region
cases_region inner e by_node other rest None = off
cases_region inner e by_node other rest (Some n) = list_region inner e by_node other rest n.steps n.exit

-- from the block where all arms of a jump list end: the rest of the part; or, where the part ends too, nothing if it
-- leads there when it falls off its end, else a way out
abbrev pub rest_from : Chart → ℕ → ℕ → Place → Around → Region → Region
rest_from c e hi follow a rest = if nat_lt e hi then rest else if is_at follow e then off else way_to c a e

-- Parts

abbrev mutual
  -- the region of the blocks from one up to, and not including, another; by the place where it leads when it falls off
  -- its end, and by the loop around
  pub region_of : Chart → Plan → ℕ → ℕ → Place → Around → Region
  region_of c done lo hi follow a = off
  region_of c (skip rest) lo hi follow a = region_of c rest (suc lo) hi follow a
  region_of c (one rest) lo hi follow a =
      one_region c lo hi follow a (region_of c rest (suc lo) hi follow a) (slice_get c.unit.nodes lo)
  region_of c (arm t d inner rest) lo hi follow a =
      fork_region off (region_of c inner (suc lo) d (at t) a) (at t) (region_of c rest d hi follow a)
      (slice_get c.unit.nodes lo)
  region_of c (arms t u d first second rest) lo hi follow a =
      fork_region (region_of c second t d (at u) a) (region_of c first (suc lo) t (at u) a) (at u)
      (region_of c rest d hi follow a) (slice_get c.unit.nodes lo)
  region_of c (loop left l body rest) lo hi follow a =
      loop_region (left && c.unit.reached (suc l)) (region_of c body lo (suc l) (at lo) (inside left lo l)) l follow
      (region_of c rest (suc l) hi follow a)
  region_of c (cases e inner rest) lo hi follow a =
      cases_region inner e (arm_from c inner (suc lo) e a) (arm_from c inner (suc lo) e a (suc lo))
      (rest_from c e hi follow a (region_of c rest e hi follow a)) (slice_get c.unit.nodes lo)
  region_of c (next d inner others) lo hi follow a = off

  -- of the arms of a jump list from one block up to another, the one that begins at a block
  pub arm_from : Chart → Plan → ℕ → ℕ → Around → ℕ → Region
  arm_from c (next d inner others) lo e a j =
      if j == lo then region_of c inner lo d (at e) a else arm_from c others d e a j
  arm_from c other lo e a j = off

-- What is counted of a region, by the weights of its statements; and what the blocks of a unit weigh.
-- Held against: this project's own bounds.
use Rattle.std.specs.Prelude.{ℕ, zero, suc, ◌+◌, ◌≤◌, Bool, true, false, List, [], ◌∷◌, slice_get, Option, Some, None}
use Rattle.st_tree.specs.declared.graph.StExit.{StExit}
use Rattle.st_tree.specs.declared.graph.StExit.TheVariants as exit
use Rattle.st_tree.specs.declared.graph.StNode.{StNode}
use Rattle.st_tree.specs.declared.program.Stmt.{Stmt}
use Rattle.region_laws.specs.Regions.{Mark, Region, again, arm_of, choose, cycle, ended, fork, labels_from, leaves, loop_head, node, off, quit, selector, table, turn_to, unmarked}
use Rattle.region_plans.specs.PlanRegion.{Chart}

-- Regions

-- what is counted: EXIT, CONTINUE and RETURN each as `leave`; an IF with one test, a WHILE, a CASE and an assignment to
-- `NEXT`; and the steps of a node
pub record Weights : Type 0 where
  pub leave : ℕ
  pub test : ℕ
  pub turn : ℕ
  pub select : ℕ
  pub set : ℕ
  pub steps : List Stmt → ℕ

-- the sum over some numbers
abbrev pub sum_of : (ℕ → ℕ) → List ℕ → ℕ
sum_of count [] = 0
sum_of count (n ∷ rest) = count n + sum_of count rest

-- what a region weighs
abbrev pub weight : Weights → Region → ℕ
weight w off = 0
weight w leaves = w.leave
weight w again = w.leave
weight w ended = w.leave
weight w (node steps rest) = w.steps steps + weight w rest
weight w (fork steps e there behind join rest) =
    w.steps steps + (w.test + weight w there + weight w behind + weight w rest)
weight w (quit steps e rest) = w.steps steps + (w.test + w.leave + weight w rest)
weight w (table steps e count arms join rest) =
    w.steps steps
    + (w.select + sum_of (λ n. weight w (arms n)) (labels_from 0 count) + weight w (arms count) + weight w rest)
weight w (choose steps e targets nodes arms other join rest) =
    w.steps steps + (w.select + sum_of (λ j. weight w (arms j)) nodes + weight w other + weight w rest)
weight w (cycle body behind rest) = w.turn + weight w body + weight w rest
weight w (turn_to j rest) = w.set + weight w rest
weight w (selector labels arms behind rest) =
    w.turn + w.select + sum_of (λ n. weight w (arms n)) labels + weight w rest

-- no CASE with an arm for each entry of a table, no dispatch loop and no `NEXT`
abbrev pub IsSimple : Region → Type 0
IsSimple off = Unit {0}
IsSimple leaves = Unit {0}
IsSimple again = Unit {0}
IsSimple ended = Unit {0}
IsSimple (node steps rest) = IsSimple rest
IsSimple (fork steps e there behind join rest) = IsSimple there × IsSimple behind × IsSimple rest
IsSimple (quit steps e rest) = IsSimple rest
IsSimple (table steps e count arms join rest) = ⊥
IsSimple (choose steps e targets nodes arms other join rest) =
    ((j : ℕ) → IsSimple (arms j)) × IsSimple other × IsSimple rest
IsSimple (cycle body behind rest) = IsSimple body × IsSimple rest
IsSimple (turn_to j rest) = ⊥
IsSimple (selector labels arms behind rest) = ⊥

-- Blocks

-- the sum over all blocks before one
abbrev pub before : (ℕ → ℕ) → ℕ → ℕ
before weight zero = 0
before weight (suc n) = before weight n + weight n

-- the IF or the CASE of an exit
abbrev pub exit_weight : Weights → StExit → ℕ
exit_weight w exit.Fall = 0
exit_weight w (exit.Jump j) = 0
exit_weight w (exit.Branch e j) = w.test
exit_weight w (exit.EndIf e) = w.test
exit_weight w (exit.Table e targets last) = w.select
exit_weight w exit.End = 0

-- the steps of a node, and what is made of its exit
abbrev pub node_weight : Weights → Option StNode → ℕ
node_weight w None = 0
node_weight w (Some n) = w.steps n.steps + exit_weight w n.exit

-- the loop of a head
abbrev pub mark_weight : Weights → Mark → ℕ
mark_weight w unmarked = 0
mark_weight w loop_head = w.turn
mark_weight w (arm_of k) = 0

-- the longest way out: the end steps and RETURN
abbrev pub way_weight : Weights → Chart → ℕ
way_weight w c = w.steps c.end_steps + w.leave

-- a block, with its loop if it is a head, and with two ways out
abbrev pub block_weight : Weights → Chart → ℕ → ℕ
block_weight w c b =
    node_weight w (slice_get c.unit.nodes b) + mark_weight w (c.unit.marks b) + (way_weight w c + way_weight w c)

-- the loop around a part, where a turn of it begins with the part
abbrev pub around_weight : Weights → Chart → Bool → ℕ → ℕ
around_weight w c true lo = mark_weight w (c.unit.marks lo)
around_weight w c false lo = 0

-- a region, with the loop around, weighs no more than the blocks from one up to, and not including, another
abbrev pub IsWithin : Weights → Chart → Bool → ℕ → ℕ → Region → Type 0
IsWithin w c turn lo hi r =
    weight w r + around_weight w c turn lo + before (block_weight w c) lo ≤ before (block_weight w c) hi

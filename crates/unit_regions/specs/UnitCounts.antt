-- What is counted of the region of a unit: its dispatch loops and their arms, and what its blocks weigh.
-- Held against: this project's own bounds.
use Rattle.std.specs.Prelude.{ℕ, ◌+◌, ◌-◌, ◌≤◌, max, Bool, List, [], ◌∷◌, Option, Some, None, length, slice_get}
use Rattle.st_tree.specs.declared.graph.StExit.{StExit}
use Rattle.st_tree.specs.declared.graph.StExit.TheVariants as exit
use Rattle.st_tree.specs.declared.graph.StNode.{StNode}
use Rattle.nesting_laws.specs.Plans.{Plan, levels}
use Rattle.region_laws.specs.Regions.{Mark, Region, again, arm_of, choose, cycle, ended, fork, labels_from, leaves, loop_head, node, off, quit, selector, table, turn_to, unmarked}
use Rattle.region_plans.specs.PlanRegion.{Chart}
use Rattle.region_plans.specs.RegionCounts.{Weights, block_weight, sum_of}
use Rattle.region_plans.specs.TextCounts.{block_statements}
use Rattle.unit_regions.specs.UnitRegion.{Section, reached_from}

-- Dispatch loops

-- what is counted of the dispatch loops of a region, by the blocks of each
abbrev pub loops_sum : (List ℕ → ℕ) → Region → ℕ
loops_sum count off = 0
loops_sum count leaves = 0
loops_sum count again = 0
loops_sum count ended = 0
loops_sum count (node steps rest) = loops_sum count rest
loops_sum count (fork steps e there behind join rest) =
    loops_sum count there + loops_sum count behind + loops_sum count rest
loops_sum count (quit steps e rest) = loops_sum count rest
loops_sum count (table steps e n arms join rest) =
    sum_of (λ k. loops_sum count (arms k)) (labels_from 0 n) + loops_sum count (arms n) + loops_sum count rest
loops_sum count (choose steps e targets nodes arms other join rest) =
    sum_of (λ j. loops_sum count (arms j)) nodes + loops_sum count other + loops_sum count rest
loops_sum count (cycle body behind rest) = loops_sum count body + loops_sum count rest
loops_sum count (turn_to j rest) = loops_sum count rest
loops_sum count (selector labels arms behind rest) =
    count labels + sum_of (λ k. loops_sum count (arms k)) labels + loops_sum count rest

-- the same of a segment that has no plan
abbrev pub section_sum : (List ℕ → ℕ) → (ℕ → Bool) → ℕ → ℕ → Option Plan → ℕ
section_sum count reached first past None = count (reached_from reached first (past - first))
section_sum count reached first past (Some plan) = 0

abbrev pub sections_sum : (List ℕ → ℕ) → (ℕ → Bool) → List Section → ℕ
sections_sum count reached [] = 0
sections_sum count reached (s ∷ rest) =
    section_sum count reached s.first s.past s.plan + sections_sum count reached rest

-- how many of some segments have no plan, and how many blocks these have
abbrev pub one_without : Option Plan → ℕ
one_without None = 1
one_without (Some plan) = 0

abbrev pub loops_of : List Section → ℕ
loops_of [] = 0
loops_of (s ∷ rest) = one_without s.plan + loops_of rest

abbrev pub blocks_without : ℕ → ℕ → Option Plan → ℕ
blocks_without first past None = past - first
blocks_without first past (Some plan) = 0

abbrev pub loop_blocks_of : List Section → ℕ
loop_blocks_of [] = 0
loop_blocks_of (s ∷ rest) = blocks_without s.first s.past s.plan + loop_blocks_of rest

-- Weights

-- what leads to a block of a dispatch loop or out of it
abbrev pub lead_weight : Weights → ℕ
lead_weight w = max w.leave w.set

-- the exit of a block of a dispatch loop
abbrev pub arm_weight : Weights → StExit → ℕ
arm_weight w exit.Fall = lead_weight w
arm_weight w (exit.Jump j) = lead_weight w
arm_weight w (exit.Branch e j) = w.test + lead_weight w + lead_weight w
arm_weight w (exit.EndIf e) = w.test + w.leave + lead_weight w
arm_weight w (exit.Table e targets last) = w.select + sum_of (λ j. lead_weight w) targets + lead_weight w
arm_weight w exit.End = w.leave

abbrev pub loop_node_weight : Weights → Option StNode → ℕ
loop_node_weight w None = 0
loop_node_weight w (Some n) = w.steps n.steps + arm_weight w n.exit

-- a block, by what it is besides
abbrev pub marked_weight : Weights → Chart → ℕ → Mark → ℕ
marked_weight w c b unmarked = block_weight w c b
marked_weight w c b loop_head = block_weight w c b
marked_weight w c b (arm_of k) = loop_node_weight w (slice_get c.unit.nodes b)

abbrev pub unit_block_weight : Weights → Chart → ℕ → ℕ
unit_block_weight w c b = marked_weight w c b (c.unit.marks b)

-- a dispatch loop without its blocks
abbrev pub loop_weight : Weights → Option Plan → ℕ
loop_weight w None = w.set + w.turn + w.select
loop_weight w (Some plan) = 0

abbrev pub loops_weight : Weights → List Section → ℕ
loops_weight w [] = 0
loops_weight w (s ∷ rest) = loop_weight w s.plan + loops_weight w rest

-- Depth

-- a plan is at most 64 deep
abbrev pub IsLow : Option Plan → Type 0
IsLow None = Unit {0}
IsLow (Some plan) = levels plan ≤ 64

-- each plan of some segments is
abbrev pub AreLow : List Section → Type 0
AreLow [] = Unit {0}
AreLow (s ∷ rest) = IsLow s.plan × AreLow rest

-- Texts

abbrev pub entries_in : StExit → ℕ
entries_in (exit.Table e targets last) = length targets
entries_in other = 0

-- the entries of the table of a block
abbrev pub entries_of : Option StNode → ℕ
entries_of None = 0
entries_of (Some n) = entries_in n.exit

-- the statements of a block, with 24 more, and one more for each entry of its table
abbrev pub unit_statements : Chart → ℕ → ℕ
unit_statements c b = block_statements c b + entries_of (slice_get c.unit.nodes b)

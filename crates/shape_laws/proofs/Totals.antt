-- The text of a unit has no more tests of IF than its nodes have conditional jumps, and no more CASE over anything but
-- the selector than they have jump lists.
use Rattle.std.proofs.Common.{◌≡◌, ℕ, zero, suc, ◌+◌, ◌≤◌, max, List, [], ◌∷◌, length, slice_get, Option, Some, None, refl, arith}
use Rattle.std.specs.List.{sum_by}
use Rattle.std.proofs.lemmas.List.Sums.{sum_by-cons}
use Rattle.st_tree.specs.declared.graph.StExit.{StExit}
use Rattle.st_tree.specs.declared.graph.StExit.TheVariants as exit
use Rattle.st_tree.specs.declared.graph.StNode.{StNode}
use Rattle.graph_rules.specs.Plain.{AreSettings, AreSteps}
use Rattle.nesting_laws.specs.Plans.{Plan}
use Rattle.region_laws.specs.Regions.{Mark, arm_of, loop_head, text_of, unmarked}
use Rattle.region_plans.specs.PlanRegion.{Chart}
use Rattle.region_plans.specs.RegionCounts.{before, exit_weight, mark_weight, node_weight, weight}
use Rattle.region_plans.specs.TextCounts.{block_tests, if_tests_in, of_tests, steps_of, tests_of_exit}
use Rattle.text_shapes.specs.NodeCounts.{conditionals_of, lists_of, one_if_conditional, one_if_list}
use Rattle.text_shapes.specs.Shape.{count_in, tests}
use Rattle.unit_regions.specs.UnitCharts.{AreSections, IsCutUp}
use Rattle.unit_regions.specs.UnitCounts.{arm_weight, loop_node_weight, loop_weight, loops_of, loops_weight, marked_weight, one_without, unit_block_weight}
use Rattle.unit_regions.specs.UnitRegion.{Section, unit_region}
use Rattle.unit_regions.proofs.Counting.{none_of}
use Rattle.unit_regions.proofs.Shorts.{unit_is_short}
use Rattle.unit_regions.proofs.Weighing.{sum_between, unit_is_within}
use Rattle.shape_laws.proofs.Loops.{tests_are}
use Rattle.shape_laws.proofs.Selecting.{of_cases}

-- Sums over nodes

pub before_shift : (h : ℕ → ℕ) (k : ℕ) → before h (suc k) ≡ h 0 + before (λ b. h (suc b)) k
before_shift h zero = let e : before h 1 ≡ 0 + h 0 = refl in omega arith
before_shift h (suc k) = let i = before_shift h k in omega arith

pub before_all : (f : Option StNode → ℕ) (g : StNode → ℕ) → ((n : StNode) → f (Some n) ≡ g n) → (nodes : List StNode)
    → before (λ b. f (slice_get nodes b)) (length nodes) ≡ sum_by g nodes
before_all f g same [] = refl
before_all f g same (n ∷ rest) =
    let s : before (λ b. f (slice_get (n ∷ rest) b)) (suc (length rest)) ≡ f (Some n) + before (λ b. f (slice_get rest b)) (length rest)
    = before_shift (λ b. f (slice_get (n ∷ rest) b)) (length rest) in
    let h = before_all f g same rest in let e = same n in let k = sum_by-cons g n rest in omega arith

-- Tests

tests_total : (c : Chart) → before (block_tests c) (length c.unit.nodes) ≡ conditionals_of c.unit.nodes
tests_total c =
    before_all (λ o. length (if_tests_in (steps_of o)) + tests_of_exit o) (λ n. one_if_conditional n.exit + count_in tests n.steps) same
    c.unit.nodes
  where
    one : (x : StExit) → exit_weight of_tests x ≡ one_if_conditional x
    one (exit.Branch e j) = refl
    one (exit.EndIf e) = refl
    one x = refl

    same : (n : StNode) → length (if_tests_in n.steps) + exit_weight of_tests n.exit ≡ one_if_conditional n.exit + count_in tests n.steps
    same n = let e = one n.exit in let f = tests_are n.steps in omega arith

pub unit_tests : (c : Chart) (cuts : List ℕ) (sections : List Section) (next : ℕ)
    → ((i : ℕ) (n : StNode) → slice_get c.unit.nodes i ≡ Some n → AreSteps n.steps)
    → IsCutUp c.unit.nodes c.unit.reached cuts → AreSections c cuts sections → AreSettings c.end_steps → length c.end_steps ≤ 4
    → count_in tests (text_of next (unit_region c sections)) ≤ conditionals_of c.unit.nodes
unit_tests c cuts sections next steps ok are settings few =
    let l = (unit_is_short c cuts sections next steps ok are settings few).tests in
    let e = tests_are (text_of next (unit_region c sections)) in let f = tests_total c in omega arith

-- CASE statements

abbrev list_at : Option StNode → ℕ
list_at None = 0
list_at (Some n) = one_if_list n.exit

lists_total : (c : Chart) → before (λ b. list_at (slice_get c.unit.nodes b)) (length c.unit.nodes) ≡ lists_of c.unit.nodes
lists_total c = before_all list_at (λ n. one_if_list n.exit) (λ n. refl) c.unit.nodes

module _ (c : Chart) where
  few_cases : (b : ℕ) → unit_block_weight of_cases c b ≤ list_at (slice_get c.unit.nodes b)
  few_cases b = by (c.unit.marks b)
    where
      one : (x : StExit) → exit_weight of_cases x ≡ one_if_list x
      one (exit.Branch e j) = refl
      one (exit.EndIf e) = refl
      one (exit.Table e targets last) = refl
      one x = refl

      own : (o : Option StNode) → node_weight of_cases o ≡ list_at o
      own None = refl
      own (Some n) = let e = one n.exit in omega arith

      free : (m : Mark) → mark_weight of_cases m ≡ 0
      free unmarked = refl
      free loop_head = refl
      free (arm_of k) = refl

      exits : (x : StExit) → arm_weight of_cases x ≤ one_if_list x
      exits (exit.Branch e j) = omega arith
      exits (exit.EndIf e) = omega arith
      exits (exit.Table e targets last) = let z = none_of (λ (j : ℕ). max 0 0) (λ j. refl) targets in omega arith
      exits x = omega arith

      arms : (o : Option StNode) → loop_node_weight of_cases o ≤ list_at o
      arms None = omega arith
      arms (Some n) = let e = exits n.exit in omega arith

      by : (m : Mark) → marked_weight of_cases c b m ≤ list_at (slice_get c.unit.nodes b)
      by unmarked = let n = own (slice_get c.unit.nodes b) in let f = free (c.unit.marks b) in omega arith
      by loop_head = let n = own (slice_get c.unit.nodes b) in let f = free (c.unit.marks b) in omega arith
      by (arm_of k) = arms (slice_get c.unit.nodes b)

  loops_cases : (sections : List Section) → loops_weight of_cases sections ≡ loops_of sections
  loops_cases [] = refl
  loops_cases (s ∷ rest) = let e = by s.plan in let h = loops_cases rest in omega arith
    where
      by : (plan : Option Plan) → loop_weight of_cases plan ≡ one_without plan
      by None = refl
      by (Some plan) = refl

  pub unit_cases : (cuts : List ℕ) (sections : List Section) → IsCutUp c.unit.nodes c.unit.reached cuts → AreSections c cuts sections
      → weight of_cases (unit_region c sections) ≤ lists_of c.unit.nodes + loops_of sections
  unit_cases cuts sections ok are =
      let l = unit_is_within of_cases c cuts sections ok are in
      let m = sum_between (unit_block_weight of_cases c) (λ b. list_at (slice_get c.unit.nodes b)) 0 (length c.unit.nodes)
      (λ b x y. few_cases b) (omega arith) in
      let e = lists_total c in let f = loops_cases sections in omega arith

-- The text of a unit is short.
use Rattle.std.proofs.Common.{◌≡◌, ℕ, ◌+◌, ◌≤◌, max, List, [], ◌∷◌, length, slice_get, Option, Some, None, refl, ap, arith}
use Rattle.st_tree.specs.BodyParts.{statements_in}
use Rattle.st_tree.specs.declared.graph.StExit.{StExit}
use Rattle.st_tree.specs.declared.graph.StExit.TheVariants as exit
use Rattle.st_tree.specs.declared.graph.StNode.{StNode}
use Rattle.graph_rules.specs.Plain.{AreSettings, AreSteps}
use Rattle.nesting_laws.specs.Plans.{Plan}
use Rattle.region_laws.specs.Regions.{Mark, arm_of, loop_head, unmarked}
use Rattle.region_plans.specs.PlanRegion.{Chart}
use Rattle.region_plans.specs.RegionCounts.{before, exit_weight, mark_weight, node_weight, sum_of}
use Rattle.region_plans.specs.TextCounts.{block_tests, block_whiles, if_tests_in, of_statements, of_tests, of_whiles, steps_of, tests_of_exit, while_tests_in}
use Rattle.region_plans.proofs.Texts.{settings_alone, settings_test, settings_turn, steps_turn, text_weighs}
use Rattle.unit_regions.specs.UnitCounts.{arm_weight, entries_in, entries_of, loop_node_weight, loop_weight, loops_of, loops_weight, marked_weight, one_without, unit_block_weight, unit_statements}
use Rattle.unit_regions.specs.UnitLaws.{UnitIsShort}
use Rattle.unit_regions.specs.UnitRegion.{Section, unit_region}
use Rattle.unit_regions.proofs.Counting.{none_of}
use Rattle.unit_regions.proofs.Weighing.{sum_between, unit_is_within}

-- a count of what blocks weigh that is no less
no_less : (f h : ℕ → ℕ) → ((b : ℕ) → f b ≤ h b) → (n : ℕ) → before f n ≤ before h n
no_less f h less n = let l = sum_between f h 0 n (λ b x y. less b) (omega arith) in omega arith

ones : (targets : List ℕ) → sum_of (λ (j : ℕ). 1) targets ≡ length targets
ones [] = refl
ones (t ∷ targets) = let h = ones targets in omega arith

-- dispatch loops without their blocks
loops_tests : (sections : List Section) → loops_weight of_tests sections ≡ 0
loops_tests [] = refl
loops_tests (s ∷ rest) = let e = by s.plan in let h = loops_tests rest in omega arith
  where
    by : (plan : Option Plan) → loop_weight of_tests plan ≡ 0
    by None = refl
    by (Some plan) = refl

loops_whiles : (sections : List Section) → loops_weight of_whiles sections ≡ loops_of sections
loops_whiles [] = refl
loops_whiles (s ∷ rest) = let e = by s.plan in let h = loops_whiles rest in omega arith
  where
    by : (plan : Option Plan) → loop_weight of_whiles plan ≡ one_without plan
    by None = refl
    by (Some plan) = refl

loops_statements : (sections : List Section) → loops_weight of_statements sections ≡ loops_of sections + loops_of sections + loops_of sections
loops_statements [] = refl
loops_statements (s ∷ rest) = let e = by s.plan in let h = loops_statements rest in omega arith
  where
    by : (plan : Option Plan) → loop_weight of_statements plan ≡ one_without plan + one_without plan + one_without plan
    by None = refl
    by (Some plan) = refl

module _ (c : Chart) (steps : (i : ℕ) (n : StNode) → slice_get c.unit.nodes i ≡ Some n → AreSteps n.steps)
    (settings : AreSettings c.end_steps) (few : length c.end_steps ≤ 4) where
  few_tests : (b : ℕ) → unit_block_weight of_tests c b ≤ block_tests c b
  few_tests b = by (c.unit.marks b)
    where
      ended_free : length (if_tests_in c.end_steps) ≡ 0
      ended_free = ap length (settings_test c.end_steps settings)

      own : (o : Option StNode) → node_weight of_tests o ≡ length (if_tests_in (steps_of o)) + tests_of_exit o
      own None = refl
      own (Some n) = refl

      free : (m : Mark) → mark_weight of_tests m ≡ 0
      free unmarked = refl
      free loop_head = refl
      free (arm_of k) = refl

      exits : (x : StExit) → arm_weight of_tests x ≤ exit_weight of_tests x
      exits exit.Fall = omega arith
      exits (exit.Jump j) = omega arith
      exits (exit.Branch e j) = omega arith
      exits (exit.EndIf e) = omega arith
      exits (exit.Table e targets last) = let z = none_of (λ (j : ℕ). max 0 0) (λ j. refl) targets in omega arith
      exits exit.End = omega arith

      arms : (o : Option StNode) → loop_node_weight of_tests o ≤ length (if_tests_in (steps_of o)) + tests_of_exit o
      arms None = omega arith
      arms (Some n) = let e = exits n.exit in omega arith

      by : (m : Mark) → marked_weight of_tests c b m ≤ block_tests c b
      by unmarked = let e = ended_free in let n = own (slice_get c.unit.nodes b) in let f = free (c.unit.marks b) in omega arith
      by loop_head = let e = ended_free in let n = own (slice_get c.unit.nodes b) in let f = free (c.unit.marks b) in omega arith
      by (arm_of k) = arms (slice_get c.unit.nodes b)

  few_whiles : (b : ℕ) → unit_block_weight of_whiles c b ≤ block_whiles c b
  few_whiles b = by (c.unit.marks b)
    where
      ended_free : length (while_tests_in c.end_steps) ≡ 0
      ended_free = ap length (settings_turn c.end_steps settings)

      none : (x : StExit) → exit_weight of_whiles x ≡ 0
      none (exit.Branch e t) = refl
      none (exit.EndIf e) = refl
      none (exit.Table e targets last) = refl
      none x = refl

      turns : (n : StNode) → slice_get c.unit.nodes b ≡ Some n → length (while_tests_in n.steps) ≡ 0
      turns n e = ap length (steps_turn n.steps (steps b n e))

      own : (o : Option StNode) → slice_get c.unit.nodes b ≡ o → node_weight of_whiles o ≡ 0
      own None there = refl
      own (Some n) there = let e = none n.exit in let t = turns n there in omega arith

      exits : (x : StExit) → arm_weight of_whiles x ≡ 0
      exits exit.Fall = refl
      exits (exit.Jump j) = refl
      exits (exit.Branch e j) = refl
      exits (exit.EndIf e) = refl
      exits (exit.Table e targets last) = let z = none_of (λ (j : ℕ). max 0 0) (λ j. refl) targets in omega arith
      exits exit.End = refl

      arms : (o : Option StNode) → slice_get c.unit.nodes b ≡ o → loop_node_weight of_whiles o ≡ 0
      arms None there = refl
      arms (Some n) there = let e = exits n.exit in let t = turns n there in omega arith

      by : (m : Mark) → marked_weight of_whiles c b m ≤ block_whiles c b
      by unmarked = let e = ended_free in let n = own (slice_get c.unit.nodes b) refl in omega arith
      by loop_head = let e = ended_free in let n = own (slice_get c.unit.nodes b) refl in omega arith
      by (arm_of k) = let n = arms (slice_get c.unit.nodes b) refl in omega arith

  few_statements : (b : ℕ) → unit_block_weight of_statements c b ≤ unit_statements c b
  few_statements b = by (c.unit.marks b)
    where
      ended_few : length (statements_in c.end_steps) ≤ 4
      ended_few = let e = settings_alone c.end_steps settings in omega arith

      tested : (x : StExit) → exit_weight of_statements x ≤ 1
      tested (exit.Branch e t) = omega arith
      tested (exit.EndIf e) = omega arith
      tested (exit.Table e targets last) = omega arith
      tested x = omega arith

      own : (o : Option StNode) → node_weight of_statements o ≤ length (statements_in (steps_of o)) + 1
      own None = omega arith
      own (Some n) = let e = tested n.exit in omega arith

      head : (m : Mark) → mark_weight of_statements m ≤ 1
      head unmarked = omega arith
      head loop_head = omega arith
      head (arm_of k) = omega arith

      exits : (x : StExit) → arm_weight of_statements x ≤ 3 + entries_in x
      exits exit.Fall = omega arith
      exits (exit.Jump j) = omega arith
      exits (exit.Branch e j) = omega arith
      exits (exit.EndIf e) = omega arith
      exits (exit.Table e targets last) = let z = ones targets in omega arith
      exits exit.End = omega arith

      arms : (o : Option StNode) → loop_node_weight of_statements o ≤ length (statements_in (steps_of o)) + 3 + entries_of o
      arms None = omega arith
      arms (Some n) = let e = exits n.exit in omega arith

      by : (m : Mark) → marked_weight of_statements c b m ≤ unit_statements c b
      by unmarked = let e = ended_few in let n = own (slice_get c.unit.nodes b) in let f = head (c.unit.marks b) in omega arith
      by loop_head = let e = ended_few in let n = own (slice_get c.unit.nodes b) in let f = head (c.unit.marks b) in omega arith
      by (arm_of k) = let n = arms (slice_get c.unit.nodes b) in omega arith

pub unit_is_short : UnitIsShort
unit_is_short c cuts sections next steps ok are settings few =
    let r = unit_region c sections in let (t, u, v) = text_weighs next r in let count = length c.unit.nodes in
    let t' = unit_is_within of_tests c cuts sections ok are in
    let t'' = no_less (unit_block_weight of_tests c) (block_tests c) (few_tests c steps settings few) count in let l = loops_tests sections in
    let u' = unit_is_within of_whiles c cuts sections ok are in
    let u'' = no_less (unit_block_weight of_whiles c) (block_whiles c) (few_whiles c steps settings few) count in let m = loops_whiles sections in
    let v' = unit_is_within of_statements c cuts sections ok are in
    let v'' = no_less (unit_block_weight of_statements c) (unit_statements c) (few_statements c steps settings few) count in
    let n = loops_statements sections in
    record { tests = (omega arith); whiles = (omega arith); statements = (omega arith) }

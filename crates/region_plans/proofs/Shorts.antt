-- The text of a segment has no more tests, loops and statements than its blocks.
use Rattle.std.proofs.Common.{◌≡◌, ⊎_elim, ℕ, zero, suc, ◌+◌, ◌<◌, ◌≤◌, Bool, false, length, slice_get, Option, Some, None, refl, ap, subst, arith}
use Rattle.std.proofs.lemmas.Bool.{cases_lt}
use Rattle.st_tree.specs.BodyParts.{statements_in}
use Rattle.st_tree.specs.declared.graph.StExit.{StExit}
use Rattle.st_tree.specs.declared.graph.StExit.TheVariants as exit
use Rattle.st_tree.specs.declared.graph.StNode.{StNode}
use Rattle.stl_tree.specs.Flows.{Segment}
use Rattle.graph_rules.specs.Plain.{AreSteps}
use Rattle.nesting_laws.specs.Plans.{Around, IsPlan, Plan, arm, arms, blocks, cases, done, loop, next, no_loop, one, skip}
use Rattle.region_laws.specs.Regions.{Mark, Place, Region, arm_of, loop_head, unmarked}
use Rattle.region_plans.specs.Charts.{IsCharted}
use Rattle.region_plans.specs.PlanRegion.{Chart, region_of}
use Rattle.region_plans.specs.RegionCounts.{Weights, before, block_weight, exit_weight, mark_weight, node_weight, weight}
use Rattle.region_plans.specs.RegionLaws.{SegmentIsShort}
use Rattle.region_plans.specs.TextCounts.{block_statements, block_tests, block_whiles, if_tests_in, of_statements, of_tests, of_whiles, steps_of, tests_of_exit, while_tests_in}
use Rattle.region_plans.proofs.Counting.{part_is_within}
use Rattle.region_plans.proofs.Texts.{settings_alone, settings_test, settings_turn, steps_turn, text_weighs}

-- where blocks weigh less, so do those between two
between : (f h : ℕ → ℕ) → ((b : ℕ) → f b ≤ h b) → (lo hi : ℕ) → lo ≤ hi → before f hi + before h lo ≤ before h hi + before f lo
between f h less lo zero x = let e : zero ≡ lo = omega arith in subst (λ lo. before f zero + before h lo ≤ before h zero + before f lo) e (omega arith)
between f h less lo (suc hi) x = ⊎_elim
    (λ y. let l = between f h less lo hi (omega arith) in let m = less hi in omega arith)
    (λ y. let e : suc hi ≡ lo = omega arith in
    subst (λ lo. before f (suc hi) + before h lo ≤ before h (suc hi) + before f lo) e (omega arith))
    (cases_lt lo (suc hi))

plan_ahead : (g : Segment) (plan : Plan) (turn : Bool) (lo hi f : ℕ) (a : Around) → IsPlan g plan turn lo hi f a blocks → lo ≤ hi
plan_ahead g done turn lo hi f a is = omega arith
plan_ahead g (skip rest) turn lo hi f a is = omega (arith, is.0)
plan_ahead g (one rest) turn lo hi f a is = omega (arith, is.0)
plan_ahead g (arm t d inner rest) turn lo hi f a is = omega (arith, is.0)
plan_ahead g (arms t u d inner other rest) turn lo hi f a is = omega (arith, is.0)
plan_ahead g (loop left l body rest) turn lo hi f a is = let x : l < hi = is.1.within in let y : lo ≤ l = is.1.loop.ordered in omega arith
plan_ahead g (cases e inner rest) turn lo hi f a is = omega (arith, is.0)
plan_ahead g (next d inner others) turn lo hi f a is = absurd is

module _ (c : Chart) (g : Segment) (plan : Plan) (follow : Place) (local : ℕ) (ok : IsCharted c g)
    (steps : (i : ℕ) (n : StNode) → slice_get c.unit.nodes i ≡ Some n → AreSteps n.steps)
    (is : IsPlan g plan false g.first g.past g.past no_loop blocks) where
  abbrev Whole : Region
  Whole = region_of c plan g.first g.past follow no_loop

  -- what the segment weighs, by any count of blocks that is no less
  counted : (w : Weights) (h : ℕ → ℕ) → ((b : ℕ) → block_weight w c b ≤ h b) → weight w Whole + before h g.first ≤ before h g.past
  counted w h less =
      let l : weight w Whole + 0 + before (block_weight w c) g.first ≤ before (block_weight w c) g.past
      = part_is_within w c g plan false g.first g.past g.past no_loop blocks follow ok is tt
      (record { low = (omega arith); high = (omega arith); turned = λ e. absurd cc }) in
      let m = between (block_weight w c) h less g.first g.past (plan_ahead g plan false g.first g.past g.past no_loop is) in omega arith

  no_way : (w : Weights) → w.steps c.end_steps ≡ 0 → w.leave ≡ 0 → (b : ℕ)
      → block_weight w c b ≡ node_weight w (slice_get c.unit.nodes b) + mark_weight w (c.unit.marks b)
  no_way w e f b = omega arith

  few_tests : (b : ℕ) → block_weight of_tests c b ≤ block_tests c b
  few_tests b =
      let e = no_way of_tests (ap length (settings_test c.end_steps ok.settings)) refl b in
      let n = by (slice_get c.unit.nodes b) in let m = none (c.unit.marks b) in omega arith
    where
      by : (o : Option StNode) → node_weight of_tests o ≡ length (if_tests_in (steps_of o)) + tests_of_exit o
      by None = refl
      by (Some n) = refl

      none : (m : Mark) → mark_weight of_tests m ≡ 0
      none unmarked = refl
      none loop_head = refl
      none (arm_of k) = refl

  few_whiles : (b : ℕ) → block_weight of_whiles c b ≤ block_whiles c b
  few_whiles b =
      let e = no_way of_whiles (ap length (settings_turn c.end_steps ok.settings)) refl b in
      let n = by (slice_get c.unit.nodes b) refl in omega arith
    where
      none : (y : StExit) → exit_weight of_whiles y ≡ 0
      none (exit.Branch e t) = refl
      none (exit.EndIf e) = refl
      none (exit.Table e targets last) = refl
      none y = refl

      by : (o : Option StNode) → slice_get c.unit.nodes b ≡ o → node_weight of_whiles o ≡ 0
      by None e = refl
      by (Some n) e =
          let f = none n.exit in let s : length (while_tests_in n.steps) ≡ 0 = ap length (steps_turn n.steps (steps b n e)) in omega arith

  few_statements : (b : ℕ) → block_weight of_statements c b ≤ block_statements c b
  few_statements b =
      let e : length (statements_in c.end_steps) ≡ length c.end_steps = settings_alone c.end_steps ok.settings in
      let l : length c.end_steps ≤ 4 = ok.few in let n = by (slice_get c.unit.nodes b) in let m = head (c.unit.marks b) in omega arith
    where
      tested : (y : StExit) → exit_weight of_statements y ≤ 1
      tested (exit.Branch e t) = omega arith
      tested (exit.EndIf e) = omega arith
      tested (exit.Table e targets last) = omega arith
      tested y = omega arith

      by : (o : Option StNode) → node_weight of_statements o ≤ length (statements_in (steps_of o)) + 1
      by None = omega arith
      by (Some n) = let e = tested n.exit in omega arith

      head : (m : Mark) → mark_weight of_statements m ≤ 1
      head unmarked = omega arith
      head loop_head = omega arith
      head (arm_of k) = omega arith

pub segment_is_short : SegmentIsShort
segment_is_short c g plan follow local ok steps is =
    let r = region_of c plan g.first g.past follow no_loop in
    let (t, u, v) = text_weighs local r in
    let t' = counted c g plan follow local ok steps is of_tests (block_tests c) (few_tests c g plan follow local ok steps is) in
    let u' = counted c g plan follow local ok steps is of_whiles (block_whiles c) (few_whiles c g plan follow local ok steps is) in
    let v' = counted c g plan follow local ok steps is of_statements (block_statements c) (few_statements c g plan follow local ok steps is) in
    record { tests = (omega arith); whiles = (omega arith); statements = (omega arith) }

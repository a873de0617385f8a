-- The text of a unit has no more WHILE than its segments allow.
use Rattle.std.proofs.Common.{◌≡◌, inl, inr, ℕ, suc, ◌+◌, ◌-◌, ◌≤◌, ◌==◌, if◌then◌else◌, List, [], ◌∷◌, ◌++◌, length, map, slice_get, Option, Some, None, refl, sym, ap, ◌∙◌, arith}
use Rattle.std.specs.List.{sum_by}
use Rattle.std.proofs.lemmas.Bool.{cond_both}
use Rattle.std.proofs.lemmas.List.Concat.{length-flat_map}
use Rattle.std.proofs.lemmas.List.Sums.{sum_by-cons}
use Rattle.st_tree.specs.BodyParts.{statements_in}
use Rattle.st_tree.specs.GraphRun.{entry_or}
use Rattle.st_tree.specs.declared.expr.Expr.{Expr}
use Rattle.st_tree.specs.declared.graph.StExit.{StExit}
use Rattle.st_tree.specs.declared.graph.StExit.TheVariants as exit
use Rattle.st_tree.specs.declared.graph.StNode.{StNode}
use Rattle.st_tree.specs.declared.program.Arm.{Arm}
use Rattle.st_tree.specs.declared.program.Stmt.{Stmt, out-Stmt}
use Rattle.st_tree.specs.declared.program.Stmt.TheOpen as S
use Rattle.stl_tree.specs.Flows.{IsSegment}
use Rattle.graph_rules.specs.Plain.{AreSteps}
use Rattle.nesting_laws.specs.Plans.{Plan, no_loop}
use Rattle.region_laws.specs.Regions.{Place, labels_from, leaves, off, text_of, turn_to, ended}
use Rattle.region_plans.specs.PlanRegion.{Chart, is_out, region_of}
use Rattle.region_plans.specs.RegionCounts.{before, weight}
use Rattle.region_plans.specs.TextCounts.{block_whiles, of_whiles, while_step, while_tests_in, test_step, if_tests_in}
use Rattle.region_plans.proofs.Shorts.{segment_is_short}
use Rattle.region_plans.proofs.Texts.{steps_turn, text_weighs}
use Rattle.text_shapes.specs.Allowed.{Judgement, loops_allowed}
use Rattle.text_shapes.specs.Shape.{count_in, loops, tests}
use Rattle.text_shapes.proofs.Counting.{Layer, count_append}
use Rattle.unit_regions.specs.MadeCharts.{IsPlannedBy}
use Rattle.unit_regions.specs.UnitCharts.{IsCutUp, IsWrittenBy, segment_of}
use Rattle.unit_regions.specs.UnitRegion.{Section, arm_region, dispatch_region, falls_off, lead_to, node_region, place_of, reached_from, region_by, section_region, unit_region}
use Rattle.unit_regions.proofs.Counting.{none_of}
use Rattle.unit_regions.proofs.Following.{followed_by_text}
use Rattle.shape_laws.proofs.Heads.{are_heads, heads_are, heads_from, one_head}
use Rattle.shape_laws.proofs.Judging.{AreKnown, judgement_of, judgements_of}

-- What is counted as a number, and as the length of a list

module _ (count : Layer → ℕ) (step : Layer → List Expr) (same : (y : Layer) → count y ≡ length (step y)) where
  sums_same : (xs : List Stmt) → sum_by (λ (x : Stmt). count (out-Stmt x)) xs ≡ sum_by (λ (x : Stmt). length (step (out-Stmt x))) xs
  sums_same [] = refl
  sums_same (x ∷ xs) =
      let e = sum_by-cons (λ (x : Stmt). count (out-Stmt x)) x xs in
      let f = sum_by-cons (λ (x : Stmt). length (step (out-Stmt x))) x xs in
      let g = same (out-Stmt x) in let h = sums_same xs in omega arith

whiles_are : (body : List Stmt) → count_in loops body ≡ length (while_tests_in body)
whiles_are body =
    sums_same loops while_step by (statements_in body) ∙ sym (length-flat_map (λ (x : Stmt). while_step (out-Stmt x)) (statements_in body))
  where
    by : (y : Layer) → loops y ≡ length (while_step y)
    by (S.While test body) = refl
    by y = refl

pub tests_are : (body : List Stmt) → count_in tests body ≡ length (if_tests_in body)
tests_are body =
    sums_same tests test_step by (statements_in body) ∙ sym (length-flat_map (λ (x : Stmt). test_step (out-Stmt x)) (statements_in body))
  where
    many : (arms : List Arm) → length arms ≡ length (map (λ (arm : Arm). arm.test) arms)
    many [] = refl
    many (arm ∷ arms) = ap suc (many arms)

    by : (y : Layer) → tests y ≡ length (test_step y)
    by (S.If arms other) = many arms
    by y = refl

-- Dispatch loops

lead_whiles : (past t : ℕ) → weight of_whiles (lead_to past t) ≡ 0
lead_whiles past t = cond_both (t == past) leaves (turn_to t off) (λ r. weight of_whiles r ≡ 0) (λ e. refl) (λ e. refl)

arm_whiles : (first past : ℕ) (follow : Place) (i : ℕ) (steps : List Stmt) (x : StExit) → length (while_tests_in steps) ≡ 0
    → weight of_whiles (arm_region first past follow i steps x) ≡ 0
arm_whiles first past follow i steps exit.Fall free = let x = lead_whiles past (suc i) in omega arith
arm_whiles first past follow i steps (exit.Jump t) free = let x = lead_whiles past t in omega arith
arm_whiles first past follow i steps (exit.Branch e t) free = let x = lead_whiles past t in let y = lead_whiles past (suc i) in omega arith
arm_whiles first past follow i steps (exit.EndIf e) free = let x = lead_whiles past (suc i) in omega arith
arm_whiles first past follow i steps (exit.Table e targets last) free =
    let x = none_of (λ n. weight of_whiles (lead_to past (entry_or (slice_get targets n) last)))
    (λ n. lead_whiles past (entry_or (slice_get targets n) last)) (labels_from 0 (length targets)) in
    let y = lead_whiles past (entry_or (slice_get targets (length targets)) last) in omega arith
arm_whiles first past follow i steps exit.End free =
    cond_both (is_out follow) leaves ended (λ r. length (while_tests_in steps) + weight of_whiles r ≡ 0) (λ e. omega arith) (λ e. omega arith)

module _ (c : Chart) (next : ℕ) (steps : (i : ℕ) (n : StNode) → slice_get c.unit.nodes i ≡ Some n → AreSteps n.steps) where
  node_whiles : (first past : ℕ) (follow : Place) (i : ℕ) (o : Option StNode) → slice_get c.unit.nodes i ≡ o
      → weight of_whiles (node_region first past follow i o) ≡ 0
  node_whiles first past follow i None e = refl
  node_whiles first past follow i (Some n) e =
      arm_whiles first past follow i n.steps n.exit (ap length (steps_turn n.steps (steps i n e)))

  dispatch_whiles : (first past : ℕ) (follow : Place) → count_in loops (text_of next (dispatch_region c first past follow)) ≡ 1
  dispatch_whiles first past follow =
      let e = whiles_are (text_of next (dispatch_region c first past follow)) in
      let f = (text_weighs next (dispatch_region c first past follow)).1 in
      let g = none_of (λ i. weight of_whiles (node_region first past follow i (slice_get c.unit.nodes i)))
      (λ i. node_whiles first past follow i (slice_get c.unit.nodes i) refl) (reached_from c.unit.reached first (past - first)) in
      omega arith

  module _ (cuts : List ℕ) (ok : IsCutUp c.unit.nodes c.unit.reached cuts) where
    -- no more WHILE than heads
    plan_loops : (first past : ℕ) (plan : Plan) → IsSegment (segment_of c first past) → IsWrittenBy c first past (Some plan)
        → count_in loops (text_of next (region_of c plan first past (place_of c past) no_loop)) ≤ length (heads_from c first (past - first))
    plan_loops first past plan is (charted, planned) =
        let short = segment_is_short c (segment_of c first past) plan (place_of c past) next charted steps planned in
        let l : length (while_tests_in (text_of next (region_of c plan first past (place_of c past) no_loop))) + before (block_whiles c) first
        ≤ before (block_whiles c) past = short.whiles in
        let e : count_in loops (text_of next (region_of c plan first past (place_of c past) no_loop))
        ≡ length (while_tests_in (text_of next (region_of c plan first past (place_of c past) no_loop)))
        = whiles_are (text_of next (region_of c plan first past (place_of c past) no_loop)) in
        let h : length (heads_from c first (past - first)) + before (block_whiles c) first ≡ before (block_whiles c) past
        = heads_are c cuts ok first past is (λ h x y. charted.heads h x y) in
        omega arith

    region_loops : (first past : ℕ) (plan : Option Plan) (more : List Judgement) → IsSegment (segment_of c first past)
        → (planned : IsPlannedBy c.unit.nodes first past plan) → IsWrittenBy c first past plan
        → count_in loops (text_of next (region_by c first past plan)) + loops_allowed more
        ≤ loops_allowed (judgement_of c first past plan planned ∷ more)
    region_loops first past None more is planned written = let e = dispatch_whiles first past (place_of c past) in omega arith
    region_loops first past (Some plan) more is ((by_paths, inl closed), planned) written =
        let l = plan_loops first past plan is written in omega arith
    region_loops first past (Some plan) more is ((by_paths, inr other), planned) written =
        let l = plan_loops first past plan is written in
        let few = one_head (segment_of c first past) (heads_from c first (past - first))
        (are_heads c cuts ok first past is (λ h x y. written.0.heads h x y)) other.1 in
        omega arith

    pub unit_whiles : (sections : List Section) (known : AreKnown c sections)
        → count_in loops (text_of next (unit_region c sections)) ≤ loops_allowed (judgements_of c sections known)
    unit_whiles [] known = omega arith
    unit_whiles (s ∷ rest) known =
        let own = known s (inl refl) in
        let r = section_region c s in let more = unit_region c rest in
        let l = region_loops s.first s.past s.plan (judgements_of c rest (λ q among. known q (inr among))) own.0 own.1 own.2 in
        let h = unit_whiles rest (λ q among. known q (inr among)) in
        let f : count_in loops (text_of next (unit_region c (s ∷ rest)))
        ≡ count_in loops (text_of next r ++ (if falls_off r then text_of next more else []))
        = ap (count_in loops) (followed_by_text next r more) in
        let g = count_append loops (text_of next r) (if falls_off r then text_of next more else []) in
        let m : count_in loops (if falls_off r then text_of next more else []) ≤ count_in loops (text_of next more)
        = cond_both (falls_off r) (text_of next more) [] (λ body. count_in loops body ≤ count_in loops (text_of next more))
        (λ e. omega arith) (λ e. omega arith) in
        omega arith

-- The region of a unit weighs no more than its blocks and dispatch loops, and is flat.
use Rattle.std.proofs.Common.{◌≡◌, ◌⊎◌, inl, inr, ⊎_elim, ℕ, zero, suc, ◌+◌, ◌-◌, ◌<◌, ◌≤◌, ◌==◌, max, Bool, true, false, List, [], ◌∷◌, ◌++◌, append_assoc, length, slice_get, Option, Some, None, refl, sym, ap, subst, arith}
use Rattle.std.proofs.lemmas.Bool.{cases_lt, cond_both}
use Rattle.st_tree.specs.GraphRun.{entry_or}
use Rattle.st_tree.specs.declared.graph.StExit.{StExit}
use Rattle.st_tree.specs.declared.graph.StExit.TheVariants as exit
use Rattle.st_tree.specs.declared.graph.StNode.{StNode}
use Rattle.st_tree.specs.declared.program.Stmt.{Stmt}
use Rattle.stl_tree.specs.Segments.{AreCuts}
use Rattle.stl_tree.specs.Flows.{blocks_of}
use Rattle.graph_rules.specs.Flow.{flow_of}
use Rattle.nesting_laws.specs.Plans.{Plan, blocks, no_loop}
use Rattle.region_laws.specs.Regions.{Mark, Place, Region, again, arm_of, choose, cycle, ended, fork, labels_from, leaves, loop_head, node, off, quit, selector, table, turn_to, unmarked}
use Rattle.region_plans.specs.PlanRegion.{Chart, is_out}
use Rattle.region_plans.specs.RegionCounts.{Weights, before, block_weight, sum_of, weight}
use Rattle.region_laws.specs.RegionDepth.{depth, most_of}
use Rattle.region_plans.proofs.Counting.{before_more, part_is_flat, part_is_within}
use Rattle.unit_regions.specs.UnitCharts.{AreInRow, IsCutUp, IsDispatched, IsWrittenBy, segment_of}
use Rattle.unit_regions.specs.UnitCounts.{IsLow, arm_weight, lead_weight, loop_node_weight, loop_weight, loops_weight, marked_weight, unit_block_weight}
use Rattle.unit_regions.specs.UnitLaws.{UnitIsFlat, UnitIsWithin}
use Rattle.unit_regions.specs.UnitRegion.{Section, arm_region, followed_by, lead_to, node_region, place_of, reached_from, region_by, section_region, unit_region}
use Rattle.unit_regions.proofs.Cutting.{blocks_are, next_of_more, segments}

-- Sums

-- where blocks between two weigh less, so do they together
pub sum_between : (f h : ℕ → ℕ) (lo hi : ℕ) → ((b : ℕ) → lo ≤ b → b < hi → f b ≤ h b) → lo ≤ hi
    → before f hi + before h lo ≤ before h hi + before f lo
sum_between f h lo zero less x =
    let e : zero ≡ lo = omega arith in subst (λ lo. before f zero + before h lo ≤ before h zero + before f lo) e (omega arith)
sum_between f h lo (suc hi) less x = ⊎_elim
    (λ y. let l = sum_between f h lo hi (λ b z w. less b z (omega arith)) (omega arith) in let m = less hi (omega arith) (omega arith) in omega arith)
    (λ y. let e : suc hi ≡ lo = omega arith in
    subst (λ lo. before f (suc hi) + before h lo ≤ before h (suc hi) + before f lo) e (omega arith))
    (cases_lt lo (suc hi))

module _ (w : Weights) where
  followed_weight : (r more : Region) → weight w (followed_by r more) ≤ weight w r + weight w more
  followed_weight off more = omega arith
  followed_weight leaves more = omega arith
  followed_weight again more = omega arith
  followed_weight ended more = omega arith
  followed_weight (node steps rest) more = let h = followed_weight rest more in omega arith
  followed_weight (fork steps e there behind join rest) more = let h = followed_weight rest more in omega arith
  followed_weight (quit steps e rest) more = let h = followed_weight rest more in omega arith
  followed_weight (table steps e n arms join rest) more = let h = followed_weight rest more in omega arith
  followed_weight (choose steps e targets nodes arms other join rest) more = let h = followed_weight rest more in omega arith
  followed_weight (cycle body behind rest) more = let h = followed_weight rest more in omega arith
  followed_weight (turn_to j rest) more = let h = followed_weight rest more in omega arith
  followed_weight (selector labels arms behind rest) more = let h = followed_weight rest more in omega arith

  -- Dispatch loops

  lead_within : (past t : ℕ) → weight w (lead_to past t) ≤ lead_weight w
  lead_within past t = cond_both (t == past) leaves (turn_to t off) (λ r. weight w r ≤ lead_weight w) (λ e. omega arith) (λ e. omega arith)

  entries_within : (f : ℕ → ℕ) → ((n : ℕ) → f n ≤ lead_weight w) → (targets : List ℕ) (k : ℕ)
      → sum_of f (labels_from k (length targets)) ≤ sum_of (λ (j : ℕ). lead_weight w) targets
  entries_within f less [] k = omega arith
  entries_within f less (t ∷ targets) k = let x = less k in let h = entries_within f less targets (suc k) in omega arith

  arm_within : (first past : ℕ) (follow : Place) (i : ℕ) (steps : List Stmt) (x : StExit)
      → weight w (arm_region first past follow i steps x) ≤ w.steps steps + arm_weight w x
  arm_within first past follow i steps exit.Fall = let x = lead_within past (suc i) in omega arith
  arm_within first past follow i steps (exit.Jump t) = let x = lead_within past t in omega arith
  arm_within first past follow i steps (exit.Branch e t) = let x = lead_within past t in let y = lead_within past (suc i) in omega arith
  arm_within first past follow i steps (exit.EndIf e) = let x = lead_within past (suc i) in omega arith
  arm_within first past follow i steps (exit.Table e targets last) =
      let x = entries_within (λ n. weight w (lead_to past (entry_or (slice_get targets n) last)))
      (λ n. lead_within past (entry_or (slice_get targets n) last)) targets 0 in
      let y = lead_within past (entry_or (slice_get targets (length targets)) last) in omega arith
  arm_within first past follow i steps exit.End =
      cond_both (is_out follow) leaves ended (λ r. w.steps steps + weight w r ≤ w.steps steps + w.leave) (λ e. omega arith) (λ e. omega arith)

  node_within : (first past : ℕ) (follow : Place) (i : ℕ) (o : Option StNode)
      → weight w (node_region first past follow i o) ≤ loop_node_weight w o
  node_within first past follow i None = omega arith
  node_within first past follow i (Some n) = arm_within first past follow i n.steps n.exit

  -- the blocks of a dispatch loop weigh no more than the blocks that are reached
  labels_within : (f h : ℕ → ℕ) (reached : ℕ → Bool) (n first : ℕ)
      → ((b : ℕ) → first ≤ b → b < first + n → reached b ≡ true → f b ≤ h b)
      → sum_of f (reached_from reached first n) + before h first ≤ before h (first + n)
  labels_within f h reached zero first less = subst (λ b. 0 + before h first ≤ before h b) (let e : first ≡ first + zero = omega arith in e) (omega arith)
  labels_within f h reached (suc n) first less =
      let m = labels_within f h reached n (suc first) (λ b x y r. less b (omega arith) (omega arith) r) in
      let m' : sum_of f (reached_from reached (suc first) n) + before h (suc first) ≤ before h (first + suc n)
      = subst (λ b. sum_of f (reached_from reached (suc first) n) + before h (suc first) ≤ before h b)
      (let e : suc first + n ≡ first + suc n = omega arith in e) m in
      cond_both (reached first) (first ∷ reached_from reached (suc first) n) (reached_from reached (suc first) n)
      (λ labels. sum_of f labels + before h first ≤ before h (first + suc n))
      (λ r. let l = less first (omega arith) (omega arith) r in omega arith) (λ r. omega arith)

  -- Segments

  module _ (c : Chart) where
    abbrev Blocks : ℕ → ℕ
    Blocks = before (unit_block_weight w c)

    by_mark : (b : ℕ) (m : Mark) → c.unit.marks b ≡ m → unit_block_weight w c b ≡ marked_weight w c b m
    by_mark b m e = ap (marked_weight w c b) e

    dispatch_within : (first past : ℕ) → first < past → IsDispatched c first past
        → weight w (region_by c first past None) + Blocks first ≤ Blocks past + loop_weight w None
    dispatch_within first past some d =
        let f : ℕ → ℕ = λ i. weight w (node_region first past (place_of c past) i (slice_get c.unit.nodes i)) in
        let m = labels_within f (unit_block_weight w c) c.unit.reached (past - first) first
        (λ b x y r. let e = by_mark b (arm_of first) (d.arm b x (omega arith) r) in
        let l = node_within first past (place_of c past) b (slice_get c.unit.nodes b) in omega arith) in
        let e : first + (past - first) ≡ past = omega arith in
        let m' : sum_of f (reached_from c.unit.reached first (past - first)) + Blocks first ≤ Blocks past
        = subst (λ b. sum_of f (reached_from c.unit.reached first (past - first)) + Blocks first ≤ Blocks b) e m in omega arith

    headed_weight : (g : ℕ) → (c.unit.marks g ≡ loop_head) ⊎ (c.unit.marks g ≡ unmarked) → block_weight w c g ≤ unit_block_weight w c g
    headed_weight b o = ⊎_elim (λ e. let x = by_mark b loop_head e in omega arith) (λ e. let x = by_mark b unmarked e in omega arith) o

    region_within : (first past : ℕ) (plan : Option Plan) → first < past → IsWrittenBy c first past plan
        → weight w (region_by c first past plan) + Blocks first ≤ Blocks past + loop_weight w plan
    region_within first past None some written = dispatch_within first past some written
    region_within first past (Some plan) some (charted, planned) =
        let r = region_by c first past (Some plan) in
        let l : weight w r + 0 + before (block_weight w c) first ≤ before (block_weight w c) past
        = part_is_within w c (segment_of c first past) plan false first past past no_loop blocks (place_of c past) charted planned tt
        (record { low = (omega arith); high = (omega arith); turned = λ e. absurd cc }) in
        let m = sum_between (block_weight w c) (unit_block_weight w c) first past
        (λ b x y. headed_weight b (⊎_elim (λ (l, lp, e). inl e) (λ (none, e). inr e) (charted.heads b x y))) (omega arith) in omega arith

    module _ (all : List ℕ) (ok : IsCutUp c.unit.nodes c.unit.reached all) where
      within_from : (done : List ℕ) (b : ℕ) (cuts : List ℕ) (sections : List Section) → AreCuts (blocks_of (flow_of c.unit.nodes)) (done ++ b ∷ cuts)
          → AreInRow (IsWrittenBy c) c b cuts sections → weight w (unit_region c sections) + Blocks b ≤ Blocks (length c.unit.nodes) + loops_weight w sections
      within_from done b cuts [] points are = absurd are
      within_from done b [] (s ∷ rest) points (e, f, written, none) =
          let is = segments c done b [] points in
          let some : s.first < s.past = subst (λ past. s.first < past) (sym f) (subst (λ b. b < length c.unit.nodes) (sym e) is.some) in
          let l = region_within s.first s.past s.plan some written in
          let l' : weight w (section_region c s) + Blocks b ≤ Blocks (length c.unit.nodes) + loop_weight w s.plan
          = subst (λ past. weight w (section_region c s) + Blocks b ≤ Blocks past + loop_weight w s.plan) f
          (subst (λ b. weight w (section_region c s) + Blocks b ≤ Blocks s.past + loop_weight w s.plan) e l) in
          let m = followed_weight (section_region c s) (unit_region c rest) in
          let n : weight w (unit_region c rest) ≡ 0 = subst (λ rest. weight w (unit_region c rest) ≡ 0) (sym none) refl in omega arith
      within_from done b (cut ∷ cuts) (s ∷ rest) points (e, f, written, more) =
          let is = segments c done b (cut ∷ cuts) points in
          let some : s.first < s.past = subst (λ past. s.first < past) (sym f) (subst (λ b. b < cut) (sym e) is.some) in
          let l = region_within s.first s.past s.plan some written in
          let l' : weight w (section_region c s) + Blocks b ≤ Blocks cut + loop_weight w s.plan
          = subst (λ past. weight w (section_region c s) + Blocks b ≤ Blocks past + loop_weight w s.plan) f
          (subst (λ b. weight w (section_region c s) + Blocks b ≤ Blocks s.past + loop_weight w s.plan) e l) in
          let m = followed_weight (section_region c s) (unit_region c rest) in
          let high : Blocks cut ≤ Blocks (length c.unit.nodes) = before_more (unit_block_weight w c) cut (length c.unit.nodes)
          (let x : cut < length (blocks_of (flow_of c.unit.nodes)) = (points.each cut (next_of_more done b cut cuts)).there in omega (arith, blocks_are c)) in
          let k : weight w (unit_region c rest) + Blocks cut ≤ Blocks (length c.unit.nodes) + loops_weight w rest
          = ⊎_elim
          (λ (n, none). subst (λ rest. weight w (unit_region c rest) + Blocks cut ≤ Blocks (length c.unit.nodes) + loops_weight w rest)
          (sym none) (omega arith))
          (λ (y, are). within_from (done ++ b ∷ []) cut cuts rest
          (subst (λ cuts. AreCuts (blocks_of (flow_of c.unit.nodes)) cuts) (sym (append_assoc done (b ∷ []) (cut ∷ cuts))) points) are) more in
          omega arith

pub unit_is_within : UnitIsWithin
unit_is_within w c [] sections ok are = absurd are
unit_is_within w c (cut ∷ cuts) sections ok are =
    let l = within_from w c (cut ∷ cuts) ok [] cut cuts sections ok.points are in omega arith

-- Depth

followed_depth : (r more : Region) → depth (followed_by r more) ≤ max (depth r) (depth more)
followed_depth off more = omega arith
followed_depth leaves more = omega arith
followed_depth again more = omega arith
followed_depth ended more = omega arith
followed_depth (node steps rest) more = followed_depth rest more
followed_depth (fork steps e there behind join rest) more = let h = followed_depth rest more in omega arith
followed_depth (quit steps e rest) more = let h = followed_depth rest more in omega arith
followed_depth (table steps e n arms join rest) more = let h = followed_depth rest more in omega arith
followed_depth (choose steps e targets nodes arms other join rest) more = let h = followed_depth rest more in omega arith
followed_depth (cycle body behind rest) more = let h = followed_depth rest more in omega arith
followed_depth (turn_to j rest) more = followed_depth rest more
followed_depth (selector labels arms behind rest) more = let h = followed_depth rest more in omega arith

most_within : (f : ℕ → ℕ) (k : ℕ) → ((n : ℕ) → f n ≤ k) → (labels : List ℕ) → most_of f labels ≤ k
most_within f k less [] = omega arith
most_within f k less (n ∷ labels) = let x = less n in let h = most_within f k less labels in omega arith

lead_flat : (past t : ℕ) → depth (lead_to past t) ≤ 0
lead_flat past t = cond_both (t == past) leaves (turn_to t off) (λ r. depth r ≤ 0) (λ e. omega arith) (λ e. omega arith)

arm_flat : (first past : ℕ) (follow : Place) (i : ℕ) (steps : List Stmt) (x : StExit) → depth (arm_region first past follow i steps x) ≤ 1
arm_flat first past follow i steps exit.Fall = let x = lead_flat past (suc i) in omega arith
arm_flat first past follow i steps (exit.Jump t) = let x = lead_flat past t in omega arith
arm_flat first past follow i steps (exit.Branch e t) = let x = lead_flat past t in let y = lead_flat past (suc i) in omega arith
arm_flat first past follow i steps (exit.EndIf e) = let x = lead_flat past (suc i) in omega arith
arm_flat first past follow i steps (exit.Table e targets last) =
    let x = most_within (λ n. depth (lead_to past (entry_or (slice_get targets n) last))) 0
    (λ n. lead_flat past (entry_or (slice_get targets n) last)) (labels_from 0 (suc (length targets))) in omega arith
arm_flat first past follow i steps exit.End = cond_both (is_out follow) leaves ended (λ r. depth r ≤ 1) (λ e. omega arith) (λ e. omega arith)

node_flat : (first past : ℕ) (follow : Place) (i : ℕ) (o : Option StNode) → depth (node_region first past follow i o) ≤ 1
node_flat first past follow i None = omega arith
node_flat first past follow i (Some n) = arm_flat first past follow i n.steps n.exit

region_flat : (c : Chart) (first past : ℕ) (plan : Option Plan) → IsLow plan → depth (region_by c first past plan) ≤ 65
region_flat c first past None low =
    let x = most_within (λ i. depth (node_region first past (place_of c past) i (slice_get c.unit.nodes i))) 1
    (λ i. node_flat first past (place_of c past) i (slice_get c.unit.nodes i)) (reached_from c.unit.reached first (past - first)) in omega arith
region_flat c first past (Some plan) low =
    let x = part_is_flat c plan first past (place_of c past) no_loop in omega (arith, x.1)

pub unit_is_flat : UnitIsFlat
unit_is_flat c [] low = omega arith
unit_is_flat c (s ∷ rest) low =
    let x = region_flat c s.first s.past s.plan low.0 in let y = unit_is_flat c rest low.1 in
    let z = followed_depth (section_region c s) (unit_region c rest) in omega arith

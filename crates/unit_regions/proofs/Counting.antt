-- How many dispatch loops a unit has, and how many arms these have.
use Rattle.std.proofs.Common.{◌≡◌, ◌⊎◌, inl, inr, ⊎_elim, ℕ, zero, suc, ◌+◌, ◌-◌, ◌≤◌, ◌==◌, Bool, true, if◌then◌else◌, List, [], ◌∷◌, length, slice_get, Option, Some, None, refl, sym, ap, ◌∙◌, subst, arith}
use Rattle.std.proofs.lemmas.Bool.{and_parts, cond_both}
use Rattle.st_tree.specs.GraphRun.{entry_or}
use Rattle.st_tree.specs.declared.graph.StExit.{StExit}
use Rattle.st_tree.specs.declared.graph.StExit.TheVariants as exit
use Rattle.st_tree.specs.declared.graph.StNode.{StNode}
use Rattle.st_tree.specs.declared.program.Stmt.{Stmt}
use Rattle.nesting_laws.specs.Plans.{Plan, no_loop}
use Rattle.region_laws.specs.Regions.{Place, Region, again, choose, cycle, ended, fork, labels_from, leaves, node, off, quit, selector, table, turn_to}
use Rattle.region_plans.specs.PlanRegion.{Chart, is_out}
use Rattle.region_plans.specs.RegionCounts.{IsSimple, sum_of}
use Rattle.region_plans.proofs.Counting.{part_is_flat}
use Rattle.unit_regions.specs.UnitCharts.{AreInRow, IsWrittenBy}
use Rattle.unit_regions.specs.UnitCounts.{blocks_without, loop_blocks_of, loops_of, loops_sum, one_without, section_sum, sections_sum}
use Rattle.unit_regions.specs.UnitLaws.{ArmsAreFew, LoopsAreFew, UnitLoops}
use Rattle.unit_regions.specs.UnitRegion.{Section, arm_region, falls_off, followed_by, lead_to, node_region, place_of, reached_from, region_by, section_region, unit_region}

-- a sum of nothing
pub none_of : (f : ℕ → ℕ) → ((n : ℕ) → f n ≡ 0) → (labels : List ℕ) → sum_of f labels ≡ 0
none_of f none [] = refl
none_of f none (n ∷ labels) = let e = none n in let h = none_of f none labels in omega arith

module _ (count : List ℕ → ℕ) where
  abbrev Rest : Region → Region → ℕ
  Rest r more = if falls_off r then loops_sum count more else 0

  followed_sum : (r more : Region) → loops_sum count (followed_by r more) ≡ loops_sum count r + Rest r more
  followed_sum off more = omega arith
  followed_sum leaves more = refl
  followed_sum again more = refl
  followed_sum ended more = refl
  followed_sum (node steps rest) more = followed_sum rest more
  followed_sum (fork steps e there behind join rest) more = let h = followed_sum rest more in omega arith
  followed_sum (quit steps e rest) more = followed_sum rest more
  followed_sum (table steps e n arms join rest) more = let h = followed_sum rest more in omega arith
  followed_sum (choose steps e targets nodes arms other join rest) more = let h = followed_sum rest more in omega arith
  followed_sum (cycle body behind rest) more = let h = followed_sum rest more in omega arith
  followed_sum (turn_to j rest) more = followed_sum rest more
  followed_sum (selector labels arms behind rest) more = let h = followed_sum rest more in omega arith

  -- a region with no dispatch loop has none
  simple_none : (r : Region) → IsSimple r → loops_sum count r ≡ 0
  simple_none off h = refl
  simple_none leaves h = refl
  simple_none again h = refl
  simple_none ended h = refl
  simple_none (node steps rest) h = simple_none rest h
  simple_none (fork steps e there behind join rest) h =
      let x = simple_none there h.0 in let y = simple_none behind h.1 in let z = simple_none rest h.2 in omega arith
  simple_none (quit steps e rest) h = simple_none rest h
  simple_none (table steps e n arms join rest) h = elim h [ ]
  simple_none (choose steps e targets nodes arms other join rest) h =
      let x = none_of (λ j. loops_sum count (arms j)) (λ j. simple_none (arms j) (h.0 j)) nodes in
      let y = simple_none other h.1 in let z = simple_none rest h.2 in omega arith
  simple_none (cycle body behind rest) h = let x = simple_none body h.0 in let y = simple_none rest h.1 in omega arith
  simple_none (turn_to j rest) h = elim h [ ]
  simple_none (selector labels arms behind rest) h = elim h [ ]

  lead_none : (past t : ℕ) → loops_sum count (lead_to past t) ≡ 0
  lead_none past t = cond_both (t == past) leaves (turn_to t off) (λ r. loops_sum count r ≡ 0) (λ e. refl) (λ e. refl)

  arm_none : (first past : ℕ) (follow : Place) (i : ℕ) (steps : List Stmt) (x : StExit)
      → loops_sum count (arm_region first past follow i steps x) ≡ 0
  arm_none first past follow i steps exit.Fall = lead_none past (suc i)
  arm_none first past follow i steps (exit.Jump t) = lead_none past t
  arm_none first past follow i steps (exit.Branch e t) = let x = lead_none past t in let y = lead_none past (suc i) in omega arith
  arm_none first past follow i steps (exit.EndIf e) = lead_none past (suc i)
  arm_none first past follow i steps (exit.Table e targets last) =
      let x = none_of (λ n. loops_sum count (lead_to past (entry_or (slice_get targets n) last)))
      (λ n. lead_none past (entry_or (slice_get targets n) last)) (labels_from 0 (length targets)) in
      let y = lead_none past (entry_or (slice_get targets (length targets)) last) in omega arith
  arm_none first past follow i steps exit.End =
      cond_both (is_out follow) leaves ended (λ r. loops_sum count r ≡ 0) (λ e. refl) (λ e. refl)

  node_none : (first past : ℕ) (follow : Place) (i : ℕ) (o : Option StNode) → loops_sum count (node_region first past follow i o) ≡ 0
  node_none first past follow i None = refl
  node_none first past follow i (Some n) = arm_none first past follow i n.steps n.exit

  module _ (c : Chart) where
    region_sum : (first past : ℕ) (plan : Option Plan)
        → loops_sum count (region_by c first past plan) ≡ section_sum count c.unit.reached first past plan
    region_sum first past None =
        let e = none_of (λ i. loops_sum count (node_region first past (place_of c past) i (slice_get c.unit.nodes i)))
        (λ i. node_none first past (place_of c past) i (slice_get c.unit.nodes i)) (reached_from c.unit.reached first (past - first)) in omega arith
    region_sum first past (Some plan) =
        simple_none (region_by c first past (Some plan)) (part_is_flat c plan first past (place_of c past) no_loop).0

    -- behind a segment that does not fall off its end nothing is written
    more_sum : (s : Section) (rest : List Section) → (falls_off (section_region c s) ≡ true) ⊎ (rest ≡ [])
        → loops_sum count (unit_region c rest) ≡ sections_sum count c.unit.reached rest
        → loops_sum count (unit_region c (s ∷ rest)) ≡ sections_sum count c.unit.reached (s ∷ rest)
    more_sum s rest o h =
        let r = region_sum s.first s.past s.plan in let f = followed_sum (section_region c s) (unit_region c rest) in
        let m : Rest (section_region c s) (unit_region c rest) ≡ loops_sum count (unit_region c rest) = behind in omega arith
      where
        behind : Rest (section_region c s) (unit_region c rest) ≡ loops_sum count (unit_region c rest)
        behind = ⊎_elim (λ e. ap (λ (flag : Bool). if flag then loops_sum count (unit_region c rest) else 0) e)
            (λ e. subst (λ rest. Rest (section_region c s) (unit_region c rest) ≡ loops_sum count (unit_region c rest)) (sym e)
            (cond_both (falls_off (section_region c s)) 0 0 (λ n. n ≡ 0) (λ q. refl) (λ q. refl))) o

    sum_from : (b : ℕ) (cuts : List ℕ) (sections : List Section) → AreInRow (IsWrittenBy c) c b cuts sections
        → loops_sum count (unit_region c sections) ≡ sections_sum count c.unit.reached sections
    sum_from b cuts [] are = absurd are
    sum_from b [] (s ∷ rest) (e, f, written, none) =
        more_sum s rest (inr none)
        (subst (λ rest. loops_sum count (unit_region c rest) ≡ sections_sum count c.unit.reached rest) (sym none) refl)
    sum_from b (cut ∷ cuts) (s ∷ rest) (e, f, written, inl (n, none)) =
        more_sum s rest (inr none)
        (subst (λ rest. loops_sum count (unit_region c rest) ≡ sections_sum count c.unit.reached rest) (sym none) refl)
    sum_from b (cut ∷ cuts) (s ∷ rest) (e, f, written, inr (y, are)) =
        more_sum s rest (inl (and_parts (c.unit.reached cut) (falls_off (section_region c s)) y).1) (sum_from cut cuts rest are)

pub unit_loops : UnitLoops
unit_loops count c [] sections are = absurd are
unit_loops count c (cut ∷ cuts) sections are = sum_from count c cut cuts sections are

pub loops_are_few : LoopsAreFew
loops_are_few c cuts sections are = unit_loops (λ labels. 1) c cuts sections are ∙ all sections
  where
    one : (first past : ℕ) (plan : Option Plan) → section_sum (λ labels. 1) c.unit.reached first past plan ≡ one_without plan
    one first past None = refl
    one first past (Some plan) = refl

    all : (sections : List Section) → sections_sum (λ labels. 1) c.unit.reached sections ≡ loops_of sections
    all [] = refl
    all (s ∷ rest) = let e = one s.first s.past s.plan in let h = all rest in omega arith

-- no more blocks are reached than there are
few_reached : (reached : ℕ → Bool) (n first : ℕ) → length (reached_from reached first n) ≤ n
few_reached reached zero first = omega arith
few_reached reached (suc n) first =
    let h = few_reached reached n (suc first) in
    cond_both (reached first) (first ∷ reached_from reached (suc first) n) (reached_from reached (suc first) n) (λ labels. length labels ≤ suc n)
    (λ e. omega arith) (λ e. omega arith)

pub arms_are_few : ArmsAreFew
arms_are_few c cuts sections are =
    let e = unit_loops length c cuts sections are in let l = all sections in omega arith
  where
    one : (first past : ℕ) (plan : Option Plan) → section_sum length c.unit.reached first past plan ≤ blocks_without first past plan
    one first past None = few_reached c.unit.reached (past - first) first
    one first past (Some plan) = omega arith

    all : (sections : List Section) → sections_sum length c.unit.reached sections ≤ loop_blocks_of sections
    all [] = omega arith
    all (s ∷ rest) = let e = one s.first s.past s.plan in let h = all rest in omega arith

-- The text of a unit has what its blocks do exactly once, and nothing of a block that no path reaches.
use Rattle.std.proofs.Common.{◌≡◌, ⊎_elim, ℕ, zero, suc, ◌+◌, ◌-◌, ◌<◌, ◌≤◌, ◌==◌, nat_lt, Bool, true, false, ◌&&◌, if◌then◌else◌, List, [], ◌∷◌, ◌++◌, append_assoc, length, slice_get, Option, Some, None, refl, sym, ap, ◌∙◌, subst, arith}
use Rattle.std.proofs.lemmas.Bool.{cond_both, eq-eqb, eqb-true}
use Rattle.st_tree.specs.GraphRun.{entry_or}
use Rattle.st_tree.specs.declared.graph.StExit.{StExit}
use Rattle.st_tree.specs.declared.graph.StExit.TheVariants as exit
use Rattle.st_tree.specs.declared.graph.StNode.{StNode}
use Rattle.st_tree.specs.declared.program.Stmt.{Stmt}
use Rattle.stl_tree.specs.Segments.{AreCuts, IsReached}
use Rattle.stl_tree.specs.Flows.{IsIn, Segment, blocks_of}
use Rattle.graph_rules.specs.Flow.{flow_of}
use Rattle.nesting_laws.specs.Plans.{Around, IsPlan, Kind, Plan, arm, arms, blocks, cases, done, inside, list_arm, list_arms, loop, next, no_loop, one, skip}
use Rattle.region_laws.specs.Regions.{Place, Region, again, at, choose, cycle, ended, fork, is_among, labels_from, leaves, node, off, quit, selector, table, text_of, turn_to}
use Rattle.region_plans.specs.PlanRegion.{Chart, arm_from, cases_region, end_of, exit_region, fork_region, is_at, is_end, is_last, is_out, later_starts, loop_region, nodes_of, one_region, region_of, rest_from, starts_from, tail_out, tail_to, way_to}
use Rattle.region_plans.specs.RegionCounts.{Weights, before, sum_of, weight}
use Rattle.region_plans.proofs.Counting.{before_more}
use Rattle.region_plans.proofs.ListNodes.{start_is}
use Rattle.text_shapes.specs.Shape.{count_in}
use Rattle.text_shapes.proofs.Counting.{Layer}
use Rattle.unit_regions.specs.MadeCharts.{chart_of, ending_of}
use Rattle.unit_regions.specs.UnitCharts.{AreInRow, AreSections, IsCutUp, IsWrittenBy, segment_of}
use Rattle.unit_regions.specs.UnitRegion.{Section, arm_region, followed_by, lead_to, node_region, place_of, reached_from, region_by, section_region, unit_region}
use Rattle.unit_regions.proofs.Counting.{none_of}
use Rattle.unit_regions.proofs.Cutting.{blocks_are, next_of_more, segments}
use Rattle.unit_regions.proofs.Joining.{unit_fits}
use Rattle.unit_regions.proofs.Made.{chart_is_right}
use Rattle.unit_regions.proofs.Markless.{marks_are_left_out}
use Rattle.shape_laws.specs.EachOnce.{MadeHasEachOnce, reached_sum}
use Rattle.shape_laws.proofs.Shapes.{end_facts}
use Rattle.region_plans.proofs.Counting.{sum_append, sum_where}
use Rattle.shape_laws.proofs.Standing.{each_stands, steps_at}
use Rattle.shape_laws.proofs.Totals.{before_shift}
use Rattle.shape_laws.proofs.Work.{of_work, settings_none, text_counts}

module _ (count : Layer → ℕ) where
  abbrev W : Weights
  W = of_work count

  followed_weight : (r more : Region) → weight W (followed_by r more) ≤ weight W r + weight W more
  followed_weight off more = omega arith
  followed_weight leaves more = omega arith
  followed_weight again more = omega arith
  followed_weight ended more = omega arith
  followed_weight (node steps rest) more = let h = followed_weight rest more in omega arith
  followed_weight (fork steps e there behind join rest) more = let h = followed_weight rest more in omega arith
  followed_weight (quit steps e rest) more = let h = followed_weight rest more in omega arith
  followed_weight (table steps e n bodies join rest) more = let h = followed_weight rest more in omega arith
  followed_weight (choose steps e targets listed bodies other join rest) more = let h = followed_weight rest more in omega arith
  followed_weight (cycle body behind rest) more = let h = followed_weight rest more in omega arith
  followed_weight (turn_to j rest) more = let h = followed_weight rest more in omega arith
  followed_weight (selector labels bodies behind rest) more = let h = followed_weight rest more in omega arith

  -- Dispatch loops

  lead_free : (past t : ℕ) → weight W (lead_to past t) ≡ 0
  lead_free past t = cond_both (t == past) leaves (turn_to t off) (λ r. weight W r ≡ 0) (λ e. refl) (λ e. refl)

  arm_free : (first past : ℕ) (follow : Place) (i : ℕ) (steps : List Stmt) (x : StExit)
      → weight W (arm_region first past follow i steps x) ≤ count_in count steps
  arm_free first past follow i steps exit.Fall = let x = lead_free past (suc i) in omega arith
  arm_free first past follow i steps (exit.Jump t) = let x = lead_free past t in omega arith
  arm_free first past follow i steps (exit.Branch e t) = let x = lead_free past t in let y = lead_free past (suc i) in omega arith
  arm_free first past follow i steps (exit.EndIf e) = let x = lead_free past (suc i) in omega arith
  arm_free first past follow i steps (exit.Table e targets last) =
      let x = none_of (λ n. weight W (lead_to past (entry_or (slice_get targets n) last)))
      (λ n. lead_free past (entry_or (slice_get targets n) last)) (labels_from 0 (length targets)) in
      let y = lead_free past (entry_or (slice_get targets (length targets)) last) in omega arith
  arm_free first past follow i steps exit.End =
      cond_both (is_out follow) leaves ended (λ r. count_in count steps + weight W r ≤ count_in count steps) (λ e. omega arith) (λ e. omega arith)

  node_free : (first past : ℕ) (follow : Place) (i : ℕ) (o : Option StNode) → weight W (node_region first past follow i o) ≤ steps_at W o
  node_free first past follow i None = omega arith
  node_free first past follow i (Some n) = arm_free first past follow i n.steps n.exit

  labels_within : (f h : ℕ → ℕ) (reached : ℕ → Bool) (n first : ℕ) → ((b : ℕ) → reached b ≡ true → f b ≤ h b)
      → sum_of f (reached_from reached first n) + before h first ≤ before h (first + n)
  labels_within f h reached zero first less = subst (λ b. 0 + before h first ≤ before h b) (let e : first ≡ first + zero = omega arith in e) (omega arith)
  labels_within f h reached (suc n) first less =
      let m = labels_within f h reached n (suc first) less in
      let m' : sum_of f (reached_from reached (suc first) n) + before h (suc first) ≤ before h (first + suc n)
      = subst (λ b. sum_of f (reached_from reached (suc first) n) + before h (suc first) ≤ before h b)
      (let e : suc first + n ≡ first + suc n = omega arith in e) m in
      cond_both (reached first) (first ∷ reached_from reached (suc first) n) (reached_from reached (suc first) n)
      (λ labels. sum_of f labels + before h first ≤ before h (first + suc n))
      (λ r. let l = less first r in omega arith) (λ r. omega arith)

  module _ (c : Chart) (free : count_in count c.end_steps ≡ 0) where
    -- what a block does, if it is reached
    abbrev own : ℕ → ℕ
    own b = if c.unit.reached b then steps_at W (slice_get c.unit.nodes b) else 0

    abbrev Own : ℕ → ℕ
    Own = before own

    own_is : (b : ℕ) → c.unit.reached b ≡ true → own b ≡ steps_at W (slice_get c.unit.nodes b)
    own_is b e = ap (λ (t : Bool). if t then steps_at W (slice_get c.unit.nodes b) else 0) e

    -- Blocks

    end_free : (t : ℕ) → weight W (end_of c t) ≡ 0
    end_free t = cond_both (is_end c t) (node c.end_steps ended) off (λ r. weight W r ≡ 0) (λ e. omega (arith, free)) (λ e. refl)

    way_free : (a : Around) (t : ℕ) → weight W (way_to c a t) ≡ 0
    way_free no_loop t = end_free t
    way_free (inside left head last) t =
        cond_both (t == head) again (if left && (t == suc last) then leaves else end_of c t) (λ r. weight W r ≡ 0) (λ e. refl)
        (λ e. cond_both (left && (t == suc last)) leaves (end_of c t) (λ r. weight W r ≡ 0) (λ e. refl) (λ e. end_free t))

    tail_within : (lo hi : ℕ) (follow : Place) (a : Around) (rest : Region) (t : ℕ)
        → weight W (tail_to c lo hi follow a rest t) ≤ weight W rest
    tail_within lo hi follow a rest t =
        cond_both ((t == c.next lo) && nat_lt t hi) rest (if is_at follow t && is_last c lo hi then off else way_to c a t)
        (λ r. weight W r ≤ weight W rest) (λ e. omega arith)
        (λ e. cond_both (is_at follow t && is_last c lo hi) off (way_to c a t) (λ r. weight W r ≤ weight W rest) (λ e. omega arith)
        (λ e. let w = way_free a t in omega arith))

    out_free : (lo hi : ℕ) (follow : Place) → weight W (tail_out c lo hi follow) ≡ 0
    out_free lo hi follow = cond_both (is_out follow && is_last c lo hi) off ended (λ r. weight W r ≡ 0) (λ e. refl) (λ e. refl)

    exit_within : (lo hi : ℕ) (follow : Place) (a : Around) (rest : Region) (steps : List Stmt) (x : StExit)
        → weight W (exit_region c lo hi follow a rest steps x) ≤ count_in count steps + weight W rest
    exit_within lo hi follow a rest steps exit.Fall = let x = tail_within lo hi follow a rest (suc lo) in omega arith
    exit_within lo hi follow a rest steps (exit.Jump t) = let x = tail_within lo hi follow a rest t in omega arith
    exit_within lo hi follow a rest steps (exit.Branch e t) =
        let tail = tail_to c lo hi follow a rest (suc lo) in
        let x : weight W tail ≤ weight W rest = tail_within lo hi follow a rest (suc lo) in
        cond_both (is_at follow t && is_last c lo hi) (fork steps e off tail follow off) (fork steps e (way_to c a t) off (at (suc lo)) tail)
        (λ r. weight W r ≤ count_in count steps + weight W rest) (λ f. omega arith) (λ f. let w = way_free a t in omega arith)
    exit_within lo hi follow a rest steps (exit.EndIf e) = let x = tail_within lo hi follow a rest (suc lo) in omega arith
    exit_within lo hi follow a rest steps (exit.Table e targets last) = omega arith
    exit_within lo hi follow a rest steps exit.End = let x = out_free lo hi follow in omega arith

    one_within : (lo hi : ℕ) (follow : Place) (a : Around) (rest : Region) (o : Option StNode)
        → weight W (one_region c lo hi follow a rest o) ≤ steps_at W o + weight W rest
    one_within lo hi follow a rest None = omega arith
    one_within lo hi follow a rest (Some n) = exit_within lo hi follow a rest n.steps n.exit

    fork_within : (there behind : Region) (join : Place) (rest : Region) (o : Option StNode)
        → weight W (fork_region there behind join rest o) ≤ steps_at W o + weight W there + weight W behind + weight W rest
    fork_within there behind join rest None = omega arith
    fork_within there behind join rest (Some n) = by n.exit
      where
        by : (x : StExit) → weight W (fork_region there behind join rest (Some (record { steps = n.steps; exit = x; only_end = n.only_end })))
            ≤ count_in count n.steps + weight W there + weight W behind + weight W rest
        by (exit.Branch e t) = omega arith
        by x = omega arith

    loop_within : (more : Bool) (body : Region) (l : ℕ) (follow : Place) (rest : Region)
        → weight W (loop_region more body l follow rest) ≤ weight W body + weight W rest
    loop_within true body l follow rest = omega arith
    loop_within false body l follow rest = omega arith

    -- Jump lists

    cases_within : (inner : Plan) (e : ℕ) (by_node : ℕ → Region) (other rest : Region) (o : Option StNode) → weight W (by_node e) ≡ 0
        → weight W (cases_region inner e by_node other rest o)
        ≤ steps_at W o + sum_of (λ j. weight W (by_node j)) (later_starts inner) + weight W other + weight W rest
    cases_within inner e by_node other rest None free = omega arith
    cases_within inner e by_node other rest (Some n) free = by n.exit
      where
        all_nodes : (targets : List ℕ)
            → sum_of (λ j. weight W (by_node j)) (nodes_of inner e targets) ≡ sum_of (λ j. weight W (by_node j)) (later_starts inner)
        all_nodes targets =
            let s = sum_append (λ j. weight W (by_node j)) (later_starts inner) (if is_among e targets then e ∷ [] else []) in
            let l = cond_both (is_among e targets) (e ∷ []) [] (λ xs. sum_of (λ j. weight W (by_node j)) xs ≡ 0) (λ f. omega (arith, free)) (λ f. refl) in
            omega arith

        by : (x : StExit) → weight W (cases_region inner e by_node other rest (Some (record { steps = n.steps; exit = x; only_end = n.only_end })))
            ≤ count_in count n.steps + sum_of (λ j. weight W (by_node j)) (later_starts inner) + weight W other + weight W rest
        by (exit.Table test targets last) = let l = all_nodes targets in omega arith
        by x = omega arith

    from_within : (e hi : ℕ) (place : Place) (a : Around) (rest : Region) → weight W (rest_from c e hi place a rest) ≤ weight W rest
    from_within e hi place a rest =
        cond_both (nat_lt e hi) rest (if is_at place e then off else way_to c a e) (λ r. weight W r ≤ weight W rest) (λ f. omega arith)
        (λ f. cond_both (is_at place e) off (way_to c a e) (λ r. weight W r ≤ weight W rest) (λ f. omega arith)
        (λ f. let w = way_free a e in omega arith))

    -- the arms of a jump list
    abbrev arms_weigh : Plan → ℕ → ℕ → Around → List ℕ → ℕ
    arms_weigh plan lo hi a starts = sum_of (λ j. weight W (arm_from c plan lo hi a j)) starts

    starts_split : (plan : Plan) (lo hi : ℕ) (a : Around)
        → arms_weigh plan lo hi a (starts_from plan lo) ≡ weight W (arm_from c plan lo hi a lo) + arms_weigh plan lo hi a (later_starts plan)
    starts_split (next d inner others) lo hi a = refl
    starts_split done lo hi a = refl
    starts_split (skip rest) lo hi a = refl
    starts_split (one rest) lo hi a = refl
    starts_split (arm t d inner rest) lo hi a = refl
    starts_split (arms t u d inner other rest) lo hi a = refl
    starts_split (loop left l body rest) lo hi a = refl
    starts_split (cases d inner rest) lo hi a = refl

    other_number : (j lo : ℕ) → lo < j → (j == lo) ≡ false
    other_number j lo x = by (j == lo) refl
      where
        by : (t : Bool) → (j == lo) ≡ t → t ≡ false
        by true e = absurd (let same = eqb-true j lo e in omega arith)
        by false e = refl

    -- Parts

    module _ (g : Segment) (right : (b : ℕ) → IsReached (blocks_of g.flow) b → c.unit.reached b ≡ true) where
      own_in : (b : ℕ) → IsIn g b → own b ≡ steps_at W (slice_get c.unit.nodes b)
      own_in b is = own_is b (right b is.reached)

      -- where all arms of a jump list end, none of them begins
      none_behind : (plan : Plan) (turn : Bool) (lo hi follow x : ℕ) (a : Around) → IsPlan g plan turn lo hi follow a (list_arms x)
          → weight W (arm_from c plan lo hi a hi) ≡ 0
      none_behind (next d inner others) turn lo hi follow x a (same, one_is, is, more) =
          let some : lo < d = one_is.some in let within : d ≤ hi = one_is.within in
          ap (λ (t : Bool). weight W (if t then region_of c inner lo d (at hi) a else arm_from c others d hi a hi)) (other_number hi lo (omega arith))
          ∙ none_behind others false d hi follow x a more
      none_behind done turn lo hi follow x a is = refl
      none_behind (skip rest) turn lo hi follow x a is = refl
      none_behind (one rest) turn lo hi follow x a is = refl
      none_behind (arm t d inner rest) turn lo hi follow x a is = refl
      none_behind (arms t u d inner other rest) turn lo hi follow x a is = refl
      none_behind (loop left l body rest) turn lo hi follow x a is = refl
      none_behind (cases d inner rest) turn lo hi follow x a is = refl

      -- the region of a part, and the arms of a jump list
      abbrev IsOnce : Plan → ℕ → ℕ → Around → Place → Type 0
      IsOnce plan lo hi a place =
          (weight W (region_of c plan lo hi place a) + Own lo ≤ Own hi) × (arms_weigh plan lo hi a (starts_from plan lo) + Own lo ≤ Own hi)

      row_once : (n lo hi : ℕ) → n + Own lo ≤ Own hi → (n + Own lo ≤ Own hi) × (0 + Own lo ≤ Own hi)
      row_once n lo hi l = (l, omega arith)

      part_once : (plan : Plan) (paid : Bool) (lo hi follow : ℕ) (a : Around) (k : Kind) (place : Place) → IsPlan g plan paid lo hi follow a k
          → IsOnce plan lo hi a place
      part_once done paid lo hi follow a k place is = row_once 0 lo hi (subst (λ hi. 0 + Own lo ≤ Own hi) is (omega arith))
      part_once (skip rest) paid lo hi follow a k place (x, row, unreached, is) =
          let h = (part_once rest false (suc lo) hi follow a k place is).0 in
          let e : Own (suc lo) ≡ Own lo + own lo = refl in row_once (weight W (region_of c rest (suc lo) hi place a)) lo hi (omega arith)
      part_once (one rest) paid lo hi follow a k place (x, row, here, is) =
          let h = (part_once rest false (suc lo) hi follow a k place is).0 in
          let e : Own (suc lo) ≡ Own lo + own lo = refl in let o = own_in lo here.here in
          let w = one_within lo hi place a (region_of c rest (suc lo) hi place a) (slice_get c.unit.nodes lo) in
          row_once (weight W (region_of c (one rest) lo hi place a)) lo hi (omega arith)
      part_once (arm t d inner rest) paid lo hi follow a k place (x, row, fresh, branch, single, is, more) =
          let h = (part_once inner false (suc lo) d t a k (at t) is).0 in let i = (part_once rest false d hi follow a k place more).0 in
          let e : Own (suc lo) ≡ Own lo + own lo = refl in let o = own_in lo branch.jump.0 in
          let w = fork_within off (region_of c inner (suc lo) d (at t) a) (at t) (region_of c rest d hi place a) (slice_get c.unit.nodes lo) in
          row_once (weight W (region_of c (arm t d inner rest) lo hi place a)) lo hi (omega arith)
      part_once (arms t u d first second rest) paid lo hi follow a k place (x, row, fresh, branch, other, is, is', more) =
          let h = (part_once first false (suc lo) t u a blocks (at u) is).0 in let i = (part_once second false t d u a k (at u) is').0 in
          let j = (part_once rest false d hi follow a k place more).0 in
          let e : Own (suc lo) ≡ Own lo + own lo = refl in let o = own_in lo branch.jump.0 in
          let w = fork_within (region_of c second t d (at u) a) (region_of c first (suc lo) t (at u) a) (at u)
          (region_of c rest d hi place a) (slice_get c.unit.nodes lo) in
          row_once (weight W (region_of c (arms t u d first second rest) lo hi place a)) lo hi (omega arith)
      part_once (loop left l body rest) paid lo hi follow a k place (row, opened, left_is, is, more) =
          let h = (part_once body true lo (suc l) lo (inside left lo l) blocks (at lo) is).0 in
          let i = (part_once rest false (suc l) hi follow a k place more).0 in
          let w = loop_within (left && c.unit.reached (suc l)) (region_of c body lo (suc l) (at lo) (inside left lo l)) l place
          (region_of c rest (suc l) hi place a) in
          row_once (weight W (region_of c (loop left l body rest) lo hi place a)) lo hi (omega arith)
      part_once (cases d inner rest) paid lo hi follow a k place (x, row, fresh, choice, is, more) =
          let h = (part_once inner false (suc lo) d d a (list_arms lo) (at d) is).1 in
          let i = (part_once rest false d hi follow a k place more).0 in
          let e : Own (suc lo) ≡ Own lo + own lo = refl in let o = own_in lo choice.list.2.0 in
          let s = starts_split inner (suc lo) d a in
          let f = from_within d hi place a (region_of c rest d hi place a) in
          let w = cases_within inner d (arm_from c inner (suc lo) d a) (arm_from c inner (suc lo) d a (suc lo))
          (rest_from c d hi place a (region_of c rest d hi place a)) (slice_get c.unit.nodes lo) (none_behind inner false (suc lo) d d lo a is) in
          row_once (weight W (region_of c (cases d inner rest) lo hi place a)) lo hi (omega arith)
      part_once (next d inner others) paid lo hi follow a blocks place is = absurd is
      part_once (next d inner others) paid lo hi follow a list_arm place is = absurd is
      part_once (next d inner others) paid lo hi follow a (list_arms x) place (same, one_is, is, more) =
          let h = (part_once inner false lo d follow a list_arm (at hi) is).0 in
          let i = (part_once others false d hi follow a (list_arms x) place more).1 in
          let some : lo < d = one_is.some in
          let first : weight W (arm_from c (next d inner others) lo hi a lo) ≡ weight W (region_of c inner lo d (at hi) a)
          = ap (λ (t : Bool). weight W (if t then region_of c inner lo d (at hi) a else arm_from c others d hi a lo)) (eq-eqb lo lo refl) in
          let more_is = subst (λ follow. IsPlan g others false d hi follow a (list_arms x)) same more in
          let further = sum_where (λ j. weight W (arm_from c (next d inner others) lo hi a j)) (λ j. weight W (arm_from c others d hi a j))
          (starts_from others d)
          (λ j f.
          let low : d ≤ j = (start_is g x hi a others false d more_is j f).low in
          ap (λ (t : Bool). weight W (if t then region_of c inner lo d (at hi) a else arm_from c others d hi a j)) (other_number j lo (omega arith))) in
          (omega arith, omega arith)

    -- Segments

    module _ (all : List ℕ) (ok : IsCutUp c.unit.nodes c.unit.reached all) where
      region_once : (first past : ℕ) (plan : Option Plan) → first < past → IsWrittenBy c first past plan
          → weight W (region_by c first past plan) + Own first ≤ Own past
      region_once first past None some written =
          let f : ℕ → ℕ = λ i. weight W (node_region first past (place_of c past) i (slice_get c.unit.nodes i)) in
          let m = labels_within f own c.unit.reached (past - first) first
          (λ b r. let e = own_is b r in let l = node_free first past (place_of c past) b (slice_get c.unit.nodes b) in omega arith) in
          let e : first + (past - first) ≡ past = omega arith in
          let m' : sum_of f (reached_from c.unit.reached first (past - first)) + Own first ≤ Own past
          = subst (λ b. sum_of f (reached_from c.unit.reached first (past - first)) + Own first ≤ Own b) e m in omega arith
      region_once first past (Some plan) some written =
          (part_once (segment_of c first past) (λ b r. (ok.reaches b).1 r) plan false first past past no_loop blocks (place_of c past) written.1).0

      once_from : (old : List ℕ) (b : ℕ) (cuts : List ℕ) (sections : List Section) → AreCuts (blocks_of (flow_of c.unit.nodes)) (old ++ b ∷ cuts)
          → AreInRow (IsWrittenBy c) c b cuts sections → weight W (unit_region c sections) + Own b ≤ Own (length c.unit.nodes)
      once_from old b cuts [] points are = absurd are
      once_from old b [] (s ∷ rest) points (e, f, written, none) =
          let is = segments c old b [] points in
          let some : s.first < s.past = subst (λ past. s.first < past) (sym f) (subst (λ b. b < length c.unit.nodes) (sym e) is.some) in
          let l = region_once s.first s.past s.plan some written in
          let l' : weight W (section_region c s) + Own b ≤ Own (length c.unit.nodes)
          = subst (λ past. weight W (section_region c s) + Own b ≤ Own past) f
          (subst (λ b. weight W (section_region c s) + Own b ≤ Own s.past) e l) in
          let m = followed_weight (section_region c s) (unit_region c rest) in
          let n : weight W (unit_region c rest) ≡ 0 = subst (λ rest. weight W (unit_region c rest) ≡ 0) (sym none) refl in omega arith
      once_from old b (cut ∷ cuts) (s ∷ rest) points (e, f, written, more) =
          let is = segments c old b (cut ∷ cuts) points in
          let some : s.first < s.past = subst (λ past. s.first < past) (sym f) (subst (λ b. b < cut) (sym e) is.some) in
          let l = region_once s.first s.past s.plan some written in
          let l' : weight W (section_region c s) + Own b ≤ Own cut
          = subst (λ past. weight W (section_region c s) + Own b ≤ Own past) f
          (subst (λ b. weight W (section_region c s) + Own b ≤ Own s.past) e l) in
          let m = followed_weight (section_region c s) (unit_region c rest) in
          let high : Own cut ≤ Own (length c.unit.nodes) = before_more own cut (length c.unit.nodes)
          (let x : cut < length (blocks_of (flow_of c.unit.nodes)) = (points.each cut (next_of_more old b cut cuts)).there in omega (arith, blocks_are c)) in
          let k : weight W (unit_region c rest) + Own cut ≤ Own (length c.unit.nodes)
          = ⊎_elim
          (λ (n, none). subst (λ rest. weight W (unit_region c rest) + Own cut ≤ Own (length c.unit.nodes)) (sym none) (omega arith))
          (λ (y, are). once_from (old ++ b ∷ []) cut cuts rest
          (subst (λ cuts. AreCuts (blocks_of (flow_of c.unit.nodes)) cuts) (sym (append_assoc old (b ∷ []) (cut ∷ cuts))) points) are) more in
          omega arith

    unit_once : (cuts : List ℕ) (sections : List Section) → IsCutUp c.unit.nodes c.unit.reached cuts → AreSections c cuts sections
        → weight W (unit_region c sections) ≤ Own (length c.unit.nodes)
    unit_once [] sections ok are = absurd are
    unit_once (cut ∷ cuts) sections ok are = let l = once_from (cut ∷ cuts) ok [] cut cuts sections ok.points are in omega arith

  -- Sums

  sum_is : (reached : ℕ → Bool) (nodes : List StNode)
      → before (λ b. if reached b then steps_at W (slice_get nodes b) else 0) (length nodes)
      ≡ reached_sum reached (λ (n : StNode). count_in count n.steps) nodes
  sum_is reached [] = refl
  sum_is reached (n ∷ rest) =
      before_shift (λ b. if reached b then steps_at W (slice_get (n ∷ rest) b) else 0) (length rest)
      ∙ ap (λ (k : ℕ). (if reached 0 then count_in count n.steps else 0) + k) (sum_is (λ b. reached (suc b)) rest)

pub made_has_each_once : MadeHasEachOnce
made_has_each_once nodes number body loops plain made =
    let c = chart_of nodes made.reached made.lasts made.sections in
    let e : text_of number (unit_region c made.sections) ≡ body
    = ap (text_of number) (marks_are_left_out nodes made.reached made.lasts made.sections made.sections) ∙ sym made.body in
    record {
      reached = made.reached;
      reaches = made.found.whole.reaches;
      once = λ count ok.
          let free : count_in count (ending_of nodes) ≡ 0 = settings_none count ok (ending_of nodes) (end_facts nodes plain).0 in
          let each = (chart_is_right nodes made.reached made.lasts made.cuts made.sections plain made.found made.planned).each in
          let l = unit_once count c free made.cuts made.sections made.found.whole each in
          let m = each_stands (of_work count) c.unit (unit_region c made.sections) made.reached
          (unit_fits c made.cuts made.sections made.found.whole each) (λ b. (made.found.whole.reaches b).0) in
          let t = text_counts count ok number (unit_region c made.sections) in
          let s = sum_is count made.reached nodes in
          subst (λ (text : List Stmt). count_in count text ≡ reached_sum made.reached (λ (n : StNode). count_in count n.steps) nodes) e (omega arith);
    }

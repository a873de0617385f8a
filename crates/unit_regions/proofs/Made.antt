-- The chart that is made of a plain unit is right.
use Rattle.std.proofs.Common.{◌≡◌, inl, inr, ⊎_elim, ℕ, suc, ◌+◌, ◌-◌, ◌<◌, ◌≤◌, Bool, true, ◌&&◌, List, [], ◌∷◌, length, slice_get, Option, Some, None, refl, sym, ap, ◌∙◌, subst, arith}
use Rattle.std.specs.Option.{option_map}
use Rattle.std.proofs.lemmas.Bool.{cases_lt}
use Rattle.std.proofs.lemmas.Option.{same_Some, slice_get-map}
use Rattle.st_tree.specs.declared.graph.StNode.{StNode}
use Rattle.st_tree.specs.declared.program.Stmt.{Stmt}
use Rattle.stl_tree.specs.Blocks.{stops}
use Rattle.stl_tree.specs.Segments.{IsCut, IsOneOf, JumpsTo, Ways}
use Rattle.stl_tree.specs.Flows.{IsEndBlock, IsSegment, blocks_of, ways_by}
use Rattle.graph_rules.specs.Flow.{flow_of, way_by}
use Rattle.graph_rules.specs.Plain.{AreSettings, IsOnlyEnd}
use Rattle.nesting_laws.specs.Plans.{LeadsTo, Plan}
use Rattle.nesting_laws.specs.Splitting.{MaySplit}
use Rattle.region_laws.specs.Regions.{unmarked}
use Rattle.region_plans.specs.Charts.{IsCharted, IsEnd, IsNext}
use Rattle.region_plans.specs.PlanRegion.{Chart}
use Rattle.unit_regions.specs.MadeCharts.{ArePlain, ArePlanned, IsFound, IsLastBack, IsPlannedBy, chart_of, ending_of, first_from, head_mark, loop_around, loop_number}
use Rattle.unit_regions.specs.MadeLaws.{ChartIsRight}
use Rattle.unit_regions.specs.UnitCharts.{blocks_between, AreInRow, IsWrittenBy, goes_on, segment_of}
use Rattle.unit_regions.specs.UnitRegion.{Section, falls_off}
use Rattle.unit_regions.proofs.Charting.{any_only, is_dispatched, ending_is, ending_there, is_headed, holds, loop_is, mark_none, are_marked, next_is, past_within, well_nested_end}
use Rattle.unit_regions.proofs.Cutting.{count_is, stay}
use Rattle.unit_regions.proofs.Flowing.{has_entries, is_flow}
use Rattle.unit_regions.proofs.Markless.{made_section_same}
use Rattle.unit_regions.proofs.Rows.{IsAmong, sound}

module _ (nodes : List StNode) (reached : ℕ → Bool) (lasts : ℕ → Option ℕ) (cut : ℕ) (cuts : List ℕ) (sections : List Section)
    (plain : ArePlain nodes) (found : IsFound nodes reached lasts (cut ∷ cuts)) (row : ArePlanned nodes reached lasts (cut ∷ cuts) sections) where
  abbrev C : Chart
  C = chart_of nodes reached lasts sections

  abbrev Blocks : List Ways
  Blocks = blocks_of (flow_of nodes)

  nexts : (b : ℕ) → b < length nodes → IsNext C b
  nexts b x =
      let (y, bare, o) = next_is reached (length nodes - suc b) (suc b) in
      record {
        ahead = y;
        bare = λ q z w. bare q z w;
        found = ⊎_elim (λ (r : reached (first_from reached (suc b) (length nodes - suc b)) ≡ true). inl r)
            (λ (e : first_from reached (suc b) (length nodes - suc b) ≡ suc b + (length nodes - suc b)).
            inr (let f : first_from reached (suc b) (length nodes - suc b) ≡ length nodes = omega arith in f)) o;
      }

  -- the end steps
  end_facts : AreSettings (ending_of nodes) × (length (ending_of nodes) ≤ 4)
  end_facts = ⊎_elim
      (λ (e : ending_of nodes ≡ []). subst (λ (steps : List Stmt). AreSettings steps × (length steps ≤ 4)) (sym e) (tt, omega arith))
      (λ (k, n, there, only, e).
      let is = (plain k n there).only_end only in
      subst (λ (steps : List Stmt). AreSettings steps × (length steps ≤ 4)) (sym e) (is.settings, is.few))
      (ending_is nodes)

  -- The block of the end word alone

  module _ (t : ℕ) (n : StNode) (there : slice_get nodes t ≡ Some n) (is : IsOnlyEnd (length nodes) t n) where
    way_there : slice_get (flow_of nodes).ways t ≡ Some stops
    way_there =
        slice_get-map (λ (n : StNode). way_by n.exit) nodes t ∙ ap (option_map (λ (n : StNode). way_by n.exit)) there
        ∙ ap (λ x. Some (way_by x)) is.exit

    no_jump : (h : ℕ) → JumpsTo Blocks t h → ⊥
    no_jump h (ways, e, o) =
        let same : ways ≡ ways_by stops = same_Some ways (ways_by stops)
        (sym e ∙ (slice_get-map ways_by (flow_of nodes).ways t ∙ ap (option_map ways_by) way_there)) in
        subst (λ (w : Ways). IsOneOf h w.jumps) same o

    -- it heads no loop
    no_head : (o : Option ℕ) → IsLastBack Blocks t o → head_mark o ≡ unmarked
    no_head None back = refl
    no_head (Some l) (r, j, x, top) =
        let y = found.whole.there l ((found.whole.reaches l).1 r) in let z : suc t ≡ length nodes = is.last in
        let e : l ≡ t = omega arith in absurd (no_jump t (subst (λ l. JumpsTo Blocks l t) e j))

    -- where a segment with a plan leads to it, it stands in no dispatch loop, since alone it is well nested
    alone : (s : Section) → IsAmong s sections → (q : Section) → IsAmong q sections → q.plan ≡ None → (b : ℕ)
        → LeadsTo (segment_of C s.first s.past) b t → ((i : ℕ) → s.first ≤ i → i < s.past → loop_around sections i ≡ None)
        → q.first ≤ t → t < q.past → ⊥
    alone s among q among' none b lead outside x y =
        let own = holds nodes reached lasts cut cuts sections plain found row s among in
        let (low, high) = stay C (cut ∷ cuts) found.whole s.first s.past own.0 b t lead in
        ⊎_elim
        (λ z. let own = loop_is nodes reached lasts cut cuts sections plain found row q among' t x y in
        let e : None ≡ Some q.first = sym (outside t low z) ∙ (own ∙ ap (loop_number q.first) none) in cc)
        (λ z. let e : s.past ≡ t = omega arith in at_end e own.0) (cases_lt t s.past)
      where
        at_end : s.past ≡ t → IsSegment (blocks_between nodes s.first s.past) → ⊥
        at_end e own =
            let (is', holds', more) = holds nodes reached lasts cut cuts sections plain found row q among' in
            let m = count_is C in let last : suc t ≡ length nodes = is.last in
            let top = past_within nodes reached lasts cut cuts sections plain found row q.first q.past is' in
            let here : IsCut Blocks t = ⊎_elim (λ f. absurd (omega arith)) (λ p. subst (λ b. IsCut Blocks b) e p) own.ends in
            let f : q.first ≡ t = ⊎_elim (λ z. absurd (is'.inside t z y here)) (λ z. let f : q.first ≡ t = omega arith in f) (cases_lt q.first t) in
            let g : q.past ≡ suc t = omega arith in
            let nested = well_nested_end nodes t way_there in
            let single : MaySplit (blocks_between nodes t (suc t)) = (nested.by_paths, inl nested.closed) in
            subst (λ (plan : Option Plan). IsPlannedBy nodes q.first q.past plan) none holds'
            (subst (λ past. MaySplit (blocks_between nodes q.first past)) (sym g)
            (subst (λ b. MaySplit (blocks_between nodes b (suc t))) (sym f) single))

    is_end : (s : Section) → IsAmong s sections → (b : ℕ) → LeadsTo (segment_of C s.first s.past) b t
        → ((i : ℕ) → s.first ≤ i → i < s.past → loop_around sections i ≡ None) → n.only_end ≡ true → IsEnd C t
    is_end s among b lead outside only =
        record {
          node = n;
          there = there;
          steps = sym (ending_there nodes t n there is.last only);
          exit = is.exit;
          free = by (loop_around sections t) refl;
        }
      where
        by : (o : Option ℕ) → loop_around sections t ≡ o → C.unit.marks t ≡ unmarked
        by None e =
            mark_none nodes reached lasts cut cuts sections plain found row t e
            ∙ no_head (lasts t) (found.backs t (let last : suc t ≡ length nodes = is.last in omega arith))
        by (Some k) e = let (q, among', number, none, low, high) = sound sections t k e in absurd (alone s among q among' none b lead outside low high)

  -- Segments

  ends_at : (s : Section) → IsAmong s sections → ((i : ℕ) → s.first ≤ i → i < s.past → loop_around sections i ≡ None) → (b t : ℕ)
      → LeadsTo (segment_of C s.first s.past) b t → IsEndBlock (flow_of nodes) t → IsEnd C t
  ends_at s among outside b t lead end =
      let (k, n, there, only) = any_only nodes end.0 in let is = (plain k n there).only_end only in
      let m = count_is C in let last : suc k ≡ length nodes = is.last in let last' = end.1 in let e : k ≡ t = omega arith in
      is_end t n (subst (λ k. slice_get nodes k ≡ Some n) e there) (subst (λ k. IsOnlyEnd (length nodes) k n) e is) s among b lead outside only

  is_charted : (s : Section) → IsAmong s sections → (plan : Plan) → s.plan ≡ Some plan → IsCharted C (segment_of C s.first s.past)
  is_charted s among plan e =
      let is = (holds nodes reached lasts cut cuts sections plain found row s among).0 in
      let outside : (i : ℕ) → s.first ≤ i → i < s.past → loop_around sections i ≡ None
      = λ i x y. loop_is nodes reached lasts cut cuts sections plain found row s among i x y ∙ ap (loop_number s.first) e in
      record {
        flow = refl;
        within = past_within nodes reached lasts cut cuts sections plain found row s.first s.past is;
        reached = found.whole.reaches;
        there = found.whole.there;
        lists = λ b targets label e. (has_entries nodes plain b targets label e, (is_flow nodes plain).labels b targets label e);
        nexts = nexts;
        heads = λ h x y. is_headed nodes reached lasts cut cuts sections plain found row s.first s.past is h x y (outside h x y);
        ends = ends_at s among outside;
        settings = end_facts.0;
        few = end_facts.1;
      }

  is_written : (s : Section) → IsAmong s sections → IsWrittenBy C s.first s.past s.plan
  is_written s among = by s.plan refl (holds nodes reached lasts cut cuts sections plain found row s among).1
    where
      by : (o : Option Plan) → s.plan ≡ o → IsPlannedBy nodes s.first s.past o → IsWrittenBy C s.first s.past o
      by None e is = is_dispatched nodes reached lasts cut cuts sections plain found row s among e
      by (Some plan) e is = (is_charted s among plan e, is.1)

  abbrev Bare : Chart
  Bare = chart_of nodes reached lasts []

  goes_same : (s : Section) (b : ℕ) → goes_on C s b ≡ goes_on Bare s b
  goes_same s b = ap (λ r. reached b && falls_off r) (made_section_same nodes reached lasts sections s)

  rows : (b : ℕ) (later : List ℕ) (some : List Section) → AreInRow (IsPlannedBy nodes) Bare b later some
      → ((s : Section) → IsAmong s some → IsWrittenBy C s.first s.past s.plan) → AreInRow (IsWrittenBy C) C b later some
  rows b later [] are w = absurd are
  rows b [] (s ∷ rest) (e, f, own, none) w = (e, f, w s (inl refl), none)
  rows b (next ∷ later) (s ∷ rest) (e, f, own, inl (n, none)) w = (e, f, w s (inl refl), inl (goes_same s next ∙ n, none))
  rows b (next ∷ later) (s ∷ rest) (e, f, own, inr (y, are)) w =
      (e, f, w s (inl refl), inr (goes_same s next ∙ y, rows next later rest are (λ s among. w s (inr among))))

pub chart_is_right : ChartIsRight
chart_is_right nodes reached lasts [] sections plain found row = absurd row
chart_is_right nodes reached lasts (cut ∷ cuts) sections plain found row =
    record {
      each = rows nodes reached lasts cut cuts sections plain found row cut cuts sections row
          (is_written nodes reached lasts cut cuts sections plain found row);
      marks = are_marked nodes reached lasts cut cuts sections plain found row;
    }

-- The chart that is made of a plain unit is right.
use Rattle.std.proofs.Common.{◌≡◌, ◌⊎◌, inl, inr, ⊎_elim, ℕ, zero, suc, ◌+◌, ◌<◌, ◌≤◌, Bool, true, false, if◌then◌else◌, List, [], ◌∷◌, length, slice_get, Option, Some, None, refl, sym, ap, ◌∙◌, subst, arith}
use Rattle.std.specs.List.{list_any}
use Rattle.std.specs.Option.{option_map}
use Rattle.std.proofs.lemmas.Bool.{cases_eq, cases_lt, cond_both, or_cases}
use Rattle.std.proofs.lemmas.Option.{same_Some, slice_get-map}
use Rattle.st_tree.specs.declared.graph.StNode.{StNode}
use Rattle.stl_tree.specs.Blocks.{Way, stops}
use Rattle.stl_tree.specs.Segments.{IsOneOf, IsReached, JumpsTo, Ways}
use Rattle.stl_tree.specs.Flows.{GoesOn, IsJump, IsList, IsSegment, Segment, blocks_of, jumps_of, ways_by}
use Rattle.stl_tree.specs.WellNested.{IsShallow, IsWellNested}
use Rattle.graph_rules.specs.Flow.{flow_of, way_by}
use Rattle.region_laws.specs.Regions.{Mark, arm_of}
use Rattle.region_plans.specs.Charts.{IsHeaded}
use Rattle.region_plans.specs.PlanRegion.{Chart}
use Rattle.unit_regions.specs.MadeCharts.{ArePlain, ArePlanned, IsFound, IsLastBack, IsPlannedBy, arm_mark, chart_of, ending_of, first_from, head_mark, loop_around, loop_number, mark_by}
use Rattle.unit_regions.specs.UnitCharts.{blocks_between, IsDispatched, IsMarked}
use Rattle.unit_regions.specs.UnitRegion.{Section}
use Rattle.unit_regions.proofs.Cutting.{blocks_are, count_is, node_goes}
use Rattle.unit_regions.proofs.Dispatch.{node_there}
use Rattle.unit_regions.proofs.Rows.{IsAmong, each, lookup, same_first, same_past, sound}

-- The next block that is reached

pub next_is : (reached : ℕ → Bool) (n b : ℕ) → (b ≤ first_from reached b n)
    × ((q : ℕ) → b ≤ q → q < first_from reached b n → reached q ≡ false)
    × ((reached (first_from reached b n) ≡ true) ⊎ (first_from reached b n ≡ b + n))
next_is reached zero b = (omega arith, (λ q x y. absurd (omega arith)), inr (omega arith))
next_is reached (suc n) b =
    let (x, bare, o) = next_is reached n (suc b) in
    cond_both (reached b) b (first_from reached (suc b) n)
    (λ v. (b ≤ v) × ((q : ℕ) → b ≤ q → q < v → reached q ≡ false) × ((reached v ≡ true) ⊎ (v ≡ b + suc n)))
    (λ r. (omega arith, (λ q y z. absurd (omega arith)), inl r))
    (λ r. (
      omega arith,
      (λ q y z. ⊎_elim (λ e. subst (λ q. reached q ≡ false) e r)
          (λ other. bare q (⊎_elim (λ w. w) (λ w. absurd (other (omega arith))) (cases_lt b q)) z) (cases_eq b q)),
      ⊎_elim (λ (r : reached (first_from reached (suc b) n) ≡ true). inl r)
          (λ (e : first_from reached (suc b) n ≡ suc b + n). inr (let f : first_from reached (suc b) n ≡ b + suc n = omega arith in f)) o,
    ))

-- The block of the end word alone

pub any_only : (nodes : List StNode) → list_any (λ (n : StNode). n.only_end) nodes ≡ true
    → (k : ℕ) × (n : StNode) × (slice_get nodes k ≡ Some n) × (n.only_end ≡ true)
any_only [] e = absurd cc
any_only (n ∷ nodes) e =
    ⊎_elim (λ f. (0, n, refl, f)) (λ f. let (k, m, there, only) = any_only nodes f in (suc k, m, there, only))
    (or_cases n.only_end (list_any (λ (n : StNode). n.only_end) nodes) e)

pub ending_is : (nodes : List StNode)
    → (ending_of nodes ≡ []) ⊎ ((k : ℕ) × (n : StNode) × (slice_get nodes k ≡ Some n) × (n.only_end ≡ true) × (ending_of nodes ≡ n.steps))
ending_is [] = inl refl
ending_is (n ∷ []) = cond_both n.only_end n.steps []
    (λ v. (v ≡ []) ⊎ ((k : ℕ) × (m : StNode) × (slice_get (n ∷ []) k ≡ Some m) × (m.only_end ≡ true) × (v ≡ m.steps)))
    (λ e. inr (0, n, refl, e, refl)) (λ e. inl refl)
ending_is (n ∷ m ∷ rest) =
    ⊎_elim (λ (e : ending_of (m ∷ rest) ≡ []). inl e) (λ (k, x, there, only, e). inr (suc k, x, there, only, e)) (ending_is (m ∷ rest))

pub ending_there : (nodes : List StNode) (t : ℕ) (n : StNode) → slice_get nodes t ≡ Some n → suc t ≡ length nodes → n.only_end ≡ true
    → ending_of nodes ≡ n.steps
ending_there [] t n e l only = absurd cc
ending_there (x ∷ []) zero n e l only =
    let same : x ≡ n = same_Some x n e in
    subst (λ x. ending_of (x ∷ []) ≡ n.steps) (sym same) (ap (λ (flag : Bool). if flag then n.steps else []) only)
ending_there (x ∷ []) (suc t) n e l only = absurd (omega arith)
ending_there (x ∷ y ∷ rest) zero n e l only = absurd (omega arith)
ending_there (x ∷ y ∷ rest) (suc t) n e l only = ending_there (y ∷ rest) t n e (omega arith) only

-- a block that ends its unit is a segment that is well nested
module _ (nodes : List StNode) (first : ℕ) (last : slice_get (flow_of nodes).ways first ≡ Some stops) where
  abbrev G : Segment
  G = blocks_between nodes first (suc first)

  way_is : (b : ℕ) (way : Way) → GoesOn G b way → stops ≡ way
  way_is b way goes =
      let x : first ≤ b = goes.0.low in let y : b < suc first = goes.0.high in let e : b ≡ first = omega arith in
      same_Some stops way (sym last ∙ subst (λ b. slice_get (flow_of nodes).ways b ≡ Some way) e goes.1)

  no_jump : (s t : ℕ) → IsJump G s t → ⊥
  no_jump s t (way, goes, o) = subst (λ way. IsOneOf t (jumps_of way)) (sym (way_is s way goes)) o

  no_list : (b : ℕ) → IsList G b → ⊥
  no_list b (targets, label, goes) = let e = way_is b _ goes in absurd cc

  shallow : IsShallow G
  shallow b [] [] ascends heads ascends' sources = omega arith
  shallow b [] (s ∷ sources) ascends heads ascends' over =
      let (t, span, x, y) = over.0 in
      ⊎_elim (λ plain. absurd (no_jump s t plain.jump)) (λ ends. absurd (no_list s ends.list)) span
  shallow b (h ∷ heads) sources ascends around ascends' over = let (l, is) = around.0 in absurd (no_jump l h is.loop.back)

  pub well_nested_end : IsWellNested G
  well_nested_end =
      record {
        by_paths = record {
          loops = λ h l k m is is'. absurd (no_jump l h is.back);
          entries = λ s t h l jump is. absurd (no_jump s t jump);
          exits = λ s t h l jump is. absurd (no_jump s t jump);
          crossings = λ s1 t1 c1 s2 t2 c2 plain counts plain' counts' x y z. absurd (no_jump s1 t1 plain.jump);
          cases = λ x list. absurd (no_list x list);
          shallow = shallow;
        };
        closed = λ x e b u t way ends target target' y next there. absurd (no_list x ends.list);
      }

-- Marks

mark_arm : (o : Option ℕ) (r : Bool) (last : Option ℕ) (k : ℕ) → mark_by o r last ≡ arm_of k → (o ≡ Some k) × (r ≡ true)
mark_arm None r None k e = absurd cc
mark_arm None r (Some l) k e = absurd cc
mark_arm (Some j) true last k e = (ap Some (number_is j k e), refl)
  where
    number_of : Mark → ℕ
    number_of (arm_of j) = j
    number_of other = zero

    number_is : (j k : ℕ) → arm_of j ≡ arm_of k → j ≡ k
    number_is j k e = ap number_of e
mark_arm (Some j) false last k e = absurd cc

module _ (nodes : List StNode) (reached : ℕ → Bool) (lasts : ℕ → Option ℕ) (cut : ℕ) (cuts : List ℕ) (sections : List Section)
    (plain : ArePlain nodes) (found : IsFound nodes reached lasts (cut ∷ cuts)) (row : ArePlanned nodes reached lasts (cut ∷ cuts) sections) where
  abbrev C : Chart
  C = chart_of nodes reached lasts sections

  abbrev Blocks : List Ways
  Blocks = blocks_of (flow_of nodes)

  abbrev pub Holds : Section → Type 0
  Holds s = IsSegment (blocks_between nodes s.first s.past) × IsPlannedBy nodes s.first s.past s.plan × (cut ≤ s.first)

  pub holds : (s : Section) → IsAmong s sections → Holds s
  holds s among = each (IsPlannedBy nodes) (chart_of nodes reached lasts []) [] cut cuts sections found.whole.points row s among

  pub loop_is : (s : Section) → IsAmong s sections → (i : ℕ) → s.first ≤ i → i < s.past → loop_around sections i ≡ loop_number s.first s.plan
  loop_is s among i x y = lookup (IsPlannedBy nodes) (chart_of nodes reached lasts []) [] cut cuts sections found.whole.points row s among i x y

  pub mark_none : (h : ℕ) → loop_around sections h ≡ None → C.unit.marks h ≡ head_mark (lasts h)
  mark_none h e = ap (λ (o : Option ℕ). mark_by o (reached h) (lasts h)) e

  pub past_within : (first past : ℕ) → IsSegment (blocks_between nodes first past) → past ≤ length nodes
  past_within first past is =
      let n = count_is C in let m = blocks_are C in ⊎_elim (λ e. omega arith) (λ p. let x = p.there in omega arith) is.ends

  -- Heads of loops

  module _ (first past : ℕ) (is : IsSegment (blocks_between nodes first past)) where
    abbrev Part : Segment
    Part = blocks_between nodes first past

    jumps_so : (s t : ℕ) → IsJump Part s t → JumpsTo Blocks s t
    jumps_so s t (way, goes, o) = (ways_by way, slice_get-map ways_by (flow_of nodes).ways s ∙ ap (option_map ways_by) goes.1, o)

    reached_so : (s t : ℕ) → IsJump Part s t → IsReached Blocks s
    reached_so s t (way, goes, o) = goes.0.reached

    jump_of : (l h : ℕ) → IsReached Blocks l → JumpsTo Blocks l h → first ≤ l → l < past → IsJump Part l h
    jump_of l h r (ways, e, o) x y =
        let flag = (found.whole.reaches l).1 r in let (n, there) = node_there nodes l (found.whole.there l flag) in
        let goes : GoesOn Part l (way_by n.exit) = node_goes C (cut ∷ cuts) found.whole first past l n x y flag there in
        let same : ways ≡ ways_by (way_by n.exit) = same_Some ways (ways_by (way_by n.exit))
        (sym e ∙ (slice_get-map ways_by (flow_of nodes).ways l ∙ ap (option_map ways_by) goes.1)) in
        (way_by n.exit, goes, subst (λ (w : Ways). IsOneOf h w.jumps) same o)

    before_past : (l h : ℕ) → IsReached Blocks l → JumpsTo Blocks l h → h < past → l < past
    before_past l h r j x = ⊎_elim (λ z. z)
        (λ z. absurd (⊎_elim
        (λ e. let n = count_is C in let w = found.whole.there l ((found.whole.reaches l).1 r) in omega arith) (λ p. p.free l h r j (inr (x, z))) is.ends))
        (cases_lt l past)

    pub is_headed : (h : ℕ) → first ≤ h → h < past → loop_around sections h ≡ None → IsHeaded C Part h
    is_headed h x y none = by (lasts h) refl (found.backs h (let l = past_within first past is in omega arith))
      where
        by : (o : Option ℕ) → lasts h ≡ o → IsLastBack Blocks h o → IsHeaded C Part h
        by None e back =
            inr (
              (λ l lp. let z : l < h = back l (reached_so l h lp.back) (jumps_so l h lp.back) in let w : h ≤ l = lp.ordered in omega arith),
              mark_none h none ∙ ap head_mark e,
            )
        by (Some l) e (r, j, z, top) =
            inl (
              l,
              record {
                back = jump_of l h r j (omega arith) (before_past l h r j y);
                ordered = z;
                greatest = λ s jump. top s (reached_so s h jump) (jumps_so s h jump);
              },
              mark_none h none ∙ ap head_mark e,
            )

  -- Dispatch loops

  pub is_dispatched : (s : Section) → IsAmong s sections → s.plan ≡ None → IsDispatched C s.first s.past
  is_dispatched s among none =
      record {
        arm = λ b x y r. ap (λ (o : Option ℕ). mark_by o (reached b) (lasts b)) (loop_is s among b x y ∙ ap (loop_number s.first) none)
            ∙ ap (arm_mark s.first) r;
        only = λ b e.
            let m = mark_arm (loop_around sections b) (reached b) (lasts b) s.first e in
            let (q, among', number, none', low, high) = sound sections b s.first m.0 in
            let is = (holds s among).0 in let is' = (holds q among').0 in let some : s.first < s.past = is.some in let some' : q.first < q.past = is'.some in
            let e = same_past C s.first s.past q.first q.past s.first is is' (omega arith) some (omega arith) (omega arith) in
            (omega arith, omega arith, m.1);
      }

  pub are_marked : (first past : ℕ) → IsSegment (blocks_between nodes first past) → IsMarked C (blocks_between nodes first past)
  are_marked first past is = by (loop_around sections first) refl
    where
      by : (o : Option ℕ) → loop_around sections first ≡ o → IsMarked C (blocks_between nodes first past)
      by (Some k) e =
          let (s, among, number, none, low, high) = sound sections first k e in
          let is' = (holds s among).0 in let some : first < past = is.some in
          let f = same_first C s.first s.past first past first is' is low high (omega arith) some in
          let g = same_past C s.first s.past first past first is' is low high (omega arith) some in
          inr (subst (λ past. IsDispatched C first past) g (subst (λ first. IsDispatched C first s.past) f (is_dispatched s among none)))
      by None e = inl (λ h x y. is_headed first past is h x y (within h x y (loop_around sections h) refl))
        where
          within : (h : ℕ) → first ≤ h → h < past → (o : Option ℕ) → loop_around sections h ≡ o → loop_around sections h ≡ None
          within h x y None f = f
          within h x y (Some k) f =
              let (s, among, number, none, low, high) = sound sections h k f in
              let is' = (holds s among).0 in let some : first < past = is.some in
              let p = same_first C s.first s.past first past h is' is low high x y in
              let q = same_past C s.first s.past first past h is' is low high x y in
              let g = loop_is s among first (omega arith) (omega arith) ∙ ap (loop_number s.first) none in
              let wrong : None ≡ Some s.first = sym e ∙ g in absurd cc

-- Segments between cuts, and where their blocks lead.
use Rattle.std.proofs.Common.{◌≡◌, ◌⊎◌, inl, inr, ⊎_elim, ℕ, suc, ◌<◌, ◌≤◌, true, List, [], ◌∷◌, ◌++◌, length, slice_get, Some, refl, sym, ap, ◌∙◌, subst, arith}
use Rattle.std.specs.Option.{option_map}
use Rattle.std.proofs.lemmas.Bool.{cases_lt}
use Rattle.std.proofs.lemmas.List.{length-map}
use Rattle.std.proofs.lemmas.Option.{slice_get-map}
use Rattle.st_tree.specs.declared.graph.StNode.{StNode}
use Rattle.stl_tree.specs.Segments.{AreAscending, AreAscendingAfter, AreCuts, IsCut, IsOneOf, IsReached, JumpsTo, Ways, fall, jump}
use Rattle.stl_tree.specs.Flows.{GoesOn, IsSegment, blocks_of, ways_by}
use Rattle.graph_rules.specs.Flow.{flow_of, way_by}
use Rattle.nesting_laws.specs.Plans.{LeadsTo}
use Rattle.region_plans.specs.PlanRegion.{Chart}
use Rattle.unit_regions.specs.UnitCharts.{IsCutUp, cut_or_end, segment_of}
use Rattle.unit_regions.specs.UnitLaws.{CutsMakeSegments, LeadsStay}

-- Cuts in order

one_of_more : (q : ℕ) (done : List ℕ) (first : ℕ) (cuts : List ℕ) → IsOneOf q (done ++ first ∷ cuts)
    → IsOneOf q done ⊎ ((q ≡ first) ⊎ IsOneOf q cuts)
one_of_more q [] first cuts o = inr o
one_of_more q (d ∷ done) first cuts (inl e) = inl (inl e)
one_of_more q (d ∷ done) first cuts (inr o) =
    ⊎_elim (λ (x : IsOneOf q done). inl (inr x)) (λ (x : (q ≡ first) ⊎ IsOneOf q cuts). inr x) (one_of_more q done first cuts o)

middle_of_more : (done : List ℕ) (first : ℕ) (cuts : List ℕ) → IsOneOf first (done ++ first ∷ cuts)
middle_of_more [] first cuts = inl refl
middle_of_more (d ∷ done) first cuts = inr (middle_of_more done first cuts)

last_of_more : (q : ℕ) (done : List ℕ) (first : ℕ) (cuts : List ℕ) → IsOneOf q cuts → IsOneOf q (done ++ first ∷ cuts)
last_of_more q [] first cuts o = inr o
last_of_more q (d ∷ done) first cuts o = inr (last_of_more q done first cuts o)

pub next_of_more : (done : List ℕ) (first next : ℕ) (cuts : List ℕ) → IsOneOf next (done ++ first ∷ next ∷ cuts)
next_of_more done first next cuts = last_of_more next done first (next ∷ cuts) (inl refl)

after_split : (n : ℕ) (done : List ℕ) (first : ℕ) (cuts : List ℕ) → AreAscendingAfter n (done ++ first ∷ cuts)
    → (n < first) × ((q : ℕ) → IsOneOf q done → q < first) × AreAscendingAfter first cuts
after_split n [] first cuts h = (h.0, (λ q o. absurd o), h.1)
after_split n (d ∷ done) first cuts h =
    let s = after_split d done first cuts h.1 in
    (omega (arith, h.0, s.0), (λ q o. ⊎_elim (λ e. omega (arith, s.0)) (λ p. s.1 q p) o), s.2)

split : (done : List ℕ) (first : ℕ) (cuts : List ℕ) → AreAscending (done ++ first ∷ cuts)
    → ((q : ℕ) → IsOneOf q done → q < first) × AreAscendingAfter first cuts
split [] first cuts h = ((λ q o. absurd o), h)
split (d ∷ done) first cuts h =
    let s = after_split d done first cuts h in ((λ q o. ⊎_elim (λ e. omega (arith, s.0)) (λ p. s.1 q p) o), s.2)

pub all_after : (n q : ℕ) (cuts : List ℕ) → AreAscendingAfter n cuts → IsOneOf q cuts → n < q
all_after n q [] h o = absurd o
all_after n q (m ∷ cuts) h o =
    ⊎_elim (λ e. omega (arith, h.0)) (λ p. let x = all_after m q cuts h.1 p in omega (arith, h.0)) o

-- Segments between them

module _ (c : Chart) where
  pub count_is : length (flow_of c.unit.nodes).ways ≡ length c.unit.nodes
  count_is = length-map c.unit.nodes (λ (n : StNode). way_by n.exit)

  pub blocks_are : length (blocks_of (flow_of c.unit.nodes)) ≡ length c.unit.nodes
  blocks_are = length-map (flow_of c.unit.nodes).ways ways_by ∙ count_is

  pub segments : (done : List ℕ) (first : ℕ) (cuts : List ℕ) → AreCuts (blocks_of (flow_of c.unit.nodes)) (done ++ first ∷ cuts)
      → IsSegment (segment_of c first (cut_or_end c cuts))
  segments done first cuts is = by cuts is (split done first cuts is.ascending)
    where
      by : (cuts : List ℕ) → AreCuts (blocks_of (flow_of c.unit.nodes)) (done ++ first ∷ cuts)
          → ((q : ℕ) → IsOneOf q done → q < first) × AreAscendingAfter first cuts → IsSegment (segment_of c first (cut_or_end c cuts))
      by [] is s =
          let here = is.each first (middle_of_more done first []) in
          record {
            begins = here;
            some = (let x : first < length (blocks_of (flow_of c.unit.nodes)) = here.there in omega (arith, blocks_are));
            inside = λ q x y cut. ⊎_elim (λ o. absurd (let z = s.0 q o in omega arith))
                (λ o. ⊎_elim (λ e. absurd (omega arith)) (λ p. absurd p) o) (one_of_more q done first [] (is.all q cut));
            ends = inl (sym count_is);
          }
      by (next ∷ cuts) is s = record {
        begins = is.each first (middle_of_more done first (next ∷ cuts));
        some = s.1.0;
        inside = λ q x y cut. ⊎_elim (λ o. absurd (let z = s.0 q o in omega arith))
            (λ o. ⊎_elim (λ e. absurd (omega arith))
            (λ p. ⊎_elim (λ e. absurd (omega arith)) (λ t. absurd (let z = all_after next q cuts s.1.1 t in omega arith)) p) o)
            (one_of_more q done first (next ∷ cuts) (is.all q cut));
        ends = inr (is.each next (next_of_more done first next cuts));
      }

-- Where blocks lead

module _ (c : Chart) (cuts : List ℕ) (ok : IsCutUp c.unit.nodes c.unit.reached cuts) (first past : ℕ) where
  ways_at : (b : ℕ) (n : StNode) → slice_get c.unit.nodes b ≡ Some n → slice_get (flow_of c.unit.nodes).ways b ≡ Some (way_by n.exit)
  ways_at b n e =
      slice_get-map (λ (n : StNode). way_by n.exit) c.unit.nodes b ∙ ap (option_map (λ (n : StNode). way_by n.exit)) e

  -- a block of the segment that is reached goes on as its node does
  pub node_goes : (b : ℕ) (n : StNode) → first ≤ b → b < past → c.unit.reached b ≡ true → slice_get c.unit.nodes b ≡ Some n
      → GoesOn (segment_of c first past) b (way_by n.exit)
  node_goes b n x y r e = (record { reached = (ok.reaches b).0 r; low = x; high = y }, ways_at b n e)

  pub lead_reached : (b t : ℕ) → LeadsTo (segment_of c first past) b t → IsReached (blocks_of (flow_of c.unit.nodes)) t
  lead_reached b t (way, goes, inl o) =
      jump goes.0.reached (ways_by way, slice_get-map ways_by (flow_of c.unit.nodes).ways b ∙ ap (option_map ways_by) goes.1, o)
  lead_reached b t (way, goes, inr f) =
      subst (λ t. IsReached (blocks_of (flow_of c.unit.nodes)) t) (sym f.1)
      (fall goes.0.reached (ways_by way, slice_get-map ways_by (flow_of c.unit.nodes).ways b ∙ ap (option_map ways_by) goes.1, f.0))

  pub is_reached : (b t : ℕ) → LeadsTo (segment_of c first past) b t → c.unit.reached t ≡ true
  is_reached b t lead = (ok.reaches t).1 (lead_reached b t lead)

  module _ (is : IsSegment (segment_of c first past)) where
    abbrev Blocks : List Ways
    Blocks = blocks_of (flow_of c.unit.nodes)

    not_beyond : (b t : ℕ) → LeadsTo (segment_of c first past) b t → IsReached Blocks b → b < past → JumpsTo Blocks b t
        → (past ≡ length (flow_of c.unit.nodes).ways) ⊎ IsCut Blocks past → past < t → ⊥
    not_beyond b t lead r y j (inl e) z = let w = ok.there t (is_reached b t lead) in let n = count_is c in omega arith
    not_beyond b t lead r y j (inr cut) z = cut.free b t r j (inl (y, z))

    pub stay : (b t : ℕ) → LeadsTo (segment_of c first past) b t → (first ≤ t) × (t ≤ past)
    stay b t (way, goes, inl o) =
        let x : first ≤ b = goes.0.low in let y : b < past = goes.0.high in
        let j : JumpsTo Blocks b t = (ways_by way, slice_get-map ways_by (flow_of c.unit.nodes).ways b ∙ ap (option_map ways_by) goes.1, o) in (
          ⊎_elim (λ z. absurd (is.begins.free b t goes.0.reached j (inr (z, x)))) (λ z. z) (cases_lt t first),
          ⊎_elim (λ z. absurd (not_beyond b t (way, goes, inl o) goes.0.reached y j is.ends z)) (λ z. z) (cases_lt past t),
        )
    stay b t (way, goes, inr f) =
        let x : first ≤ b = goes.0.low in let y : b < past = goes.0.high in let e : t ≡ suc b = f.1 in (omega arith, omega arith)

pub cuts_make_segments : CutsMakeSegments
cuts_make_segments c done first cuts is = segments c done first cuts is

pub leads_stay : LeadsStay
leads_stay c cuts first past ok is b t lead = stay c cuts ok first past is b t lead

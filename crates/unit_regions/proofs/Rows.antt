-- The segments of a unit in a row, and in which of them a block stands.
use Rattle.std.proofs.Common.{◌≡◌, ◌⊎◌, inl, inr, ⊎_elim, ℕ, ◌<◌, ◌≤◌, nat_le, nat_lt, ◌&&◌, List, [], ◌∷◌, ◌++◌, append_assoc, length, Option, Some, None, refl, sym, subst, arith}
use Rattle.std.proofs.lemmas.Bool.{and_from, and_parts, both_ways, cases_order, cond_both, le-leb, leb-true, lt-ltb, ltb-true}
use Rattle.std.proofs.lemmas.Option.{same_Some}
use Rattle.stl_tree.specs.Segments.{AreCuts}
use Rattle.stl_tree.specs.Flows.{IsSegment, blocks_of}
use Rattle.graph_rules.specs.Flow.{flow_of}
use Rattle.nesting_laws.specs.Plans.{Plan}
use Rattle.region_plans.specs.PlanRegion.{Chart}
use Rattle.unit_regions.specs.MadeCharts.{loop_around, loop_number}
use Rattle.unit_regions.specs.UnitCharts.{AreInRow, segment_of}
use Rattle.unit_regions.specs.UnitRegion.{Section}
use Rattle.unit_regions.proofs.Cutting.{blocks_are, count_is, segments}

-- a segment is one of some
abbrev pub IsAmong : Section → List Section → Type 0
IsAmong s [] = ⊥
IsAmong s (x ∷ rest) = (s ≡ x) ⊎ IsAmong s rest

-- the number of a dispatch loop is that of a segment without a plan
pub sound : (sections : List Section) (b k : ℕ) → loop_around sections b ≡ Some k
    → (s : Section) × IsAmong s sections × (s.first ≡ k) × (s.plan ≡ None) × (s.first ≤ b) × (b < s.past)
sound [] b k e = absurd cc
sound (x ∷ rest) b k e =
    cond_both (nat_le x.first b && nat_lt b x.past) (loop_number x.first x.plan) (loop_around rest b)
    (λ o. o ≡ Some k → (s : Section) × IsAmong s (x ∷ rest) × (s.first ≡ k) × (s.plan ≡ None) × (s.first ≤ b) × (b < s.past))
    (λ t f. let both = and_parts (nat_le x.first b) (nat_lt b x.past) t in let n = numbered x.first x.plan f in
    (x, inl refl, n.0, n.1, leb-true x.first b both.0, ltb-true b x.past both.1))
    (λ t f. let (s, among, number, none, low, high) = sound rest b k f in (s, inr among, number, none, low, high)) e
  where
    numbered : (first : ℕ) (plan : Option Plan) → loop_number first plan ≡ Some k → (first ≡ k) × (plan ≡ None)
    numbered first None f = (same_Some first k f, refl)
    numbered first (Some plan) f = absurd cc

-- two segments in which one block stands are the same
module _ (c : Chart) (first past first' past' i : ℕ) (is : IsSegment (segment_of c first past)) (is' : IsSegment (segment_of c first' past'))
    (x : first ≤ i) (y : i < past) (x' : first' ≤ i) (y' : i < past') where
  pub same_first : first ≡ first'
  same_first = ⊎_elim (λ e. e)
      (λ o. absurd (⊎_elim (λ z. is.inside first' z (omega arith) is'.begins) (λ z. is'.inside first z (omega arith) is.begins) o))
      (cases_order first first')

  not_before : (first past first' past' : ℕ) → IsSegment (segment_of c first past) → IsSegment (segment_of c first' past')
      → first' ≤ i → i < past → past < past' → ⊥
  not_before first past first' past' is is' x y z =
      let n = count_is c in let m = blocks_are c in
      ⊎_elim
      (λ e. ⊎_elim (λ f. omega arith) (λ cut. let w = cut.there in omega arith) is'.ends)
      (λ cut. is'.inside past (omega arith) z cut) is.ends

  pub same_past : past ≡ past'
  same_past = ⊎_elim (λ e. e)
      (λ o. absurd (⊎_elim (λ z. not_before first past first' past' is is' x' y z) (λ z. not_before first' past' first past is' is x y' z) o))
      (cases_order past past')

module _ (P : ℕ → ℕ → Option Plan → Type 0) (c : Chart) where
  -- what holds of one of them
  abbrev pub Each : ℕ → Section → Type 0
  Each b s = IsSegment (segment_of c s.first s.past) × P s.first s.past s.plan × (b ≤ s.first)

  pub each : (done : List ℕ) (b : ℕ) (cuts : List ℕ) (sections : List Section) → AreCuts (blocks_of (flow_of c.unit.nodes)) (done ++ b ∷ cuts)
      → AreInRow P c b cuts sections → (s : Section) → IsAmong s sections → Each b s
  each done b cuts [] points are s among = absurd are
  each done b [] (x ∷ rest) points (e, f, holds, none) s among = ⊎_elim
      (λ same. subst (λ s. Each b s) (sym same) (
        subst (λ past. IsSegment (segment_of c x.first past)) (sym f)
            (subst (λ b. IsSegment (segment_of c b (length c.unit.nodes))) (sym e) (segments c done b [] points)),
        holds,
        omega arith,
      ))
      (λ o. absurd (subst (λ rest. IsAmong s rest) none o)) among
  each done b (cut ∷ cuts) (x ∷ rest) points (e, f, holds, more) s among =
      let is = segments c done b (cut ∷ cuts) points in
      ⊎_elim
      (λ same. subst (λ s. Each b s) (sym same)
      (subst (λ past. IsSegment (segment_of c x.first past)) (sym f) (subst (λ b. IsSegment (segment_of c b cut)) (sym e) is), holds, omega arith))
      (λ o. ⊎_elim (λ (n, none). absurd (subst (λ rest. IsAmong s rest) none o))
      (λ (y, are). let z = is.some in let r = each (done ++ b ∷ []) cut cuts rest
      (subst (λ cuts. AreCuts (blocks_of (flow_of c.unit.nodes)) cuts) (sym (append_assoc done (b ∷ []) (cut ∷ cuts))) points) are s o in
      (r.0, r.1, omega (arith, r.2))) more) among

  -- the segment in which a block stands is found
  found_here : (x s : Section) (rest : List Section) (i : ℕ) → s ≡ x → s.first ≤ i → i < s.past
      → loop_around (x ∷ rest) i ≡ loop_number s.first s.plan
  found_here x s rest i same y z =
      subst (λ x. loop_around (x ∷ rest) i ≡ loop_number s.first s.plan) same
      (cond_both (nat_le s.first i && nat_lt i s.past) (loop_number s.first s.plan) (loop_around rest i)
      (λ o. o ≡ loop_number s.first s.plan) (λ t. refl)
      (λ t. absurd (both_ways _ t (and_from (nat_le s.first i) (nat_lt i s.past) (le-leb s.first i y) (lt-ltb i s.past z)))))

  pub lookup : (done : List ℕ) (b : ℕ) (cuts : List ℕ) (sections : List Section) → AreCuts (blocks_of (flow_of c.unit.nodes)) (done ++ b ∷ cuts)
      → AreInRow P c b cuts sections → (s : Section) → IsAmong s sections → (i : ℕ) → s.first ≤ i → i < s.past
      → loop_around sections i ≡ loop_number s.first s.plan
  lookup done b cuts [] points are s among i y z = absurd are
  lookup done b [] (x ∷ rest) points (e, f, holds, none) s among i y z = ⊎_elim
      (λ same. found_here x s rest i same y z)
      (λ o. absurd (subst (λ rest. IsAmong s rest) none o)) among
  lookup done b (cut ∷ cuts) (x ∷ rest) points (e, f, holds, more) s among i y z = ⊎_elim
      (λ same. found_here x s rest i same y z)
      (λ o. ⊎_elim (λ (n, none). absurd (subst (λ rest. IsAmong s rest) none o))
      (λ (g, are). later o (subst (λ cuts. AreCuts (blocks_of (flow_of c.unit.nodes)) cuts) (sym (append_assoc done (b ∷ []) (cut ∷ cuts))) points) are
      (λ p q. lookup (done ++ b ∷ []) cut cuts rest p q s o i y z)) more) among
    where
      later : IsAmong s rest → AreCuts (blocks_of (flow_of c.unit.nodes)) ((done ++ b ∷ []) ++ cut ∷ cuts) → AreInRow P c cut cuts rest
          → (AreCuts (blocks_of (flow_of c.unit.nodes)) ((done ++ b ∷ []) ++ cut ∷ cuts) → AreInRow P c cut cuts rest
          → loop_around rest i ≡ loop_number s.first s.plan) → loop_around (x ∷ rest) i ≡ loop_number s.first s.plan
      later o p q further =
          let r = each (done ++ b ∷ []) cut cuts rest p q s o in
          cond_both (nat_le x.first i && nat_lt i x.past) (loop_number x.first x.plan) (loop_around rest i)
          (λ o. o ≡ loop_number s.first s.plan)
          (λ t. absurd (let w = ltb-true i x.past (and_parts (nat_le x.first i) (nat_lt i x.past) t).1 in omega (arith, r.2)))
          (λ t. further p q)

-- The region of a unit fits.
use Rattle.std.proofs.Common.{◌≡◌, ◌⊎◌, inl, inr, ⊎_elim, ℕ, ◌<◌, Bool, true, false, ◌&&◌, List, [], ◌∷◌, ◌++◌, append_assoc, length, Option, Some, None, refl, sym, ap, subst, arith}
use Rattle.std.proofs.lemmas.Bool.{and_parts}
use Rattle.stl_tree.specs.Segments.{AreCuts, IsCut, IsReached, first}
use Rattle.stl_tree.specs.Flows.{IsSegment, blocks_of}
use Rattle.graph_rules.specs.Flow.{flow_of}
use Rattle.nesting_laws.specs.Plans.{Plan}
use Rattle.region_laws.specs.Regions.{Fits, at, no_loop, out}
use Rattle.region_plans.specs.PlanRegion.{Chart}
use Rattle.region_plans.proofs.Fitting.{segment_fits}
use Rattle.unit_regions.specs.UnitCharts.{AreInRow, IsCutUp, IsWrittenBy, goes_on, segment_of}
use Rattle.unit_regions.specs.UnitLaws.{UnitFits}
use Rattle.unit_regions.specs.UnitRegion.{Section, falls_off, followed_by, place_if, place_of, region_by, section_region, unit_region}
use Rattle.unit_regions.proofs.Cutting.{all_after, blocks_are, segments}
use Rattle.unit_regions.proofs.Dispatch.{dispatch_fits}
use Rattle.unit_regions.proofs.Following.{followed_by_any_fits, followed_by_fits}

and_fails : (a b : Bool) → a && b ≡ false → (a ≡ false) ⊎ (b ≡ false)
and_fails true b e = inr e
and_fails false b e = inl refl

-- the first block begins a segment, and so cuts begin with it
pub first_is_cut : (c : Chart) → 0 < length (blocks_of (flow_of c.unit.nodes)) → IsCut (blocks_of (flow_of c.unit.nodes)) 0
first_is_cut c some =
    record { there = some; free = λ s t r j over. ⊎_elim (λ x. let y = x.0 in omega arith) (λ x. let y = x.0 in omega arith) over }

pub begins_first : (c : Chart) (cut : ℕ) (cuts : List ℕ) → AreCuts (blocks_of (flow_of c.unit.nodes)) (cut ∷ cuts)
    → 0 < length (blocks_of (flow_of c.unit.nodes)) → cut ≡ 0
begins_first c cut cuts is some =
    ⊎_elim (λ e. sym e) (λ o. absurd (let x = all_after cut 0 cuts is.ascending o in omega arith)) (is.all 0 (first_is_cut c some))

module _ (c : Chart) (all : List ℕ) (ok : IsCutUp c.unit.nodes c.unit.reached all) where
  place_is : (flag : Bool) (b : ℕ) → c.unit.reached b ≡ flag → place_of c b ≡ place_if flag b
  place_is flag b e = ap (λ (flag : Bool). place_if flag b) e

  end_unreached : c.unit.reached (length c.unit.nodes) ≡ false
  end_unreached = by (c.unit.reached (length c.unit.nodes)) refl
    where
      by : (flag : Bool) → c.unit.reached (length c.unit.nodes) ≡ flag → c.unit.reached (length c.unit.nodes) ≡ false
      by true e = absurd (let x = ok.there (length c.unit.nodes) e in omega arith)
      by false e = e

  one_fits : (b past : ℕ) (plan : Option Plan) → IsSegment (segment_of c b past) → IsWrittenBy c b past plan → c.unit.reached b ≡ true
      → Fits c.unit false (region_by c b past plan) (at b) (place_of c past) no_loop
  one_fits b past None is written r = dispatch_fits c all b past ok is written r
  one_fits b past (Some plan) is (charted, planned) r =
      segment_fits c (segment_of c b past) plan (place_of c past) charted planned (λ f. place_is true past f) b
      (record { low = (omega arith); high = is.some; reached = r; bare = λ q x y. absurd (omega arith) })

  -- what is known of the first of some segments
  section_fits : (b past : ℕ) (s : Section) → s.first ≡ b → s.past ≡ past → IsWrittenBy c s.first s.past s.plan
      → IsSegment (segment_of c b past) → c.unit.reached b ≡ true
      → Fits c.unit false (section_region c s) (at b) (place_of c past) no_loop
  section_fits b past s e f written is r =
      subst (λ past. Fits c.unit false (section_region c s) (at b) (place_of c past) no_loop) f
      (subst (λ b. Fits c.unit false (section_region c s) (at b) (place_of c s.past) no_loop) e
      (one_fits s.first s.past s.plan
      (subst (λ past. IsSegment (segment_of c s.first past)) (sym f) (subst (λ b. IsSegment (segment_of c b past)) (sym e) is))
      written (subst (λ b. c.unit.reached b ≡ true) (sym e) r)))

  fits_from : (done : List ℕ) (b : ℕ) (cuts : List ℕ) (sections : List Section) → AreCuts (blocks_of (flow_of c.unit.nodes)) (done ++ b ∷ cuts)
      → AreInRow (IsWrittenBy c) c b cuts sections → c.unit.reached b ≡ true → Fits c.unit false (unit_region c sections) (at b) out no_loop
  fits_from done b cuts [] points are r = absurd are
  fits_from done b [] (s ∷ rest) points (e, f, written, none) r =
      followed_by_fits c.unit false (section_region c s) (unit_region c rest) (at b) (place_of c (length c.unit.nodes)) out no_loop
      (section_fits b (length c.unit.nodes) s e f written (segments c done b [] points) r)
      (subst (λ rest. Fits c.unit false (unit_region c rest) (place_of c (length c.unit.nodes)) out no_loop) (sym none)
      (refl, place_is false (length c.unit.nodes) end_unreached))
  fits_from done b (cut ∷ cuts) (s ∷ rest) points (e, f, written, more) r =
      by (λ are q. fits_from (done ++ b ∷ []) cut cuts rest
      (subst (λ cuts. AreCuts (blocks_of (flow_of c.unit.nodes)) cuts) (sym (append_assoc done (b ∷ []) (cut ∷ cuts))) points) are q) more
    where
      here : Fits c.unit false (section_region c s) (at b) (place_of c cut) no_loop
      here = section_fits b cut s e f written (segments c done b (cut ∷ cuts) points) r

      followed : Fits c.unit false (unit_region c rest) (place_of c cut) out no_loop
          → Fits c.unit false (followed_by (section_region c s) (unit_region c rest)) (at b) out no_loop
      followed k = followed_by_fits c.unit false (section_region c s) (unit_region c rest) (at b) (place_of c cut) out no_loop here k

      by : (AreInRow (IsWrittenBy c) c cut cuts rest → c.unit.reached cut ≡ true → Fits c.unit false (unit_region c rest) (at cut) out no_loop)
          → ((goes_on c s cut ≡ false) × (rest ≡ [])) ⊎ ((goes_on c s cut ≡ true) × AreInRow (IsWrittenBy c) c cut cuts rest)
          → Fits c.unit false (followed_by (section_region c s) (unit_region c rest)) (at b) out no_loop
      by further (inl (n, none)) = ⊎_elim
          (λ q. followed
          (subst (λ rest. Fits c.unit false (unit_region c rest) (place_of c cut) out no_loop) (sym none) (refl, place_is false cut q)))
          (λ q. followed_by_any_fits c.unit false (section_region c s) (unit_region c rest) (at b) (place_of c cut) out no_loop q here)
          (and_fails (c.unit.reached cut) (falls_off (section_region c s)) n)
      by further (inr (y, are)) =
          let q = (and_parts (c.unit.reached cut) (falls_off (section_region c s)) y).0 in
          followed (subst (λ p. Fits c.unit false (unit_region c rest) p out no_loop) (sym (place_is true cut q)) (further are q))

pub unit_fits : UnitFits
unit_fits c [] sections ok are = absurd are
unit_fits c (cut ∷ cuts) sections ok are =
    let start : IsReached (blocks_of (flow_of c.unit.nodes)) 0 = first in let r = (ok.reaches 0).1 start in
    let x = ok.there 0 r in let n = blocks_are c in
    let e = begins_first c cut cuts ok.points (omega arith) in
    subst (λ b. Fits c.unit false (unit_region c sections) (at b) out no_loop) e
    (fits_from c (cut ∷ cuts) ok [] cut cuts sections ok.points are (subst (λ b. c.unit.reached b ≡ true) (sym e) r))

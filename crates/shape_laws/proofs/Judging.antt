-- What is known of the segments of a unit that are written: their loops or their blocks.
use Rattle.std.proofs.Common.{◌≡◌, inl, inr, ℕ, ◌+◌, ◌-◌, ◌<◌, ◌≤◌, List, [], ◌∷◌, length, Option, Some, None, refl, arith}
use Rattle.stl_tree.specs.Flows.{IsSegment}
use Rattle.nesting_laws.specs.Plans.{Plan}
use Rattle.region_plans.specs.PlanRegion.{Chart}
use Rattle.text_shapes.specs.Allowed.{AreJudged, IsJudged, Judgement, arms_allowed, crossed, nested, selectors_allowed}
use Rattle.unit_regions.specs.MadeCharts.{IsPlannedBy}
use Rattle.unit_regions.specs.UnitCharts.{IsCutUp, IsWrittenBy, segment_of}
use Rattle.unit_regions.specs.UnitCounts.{blocks_without, loop_blocks_of, loops_of, one_without}
use Rattle.unit_regions.specs.UnitRegion.{Section}
use Rattle.unit_regions.proofs.Rows.{IsAmong}
use Rattle.shape_laws.proofs.Heads.{are_heads, heads_from}
use Rattle.shape_laws.proofs.Segments.{written_of}

module _ (c : Chart) where
  -- what is known of a segment that is written
  abbrev pub IsKnown : Section → Type 0
  IsKnown s =
      IsSegment (segment_of c s.first s.past) × IsPlannedBy c.unit.nodes s.first s.past s.plan × IsWrittenBy c s.first s.past s.plan

  abbrev pub AreKnown : List Section → Type 0
  AreKnown sections = (s : Section) → IsAmong s sections → IsKnown s

  -- a segment that has a plan is well nested, or it has at most one loop
  abbrev pub judgement_of : (first past : ℕ) (plan : Option Plan) → IsPlannedBy c.unit.nodes first past plan → Judgement
  judgement_of first past None planned = crossed (past - first)
  judgement_of first past (Some plan) ((by_paths, inl closed), is) = nested (length (heads_from c first (past - first)))
  judgement_of first past (Some plan) ((by_paths, inr other), is) = crossed (past - first)

  abbrev pub judgements_of : (sections : List Section) → AreKnown sections → List Judgement
  judgements_of [] known = []
  judgements_of (s ∷ rest) known =
      judgement_of s.first s.past s.plan (known s (inl refl)).1 ∷ judgements_of rest (λ q among. known q (inr among))

  pub selectors_are : (sections : List Section) (known : AreKnown sections) → loops_of sections ≤ selectors_allowed (judgements_of sections known)
  selectors_are [] known = omega arith
  selectors_are (s ∷ rest) known =
      let more = judgements_of rest (λ q among. known q (inr among)) in
      let e = by s.first s.past s.plan (known s (inl refl)).1 more in let h = selectors_are rest (λ q among. known q (inr among)) in omega arith
    where
      by : (first past : ℕ) (plan : Option Plan) (planned : IsPlannedBy c.unit.nodes first past plan) (more : List Judgement)
          → one_without plan + selectors_allowed more ≤ selectors_allowed (judgement_of first past plan planned ∷ more)
      by first past None planned more = omega arith
      by first past (Some plan) ((by_paths, inl closed), is) more = omega arith
      by first past (Some plan) ((by_paths, inr other), is) more = omega arith

  pub arms_are : (sections : List Section) (known : AreKnown sections) → loop_blocks_of sections ≤ arms_allowed (judgements_of sections known)
  arms_are [] known = omega arith
  arms_are (s ∷ rest) known =
      let more = judgements_of rest (λ q among. known q (inr among)) in
      let e = by s.first s.past s.plan (known s (inl refl)).1 more in let h = arms_are rest (λ q among. known q (inr among)) in omega arith
    where
      by : (first past : ℕ) (plan : Option Plan) (planned : IsPlannedBy c.unit.nodes first past plan) (more : List Judgement)
          → blocks_without first past plan + arms_allowed more ≤ arms_allowed (judgement_of first past plan planned ∷ more)
      by first past None planned more = omega arith
      by first past (Some plan) ((by_paths, inl closed), is) more = omega arith
      by first past (Some plan) ((by_paths, inr other), is) more = omega arith

  module _ (cuts : List ℕ) (ok : IsCutUp c.unit.nodes c.unit.reached cuts) where
    is_judged : (first past : ℕ) (plan : Option Plan) → IsSegment (segment_of c first past)
        → (planned : IsPlannedBy c.unit.nodes first past plan) → IsWrittenBy c first past plan
        → IsJudged (segment_of c first past) (judgement_of first past plan planned)
    is_judged first past None is planned written =
        let some : first < past = is.some in
        ((λ well. planned (well.by_paths, inl well.closed)), (let e : first + (past - first) ≡ past = omega arith in e))
    is_judged first past (Some plan) is ((by_paths, inl closed), planned) written = (
      record { by_paths = by_paths; closed = closed },
      heads_from c first (past - first),
      are_heads c cuts ok first past is (λ h x y. written.0.heads h x y),
      refl,
    )
    is_judged first past (Some plan) is ((by_paths, inr other), planned) written =
        let some : first < past = is.some in ((λ well. other.0 well.closed), (let e : first + (past - first) ≡ past = omega arith in e))

    pub are_judged : (sections : List Section) (known : AreKnown sections) → AreJudged (written_of c sections) (judgements_of sections known)
    are_judged [] known = tt
    are_judged (s ∷ rest) known =
        let own = known s (inl refl) in
        (is_judged s.first s.past s.plan own.0 own.1 own.2, are_judged rest (λ q among. known q (inr among)))

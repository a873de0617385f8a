-- The segments of a unit that are written are some of all.
use Rattle.std.proofs.Common.{◌≡◌, inl, inr, ℕ, List, [], ◌∷◌, length, Option, refl, sym, ap, ◌∙◌, subst}
use Rattle.stl_tree.specs.Flows.{AreSegmentsFrom, Segment}
use Rattle.graph_rules.specs.Flow.{flow_of}
use Rattle.nesting_laws.specs.Plans.{Plan}
use Rattle.region_plans.specs.PlanRegion.{Chart}
use Rattle.text_shapes.specs.Allowed.{AreAmong}
use Rattle.unit_regions.specs.UnitCharts.{AreInRow, segment_of}
use Rattle.unit_regions.specs.UnitRegion.{Section}
use Rattle.unit_regions.proofs.Cutting.{count_is}

module _ (c : Chart) where
  -- the segments from a cut on
  abbrev pub segments_from : ℕ → List ℕ → List Segment
  segments_from b [] = segment_of c b (length (flow_of c.unit.nodes).ways) ∷ []
  segments_from b (cut ∷ cuts) = segment_of c b cut ∷ segments_from cut cuts

  pub are_segments : (b : ℕ) (cuts : List ℕ) → AreSegmentsFrom (flow_of c.unit.nodes) b cuts (segments_from b cuts)
  are_segments b [] = (refl, refl)
  are_segments b (cut ∷ cuts) = (refl, are_segments cut cuts)

  -- those that are written
  abbrev pub written_of : List Section → List Segment
  written_of [] = []
  written_of (s ∷ rest) = segment_of c s.first s.past ∷ written_of rest

  same_segment : (s : Section) (b past : ℕ) → s.first ≡ b → s.past ≡ past → segment_of c s.first s.past ≡ segment_of c b past
  same_segment s b past e f = ap (λ (first : ℕ). segment_of c first s.past) e ∙ ap (segment_of c b) f

  none_among : (rest : List Section) (segments : List Segment) → rest ≡ [] → AreAmong (written_of rest) segments
  none_among rest segments none = subst (λ rest. AreAmong (written_of rest) segments) (sym none) tt

  pub are_among : (P : ℕ → ℕ → Option Plan → Type 0) (b : ℕ) (cuts : List ℕ) (sections : List Section)
      → AreInRow P c b cuts sections → AreAmong (written_of sections) (segments_from b cuts)
  are_among P b cuts [] are = absurd are
  are_among P b [] (s ∷ rest) (e, f, own, none) =
      inl (same_segment s b (length (flow_of c.unit.nodes).ways) e (f ∙ sym (count_is c)), none_among rest [] none)
  are_among P b (cut ∷ cuts) (s ∷ rest) (e, f, own, inl (n, none)) =
      inl (same_segment s b cut e f, none_among rest (segments_from cut cuts) none)
  are_among P b (cut ∷ cuts) (s ∷ rest) (e, f, own, inr (y, are)) =
      inl (same_segment s b cut e f, are_among P cut cuts rest are)

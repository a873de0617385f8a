-- What exits of reached nodes lead to lies ahead, or takes a unit of work.
use Rattle.std.proofs.Common.{◌≡◌, inl, inr, ⊎_elim, ℕ, zero, suc, ◌+◌, ◌-◌, ◌<◌, ◌≤◌, true, List, [], ◌∷◌, ◌++◌, append_assoc, length, slice_get, refl, sym, ap, subst, arith}
use Rattle.std.proofs.lemmas.Bool.{both_ways, cases_lt}
use Rattle.st_tree.specs.GraphRun.{entry_or}
use Rattle.st_tree.specs.declared.graph.StExit.{StExit}
use Rattle.st_tree.specs.declared.graph.StExit.TheVariants as exit
use Rattle.stl_tree.specs.Blocks.{always, if_made, on, one_of, unless_ended}
use Rattle.stl_tree.specs.Segments.{AreCuts}
use Rattle.stl_tree.specs.Flows.{GoesOn, IsJump, IsLoop, IsSegment, Segment, blocks_of}
use Rattle.graph_rules.specs.Flow.{flow_of, way_by}
use Rattle.nesting_laws.specs.Plans.{LeadsTo}
use Rattle.region_laws.specs.Regions.{IsOnward, LeadsOnward, takes_unit}
use Rattle.region_plans.specs.Charts.{IsHeaded}
use Rattle.region_plans.specs.PlanRegion.{Chart}
use Rattle.unit_regions.specs.UnitCharts.{IsCutUp, IsMarked, segment_of}
use Rattle.unit_regions.specs.UnitLaws.{UnitLeadsOnward}
use Rattle.unit_regions.proofs.Cutting.{blocks_are, is_reached, node_goes, segments, stay}
use Rattle.unit_regions.proofs.Dispatch.{entry_in}
use Rattle.unit_regions.proofs.Joining.{begins_first, first_is_cut}

-- a jump back has a last source, so a block that heads no loop is no target of one
no_source : (g : Segment) (t : ℕ) → ((l : ℕ) → IsLoop g t l → ⊥) → (k s : ℕ) → g.past ≤ s + k → IsJump g s t → t ≤ s → ⊥
no_source g t none zero s x (way, goes, o) y = let z : s < g.past = goes.0.high in omega arith
no_source g t none (suc k) s x jump y =
    none s (record {
      back = jump;
      ordered = y;
      greatest = λ q more. ⊎_elim (λ z. absurd (no_source g t none k q (omega arith) more (omega arith))) (λ z. z) (cases_lt s q);
    })

-- the segment in which a block lies
segment_around : (c : Chart) (done : List ℕ) (cut : ℕ) (cuts : List ℕ) → AreCuts (blocks_of (flow_of c.unit.nodes)) (done ++ cut ∷ cuts)
    → (i : ℕ) → cut ≤ i → i < length c.unit.nodes
    → (low : ℕ) × (past : ℕ) × IsSegment (segment_of c low past) × (low ≤ i) × (i < past)
segment_around c done cut [] points i x y = (cut, length c.unit.nodes, segments c done cut [] points, x, y)
segment_around c done cut (next ∷ cuts) points i x y = ⊎_elim
    (λ z. (cut, next, segments c done cut (next ∷ cuts) points, x, z))
    (λ z. segment_around c (done ++ cut ∷ []) next cuts
    (subst (λ cuts. AreCuts (blocks_of (flow_of c.unit.nodes)) cuts) (sym (append_assoc done (cut ∷ []) (next ∷ cuts))) points) i z y)
    (cases_lt i next)

module _ (c : Chart) (cuts : List ℕ) (ok : IsCutUp c.unit.nodes c.unit.reached cuts) (low past : ℕ) (is : IsSegment (segment_of c low past))
    (marked : IsMarked c (segment_of c low past)) where
  abbrev G : Segment
  G = segment_of c low past

  -- the target of a jump back takes a unit of work
  takes : (i t : ℕ) → LeadsTo G i t → IsJump G i t → t ≤ i → i < past → IsMarked c G → takes_unit (c.unit.marks t) ≡ true
  takes i t lead jump x y (inl heads) =
      let s = stay c cuts ok low past is i t lead in by (heads t s.0 (omega arith))
    where
      by : IsHeaded c G t → takes_unit (c.unit.marks t) ≡ true
      by (inl (l, lp, e)) = ap takes_unit e
      by (inr (none, e)) = absurd (no_source G t none (past - i) i (omega arith) jump x)
  takes i t lead jump x y (inr d) =
      let s = stay c cuts ok low past is i t lead in ap takes_unit (d.arm t s.0 (omega arith) (is_reached c cuts ok low past i t lead))

  onward : (i t : ℕ) → LeadsTo G i t → IsOnward c.unit i t
  onward i t (way, goes, inl o) =
      let lead : LeadsTo G i t = (way, goes, inl o) in let y : i < past = goes.0.high in
      record {
        reached = is_reached c cuts ok low past i t lead;
        behind = λ e. ⊎_elim (λ x. x)
            (λ x. absurd (both_ways (takes_unit (c.unit.marks t)) e (takes i t lead (way, goes, o) x y marked))) (cases_lt i t);
      }
  onward i t (way, goes, inr f) =
      let lead : LeadsTo G i t = (way, goes, inr f) in let x : t ≡ suc i = f.1 in
      record { reached = is_reached c cuts ok low past i t lead; behind = λ e. omega arith }

  leads : (i : ℕ) (x : StExit) → GoesOn G i (way_by x) → LeadsOnward c.unit i x
  leads i exit.Fall goes = onward i (suc i) (on, goes, inr (refl, refl))
  leads i (exit.Jump t) goes = onward i t (always t, goes, inl (inl refl))
  leads i (exit.Branch e t) goes =
      (onward i t (if_made t, goes, inl (inl refl)), onward i (suc i) (if_made t, goes, inr (refl, refl)))
  leads i (exit.EndIf e) goes = onward i (suc i) (unless_ended, goes, inr (refl, refl))
  leads i (exit.Table e targets last) goes =
      λ n. onward i (entry_or (slice_get targets n) last) (one_of targets last, goes, inl (entry_in targets last n))
  leads i exit.End goes = tt

pub unit_leads_onward : UnitLeadsOnward
unit_leads_onward c [] ok marked i n r e =
    let x = ok.there i r in let m = blocks_are c in
    absurd (ok.points.all 0 (first_is_cut c (omega arith)))
unit_leads_onward c (cut ∷ cuts) ok marked i n r e =
    let x = ok.there i r in let m = blocks_are c in
    let begins = begins_first c cut cuts ok.points (omega arith) in
    let (low, past, is, y, z) = segment_around c [] cut cuts ok.points i (omega arith) x in
    leads c (cut ∷ cuts) ok low past is (marked low past is) i n.exit (node_goes c (cut ∷ cuts) ok low past i n y z r e)

-- What is made of a unit is the text of a region that fits it.
use Rattle.std.proofs.Common.{◌≡◌, inl, inr, ℕ, ◌≤◌, ◌==◌, Bool, true, false, not, List, [], ◌∷◌, length, Option, Some, None, refl, sym, ap, subst, arith}
use Rattle.std.proofs.lemmas.Bool.{eqb-true}
use Rattle.st_tree.specs.declared.graph.StNode.{StNode}
use Rattle.st_tree.specs.declared.program.Stmt.{Stmt}
use Rattle.stl_tree.specs.Segments.{IsReached, first}
use Rattle.stl_tree.specs.Flows.{IsSegment, blocks_of}
use Rattle.graph_rules.specs.Flow.{flow_of}
use Rattle.nesting_laws.specs.Plans.{Plan}
use Rattle.nesting_laws.proofs.OnePlan.{plan_is_low}
use Rattle.region_laws.specs.Regions.{Fits, at, is_arm, no_loop, out}
use Rattle.region_plans.specs.PlanRegion.{Chart}
use Rattle.region_types.specs.UsesNext.{UsesNext}
use Rattle.unit_regions.specs.MadeCharts.{ArePlain, ArePlanned, IsFound, IsMade, IsPlannedBy, chart_of, loop_around, mark_by}
use Rattle.unit_regions.specs.MadeLaws.{MadeIsRegion}
use Rattle.unit_regions.specs.UnitCharts.{blocks_between}
use Rattle.unit_regions.specs.UnitCounts.{AreLow, IsLow, loops_of, one_without}
use Rattle.unit_regions.specs.UnitRegion.{Section, unit_region}
use Rattle.unit_regions.proofs.Charting.{holds}
use Rattle.unit_regions.proofs.Cutting.{blocks_are}
use Rattle.unit_regions.proofs.Flowing.{is_flow}
use Rattle.unit_regions.proofs.Joining.{begins_first, unit_fits}
use Rattle.unit_regions.proofs.Made.{chart_is_right}
use Rattle.unit_regions.proofs.Markless.{marks_are_left_out}
use Rattle.unit_regions.proofs.Onward.{unit_leads_onward}
use Rattle.unit_regions.proofs.Rows.{IsAmong, sound}
use Rattle.unit_regions.proofs.Using.{uses_from}
use Rattle.unit_regions.proofs.Weighing.{unit_is_flat}

-- where each segment has a plan there is no dispatch loop
no_loops : (sections : List Section) → loops_of sections ≡ 0 → (s : Section) → IsAmong s sections → s.plan ≡ None → ⊥
no_loops [] e s among none = absurd among
no_loops (x ∷ rest) e s (inl same) none =
    let f : one_without x.plan ≡ 1 = subst (λ (x : Section). one_without x.plan ≡ 1) same (ap one_without none) in absurd (omega arith)
no_loops (x ∷ rest) e s (inr among) none = no_loops rest (omega arith) s among none

no_arm : (o : Option ℕ) (r : Bool) (last : Option ℕ) (k : ℕ) → ((j : ℕ) → o ≡ Some j → ⊥) → is_arm k (mark_by o r last) ≡ false
no_arm None r None k none = refl
no_arm None r (Some l) k none = refl
no_arm (Some j) r last k none = absurd (none j refl)

some_loops : (loops : ℕ) → 1 ≤ loops → not (loops == 0) ≡ true
some_loops loops x = by (loops == 0) refl
  where
    by : (none : Bool) → loops == 0 ≡ none → not none ≡ true
    by true e = absurd (let z : loops ≡ 0 = eqb-true loops 0 e in omega arith)
    by false e = refl

each_low : (sections : List Section) → ((s : Section) → IsAmong s sections → IsLow s.plan) → AreLow sections
each_low [] low = tt
each_low (s ∷ rest) low = (low s (inl refl), each_low rest (λ q among. low q (inr among)))

module _ (nodes : List StNode) (reached : ℕ → Bool) (lasts : ℕ → Option ℕ) (cut : ℕ) (cuts : List ℕ) (sections : List Section)
    (plain : ArePlain nodes) (found : IsFound nodes reached lasts (cut ∷ cuts)) (row : ArePlanned nodes reached lasts (cut ∷ cuts) sections) where
  abbrev Bare : Chart
  Bare = chart_of nodes reached lasts []

  is_low : (s : Section) → IsSegment (blocks_between nodes s.first s.past) → (plan : Option Plan) → IsPlannedBy nodes s.first s.past plan → IsLow plan
  is_low s segment None is = tt
  is_low s segment (Some plan) is = plan_is_low (blocks_between nodes s.first s.past) plan (is_flow nodes plain) segment is.1 is.0.0.shallow

  are_low : AreLow sections
  are_low = each_low sections
      (λ s among. let own = holds nodes reached lasts cut cuts sections plain found row s among in is_low s own.0 s.plan own.1)

  starts : reached cut ≡ true
  starts =
      let start : IsReached (blocks_of (flow_of nodes)) 0 = first in let r = (found.whole.reaches 0).1 start in
      let x = found.whole.there 0 r in let n = blocks_are Bare in
      subst (λ b. reached b ≡ true) (sym (begins_first Bare cut cuts found.whole.points (omega arith))) r

  uses : (loops : ℕ) → loops ≡ loops_of sections → UsesNext (not (loops == 0)) (length nodes) (unit_region Bare sections)
  uses loops e =
      uses_from Bare (cut ∷ cuts) found.whole plain (IsPlannedBy nodes) (not (loops == 0)) [] cut cuts sections found.whole.points row starts
      (λ x. some_loops loops (omega arith))

low_and_used : (nodes : List StNode) (next : ℕ) (body : List Stmt) (loops : ℕ) → ArePlain nodes → (made : IsMade nodes next body loops)
    → AreLow made.sections
    × UsesNext (not (loops == 0)) (length nodes) (unit_region (chart_of nodes made.reached made.lasts []) made.sections)
low_and_used nodes next body loops plain made = by made.cuts made.found made.planned
  where
    by : (cuts : List ℕ) → IsFound nodes made.reached made.lasts cuts → ArePlanned nodes made.reached made.lasts cuts made.sections
        → AreLow made.sections
        × UsesNext (not (loops == 0)) (length nodes) (unit_region (chart_of nodes made.reached made.lasts []) made.sections)
    by [] found row = absurd row
    by (cut ∷ cuts) found row = (
      are_low nodes made.reached made.lasts cut cuts made.sections plain found row,
      uses nodes made.reached made.lasts cut cuts made.sections plain found row loops made.loops,
    )

pub made_is_region : MadeIsRegion
made_is_region nodes next body loops some few plain made =
    let c = chart_of nodes made.reached made.lasts made.sections in
    let bare = chart_of nodes made.reached made.lasts [] in
    let right = chart_is_right nodes made.reached made.lasts made.cuts made.sections plain made.found made.planned in
    let both = low_and_used nodes next body loops plain made in
    record {
      region = unit_region bare made.sections;
      reached = made.reached;
      marks = c.unit.marks;
      body = made.body;
      first = (let start : IsReached (blocks_of (flow_of nodes)) 0 = first in (made.found.whole.reaches 0).1 start);
      fits = subst (λ r. Fits c.unit false r (at 0) out no_loop) (marks_are_left_out nodes made.reached made.lasts made.sections made.sections)
          (unit_fits c made.cuts made.sections made.found.whole right.each);
      onward = unit_leads_onward c made.cuts made.found.whole right.marks;
      arms = λ e i k. no_arm (loop_around made.sections i) (made.reached i) (made.lasts i) k
          (λ j f. let (s, among, number, none, low, high) = sound made.sections i j f in
          no_loops made.sections (let z : loops ≡ 0 = eqb-true loops 0 e in let same = made.loops in omega arith) s among none);
      uses = both.1;
      low = unit_is_flat bare made.sections both.0;
    }

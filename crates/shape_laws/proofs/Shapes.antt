-- The text that is made of the nodes of a unit has the shape that its blocks allow.
use Rattle.std.proofs.Common.{◌≡◌, ◌≢◌, ⊎_elim, ℕ, ◌+◌, ◌<◌, ◌≤◌, ◌==◌, Bool, false, if◌then◌else◌, List, [], ◌∷◌, length, slice_get, Option, Some, None, refl, sym, ap, ◌∙◌, subst, arith}
use Rattle.std.proofs.lemmas.Bool.{both_ways, cases_eq, cases_lt, cond_both, eq-eqb, eqb-true}
use Rattle.st_tree.specs.declared.graph.StNode.{StNode}
use Rattle.st_tree.specs.declared.program.Stmt.{Stmt}
use Rattle.stl_tree.specs.Segments.{AreCuts}
use Rattle.stl_tree.specs.Flows.{blocks_of}
use Rattle.graph_rules.specs.Flow.{flow_of}
use Rattle.graph_rules.specs.Plain.{AreSettings, AreSteps}
use Rattle.region_laws.specs.Regions.{Fits, at, no_loop, out, text_of}
use Rattle.region_plans.specs.PlanRegion.{Chart}
use Rattle.text_shapes.specs.Allowed.{AreAmong, AreJudged, AreSegmentsOf, loops_allowed}
use Rattle.text_shapes.specs.IsShaped.{IsShaped}
use Rattle.text_shapes.specs.NodeCounts.{KeepsOff, conditionals_of, lists_of}
use Rattle.text_shapes.specs.Shape.{count_in, loops, selector_cases, tests}
use Rattle.unit_regions.specs.MadeCharts.{ArePlain, ArePlanned, IsFound, chart_of, ending_of}
use Rattle.unit_regions.specs.UnitCharts.{IsWrittenBy}
use Rattle.unit_regions.specs.UnitCounts.{loops_of}
use Rattle.unit_regions.specs.UnitRegion.{Section, unit_region}
use Rattle.unit_regions.proofs.Charting.{ending_is, holds}
use Rattle.unit_regions.proofs.Counting.{arms_are_few, loops_are_few}
use Rattle.unit_regions.proofs.Cutting.{blocks_are}
use Rattle.unit_regions.proofs.Joining.{begins_first, unit_fits}
use Rattle.unit_regions.proofs.Made.{chart_is_right}
use Rattle.unit_regions.proofs.Markless.{marks_are_left_out}
use Rattle.unit_regions.proofs.Rows.{each}
use Rattle.shape_laws.specs.MadeShape.{MadeHasShape}
use Rattle.shape_laws.proofs.Judging.{AreKnown, are_judged, arms_are, judgements_of, selectors_are}
use Rattle.shape_laws.proofs.Loops.{unit_whiles}
use Rattle.shape_laws.proofs.Segments.{are_among, are_segments, segments_from, written_of}
use Rattle.shape_laws.proofs.Selecting.{any_case, cases_split, kept_without, none_without, text_arms, text_cases, text_keeps, text_selectors}
use Rattle.shape_laws.proofs.Totals.{unit_cases, unit_tests}

some_nodes : (nodes : List StNode) → nodes ≢ [] → 0 < length nodes
some_nodes [] some = absurd (some refl)
some_nodes (n ∷ rest) some = omega arith

pub steps_of_plain : (nodes : List StNode) → ArePlain nodes → (i : ℕ) (n : StNode) → slice_get nodes i ≡ Some n → AreSteps n.steps
steps_of_plain nodes plain i n e = (plain i n e).steps

pub end_facts : (nodes : List StNode) → ArePlain nodes → AreSettings (ending_of nodes) × (length (ending_of nodes) ≤ 4)
end_facts nodes plain =
    ⊎_elim
    (λ (e : ending_of nodes ≡ []). subst (λ (steps : List Stmt). AreSettings steps × (length steps ≤ 4)) (sym e) (tt, omega arith))
    (λ (k, n, there, only, e).
    let is = (plain k n there).only_end only in
    subst (λ (steps : List Stmt). AreSettings steps × (length steps ≤ 4)) (sym e) (is.settings, is.few))
    (ending_is nodes)

module _ (nodes : List StNode) (next : ℕ) (reached : ℕ → Bool) (lasts : ℕ → Option ℕ) (cut : ℕ) (cuts : List ℕ) (sections : List Section)
    (some : nodes ≢ []) (plain : ArePlain nodes) (off : KeepsOff next nodes) (found : IsFound nodes reached lasts (cut ∷ cuts))
    (row : ArePlanned nodes reached lasts (cut ∷ cuts) sections) where
  abbrev C : Chart
  C = chart_of nodes reached lasts sections

  abbrev pub Text : List Stmt
  Text = text_of next (unit_region C sections)

  fits : Fits C.unit false (unit_region C sections) (at 0) out no_loop
  fits = unit_fits C (cut ∷ cuts) sections found.whole (chart_is_right nodes reached lasts (cut ∷ cuts) sections plain found row).each

  known : AreKnown C sections
  known s among =
      let own = holds nodes reached lasts cut cuts sections plain found row s among in
      let written = each (IsWrittenBy C) C [] cut cuts sections found.whole.points
      (chart_is_right nodes reached lasts (cut ∷ cuts) sections plain found row).each s among in
      (own.0, own.1, written.1)

  at_first : cut ≡ 0
  at_first =
      let x = some_nodes nodes some in let n = blocks_are C in begins_first C cut cuts found.whole.points (omega arith)

  all : AreSegmentsOf (flow_of nodes) (segments_from C 0 cuts)
  all = (cuts, subst (λ b. AreCuts (blocks_of (flow_of nodes)) (b ∷ cuts)) at_first found.whole.points, are_segments C 0 cuts)

  among : AreAmong (written_of C sections) (segments_from C 0 cuts)
  among =
      subst (λ b. AreAmong (written_of C sections) (segments_from C b cuts)) at_first
      (are_among C (IsWrittenBy C) cut cuts sections (chart_is_right nodes reached lasts (cut ∷ cuts) sections plain found row).each)

  judged : AreJudged (written_of C sections) (judgements_of C sections known)
  judged = are_judged C (cut ∷ cuts) found.whole sections known

  whiles : count_in loops Text ≤ loops_allowed (judgements_of C sections known)
  whiles = unit_whiles C next (steps_of_plain nodes plain) (cut ∷ cuts) found.whole sections known

  few_tests : count_in tests Text ≤ conditionals_of nodes
  few_tests =
      let ends = end_facts nodes plain in
      unit_tests C (cut ∷ cuts) sections next (steps_of_plain nodes plain) found.whole
      (chart_is_right nodes reached lasts (cut ∷ cuts) sections plain found row).each ends.0 ends.1

  pub over_selector : count_in (selector_cases (Some next)) Text ≡ loops_of sections
  over_selector =
      text_selectors next C.unit (steps_of_plain nodes plain) off (unit_region C sections) (at 0) out no_loop fits
      ∙ loops_are_few C (cut ∷ cuts) sections (chart_is_right nodes reached lasts (cut ∷ cuts) sections plain found row).each

  all_cases : count_in any_case Text ≤ lists_of nodes + loops_of sections
  all_cases =
      let e = text_cases next C.unit (steps_of_plain nodes plain) off (unit_region C sections) (at 0) out no_loop fits in
      let l = unit_cases C (cut ∷ cuts) sections found.whole (chart_is_right nodes reached lasts (cut ∷ cuts) sections plain found row).each in
      omega arith

  pub shape_with : 1 ≤ loops_of sections → IsShaped (flow_of nodes) (conditionals_of nodes) (lists_of nodes) (Some next) Text
  shape_with x =
      let e = selectors_are C sections known in let f = over_selector in let s = cases_split (Some next) Text in let c = all_cases in
      record {
        segments = segments_from C 0 cuts;
        written = written_of C sections;
        judgements = judgements_of C sections known;
        all = all;
        some = among;
        judged = judged;
        declared = λ n same. omega arith;
        selector = text_keeps next C.unit (steps_of_plain nodes plain) off (unit_region C sections) (at 0) out no_loop fits;
        selectors = (omega arith);
        arms =
            (let g = text_arms next C.unit (steps_of_plain nodes plain) off (unit_region C sections) (at 0) out no_loop fits in
            let l = arms_are_few C (cut ∷ cuts) sections (chart_is_right nodes reached lasts (cut ∷ cuts) sections plain found row).each in
            let h = arms_are C sections known in omega arith);
        cases = (omega arith);
        loops = whiles;
        tests = few_tests;
      }

  pub shape_without : loops_of sections ≡ 0 → IsShaped (flow_of nodes) (conditionals_of nodes) (lists_of nodes) None Text
  shape_without x =
      let none = none_without Text in let s = cases_split None Text in let c = all_cases in
      record {
        segments = segments_from C 0 cuts;
        written = written_of C sections;
        judgements = judgements_of C sections known;
        all = all;
        some = among;
        judged = judged;
        declared = λ n same. absurd cc;
        selector = kept_without Text;
        selectors = (let z = none.0 in omega arith);
        arms = (let z = none.1 in omega arith);
        cases = (let z = none.0 in omega arith);
        loops = whiles;
        tests = few_tests;
      }

  pub shape_by : (count : ℕ) → count ≡ loops_of sections
      → IsShaped (flow_of nodes) (conditionals_of nodes) (lists_of nodes) (if count == 0 then None else Some next) Text
  shape_by count same =
      cond_both (count == 0) None (Some next) (λ (o : Option ℕ). IsShaped (flow_of nodes) (conditionals_of nodes) (lists_of nodes) o Text)
      (λ e. let z : count ≡ 0 = eqb-true count 0 e in shape_without (omega arith))
      (λ e. shape_with (⊎_elim (λ z. absurd (both_ways (count == 0) e (eq-eqb count 0 z)))
      (λ z. ⊎_elim (λ y. let w : 1 ≤ loops_of sections = omega arith in w) (λ y. absurd (z (omega arith))) (cases_lt 0 count)) (cases_eq count 0)))

abbrev Has : List StNode → ℕ → ℕ → List Stmt → Type 0
Has nodes next count text =
    IsShaped (flow_of nodes) (conditionals_of nodes) (lists_of nodes) (if count == 0 then None else Some next) text
    × (count_in (selector_cases (Some next)) text ≡ count)

pub made_has_shape : MadeHasShape
made_has_shape nodes next body count some plain off made = by made.cuts made.found made.planned
  where
    by : (cuts : List ℕ) → IsFound nodes made.reached made.lasts cuts → ArePlanned nodes made.reached made.lasts cuts made.sections
        → Has nodes next count body
    by [] found row = absurd row
    by (cut ∷ cuts) found row =
        let e : text_of next (unit_region (chart_of nodes made.reached made.lasts made.sections) made.sections) ≡ body
        = ap (text_of next) (marks_are_left_out nodes made.reached made.lasts made.sections made.sections) ∙ sym made.body in
        subst (Has nodes next count) e (
          shape_by nodes next made.reached made.lasts cut cuts made.sections some plain off found row count made.loops,
          over_selector nodes next made.reached made.lasts cut cuts made.sections some plain off found row ∙ sym made.loops,
        )

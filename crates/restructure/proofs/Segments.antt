-- A unit is written segment by segment.
use Rattle.std.proofs.Common.{◌≡◌, ℕ, ◌+◌, ◌<◌, ◌≤◌, Bool, true, false, ◌&&◌, List, [], ◌∷◌, ◌++◌, Option, Some, None, Result, drop, get_or, length, refl, sym, ap, ◌∙◌, subst, arith, append_assoc}
use Rattle.std.specs.Prelude.{IfOk}
use Rattle.std.proofs.Math.ListN.{drop_of_length-le}
use Rattle.std.proofs.lemmas.List.{drop_more}
use Rattle.std.proofs.lemmas.Result.{IfOk-weaker}
use Rattle.st_tree.specs.declared.graph.StNode.{StNode}
use Rattle.st_tree.specs.declared.program.Stmt.{Stmt}
use Rattle.stl_tree.specs.Flows.{IsSegment}
use Rattle.graph_rules.specs.Flow.{flow_of}
use Rattle.graph_rules.specs.Plain.{AreSettings}
use Rattle.nesting_laws.specs.Plans.{IsPlanOf, Plan, levels}
use Rattle.nesting_laws.specs.Splitting.{MaySplit}
use Rattle.region_laws.specs.Regions.{text_of}
use Rattle.segment_plans.specs.Counts.{is_reached, last_of}
use Rattle.segment_plans.specs.Known.{AreKnown}
use Rattle.segment_plans.specs.declared.blocks.Blocks.{Blocks}
use Rattle.unit_regions.specs.MadeCharts.{ending_of, text_between}
use Rattle.unit_regions.specs.UnitCharts.{blocks_between}
use Rattle.unit_regions.specs.UnitCounts.{one_without}
use Rattle.unit_regions.specs.UnitRegion.{dispatch_region, place_of, region_by}
use Rattle.nesting_laws.proofs.Plannings.{nested_by_paths_is_planned}
use Rattle.unit_regions.proofs.Flowing.{is_flow}
use Rattle.unit_regions.proofs.Texts.{text_ends, text_goes_on, text_stops}
use Rattle.dispatch_loops.specs.Charted.{chart_in}
use Rattle.plan_texts.specs.PlanTexts.{IsWritten}
use Rattle.restructure.specs.inner.Writing.{AreSegments, IsKnownUnit, IsNext, IsTextOf, IsUnitText}
use Rattle.restructure.specs.declared.structured.Structured.{Structured}
use Rattle.restructure.proofs.Units.{are_settings, past_within}

-- Tests

pub both : (a b : Bool) → a ≡ true → b ≡ true → (a && b) ≡ true
both a b e f = ap (λ (x : Bool). x && b) e ∙ f

pub not_first : (a b : Bool) → a ≡ false → (a && b) ≡ false
not_first a b e = ap (λ (x : Bool). x && b) e

pub not_second : (a b : Bool) → b ≡ false → (a && b) ≡ false
not_second true b e = e
not_second false b e = refl

-- The end word

pub known_settings : (all : List StNode) (blocks : Blocks) (ending : List Stmt) → IsKnownUnit all blocks ending → AreSettings ending
known_settings all blocks ending unit = subst AreSettings (sym unit.last) (are_settings all unit.plain.plain)

-- One segment

-- a segment that may be split is written by its plan
pub by_plan : {E : Type 0} (all : List StNode) (blocks : Blocks) (ending : List Stmt) (selector first past : ℕ) (old new : Structured) (left : List StNode)
    (r : Result Bool E) → new.selectors ≡ old.selectors → IsKnownUnit all blocks ending → IsSegment (blocks_between all first past)
    → MaySplit (blocks_between all first past)
    → ((plan : Plan) → length all ≤ 32769 → AreKnown (flow_of all) blocks → ending ≡ ending_of all → past ≤ length all
    → IsSegment (blocks_between all first past) → IsPlanOf (blocks_between all first past) plan → levels plan ≤ 64
    → (next : ℕ) → IfOk r (IsWritten all past next (region_by (chart_in all blocks) first past (Some plan)) left old.body new.body))
    → IfOk r (λ falls. (left ≡ drop past all) × IsNext all blocks selector first past old new falls)
by_plan all blocks ending selector first past old new left r count unit segment split written =
    let (plan, is, low) = nested_by_paths_is_planned (blocks_between all first past) (is_flow all unit.plain.plain) segment split.0 in
    IfOk-weaker r (IsWritten all past selector (region_by (chart_in all blocks) first past (Some plan)) left old.body new.body)
    (λ falls. (left ≡ drop past all) × IsNext all blocks selector first past old new falls)
    (λ falls w. (
      w.nodes,
      record {
        plan = Some plan;
        planned = (split, is);
        body = w.text;
        selectors = omega (arith, count);
        off = w.falls;
      },
    ))
    (written plan unit.plain.few unit.known unit.last (past_within all first past segment) segment is low selector)

-- any other is a loop over the selector
pub by_turns : (all : List StNode) (blocks : Blocks) (selector first past : ℕ) (old new : Structured)
    → (MaySplit (blocks_between all first past) → ⊥)
    → new.body ≡ old.body ++ text_of selector (dispatch_region (chart_in all blocks) first past (place_of (chart_in all blocks) past))
    → new.selectors ≡ old.selectors + 1 → IsNext all blocks selector first past old new true
by_turns all blocks selector first past old new other body count = record {
  plan = None;
  planned = other;
  body = body;
  selectors = count;
  off = refl;
}

-- All segments

-- the segments before one, of whose text the rest is that of the unit
pub record IsBegun (all : List StNode) (blocks : Blocks) (selector : ℕ) (cuts rest : List ℕ) (first : ℕ) (left : List StNode) (made : Structured)
    : Type 0 where
  pub there : left ≡ drop first all
  pub few : made.selectors ≤ first
  pub segments : AreSegments all first rest
  pub text : (body : List Stmt) (loops : ℕ) → IsTextOf all blocks selector first rest body loops
      → IsTextOf all blocks selector 0 cuts (made.body ++ body) (made.selectors + loops)

pub nothing_yet : (all : List StNode) (blocks : Blocks) (selector : ℕ) (cuts : List ℕ) (made : Structured) → AreSegments all 0 cuts → made.body ≡ []
    → made.selectors ≡ 0 → IsBegun all blocks selector cuts cuts 0 all made
nothing_yet all blocks selector cuts made segments body count = record {
  there = refl;
  few = omega (arith, count);
  segments = segments;
  text = λ more loops is.
      let same : loops ≡ made.selectors + loops = omega (arith, count) in
      subst (λ n. IsTextOf all blocks selector 0 cuts (made.body ++ more) n) same
      (subst (λ (xs : List Stmt). IsTextOf all blocks selector 0 cuts (xs ++ more) loops) (sym body) is);
}

module _ (all : List StNode) (blocks : Blocks) (selector : ℕ) (cuts : List ℕ) (first : ℕ) (left : List StNode) (old new : Structured) where
  -- what is made with one more segment is the text of the unit, where the rest is nothing
  whole : (past : ℕ) (rest : List ℕ) (falls : Bool) → IsBegun all blocks selector cuts rest first left old
      → (next : IsNext all blocks selector first past old new falls)
      → IsTextOf all blocks selector first rest (text_between all (is_reached blocks) (last_of blocks) selector first past next.plan) (one_without next.plan)
      → IsUnitText all blocks selector cuts new
  whole past rest falls written next is =
      subst (λ n. IsTextOf all blocks selector 0 cuts new.body n) (sym next.selectors)
      (subst (λ (xs : List Stmt). IsTextOf all blocks selector 0 cuts xs (old.selectors + one_without next.plan)) (sym next.body)
      (written.text (text_between all (is_reached blocks) (last_of blocks) selector first past next.plan) (one_without next.plan) is))

  one_more : (plan : Option Plan) → one_without plan ≤ 1
  one_more None = omega arith
  one_more (Some plan) = omega arith

  -- the segment up to a cut, with others after it
  further : (past : ℕ) (rest : List ℕ) (falls : Bool) (now : List StNode) → IsBegun all blocks selector cuts (past ∷ rest) first left old
      → IsNext all blocks selector first past old new falls → now ≡ drop past all → (is_reached blocks past && falls) ≡ true
      → IsBegun all blocks selector cuts rest past now new
  further past rest falls now written next there more = record {
    there = there;
    few =
        let some : first < past = written.segments.0.some in let low : old.selectors ≤ first = written.few in
        let one : one_without next.plan ≤ 1 = one_more next.plan in
        let count : new.selectors ≡ old.selectors + one_without next.plan = next.selectors in
        omega (arith, some, low, one, count);
    segments = written.segments.1;
    text = λ body loops is.
        let count : new.selectors ≡ old.selectors + one_without next.plan = next.selectors in
        let same : old.selectors + (one_without next.plan + loops) ≡ new.selectors + loops = omega (arith, count) in
        subst (λ n. IsTextOf all blocks selector 0 cuts (new.body ++ body) n) same
        (subst (λ (xs : List Stmt). IsTextOf all blocks selector 0 cuts xs (old.selectors + (one_without next.plan + loops)))
        (sym (ap (λ (xs : List Stmt). xs ++ body) next.body
        ∙ append_assoc old.body (text_between all (is_reached blocks) (last_of blocks) selector first past next.plan) body))
        (written.text (text_between all (is_reached blocks) (last_of blocks) selector first past next.plan ++ body) (one_without next.plan + loops)
        (text_goes_on all (is_reached blocks) (last_of blocks) selector first past rest next.plan body loops next.planned
        (ap (λ (b : Bool). is_reached blocks past && b) (sym next.off) ∙ more) is)));
  }

  -- the last segment
  pub ends : (index count : ℕ) (falls : Bool) (now : List StNode) → length cuts ≤ index → IsBegun all blocks selector cuts (drop index cuts) first left old
      → count ≡ length all
      → (IsSegment (blocks_between all first count) → left ≡ drop first all → (now ≡ drop count all) × IsNext all blocks selector first count old new falls)
      → IsUnitText all blocks selector cuts new
  ends index count falls now over before same made =
      let written = subst (λ (rest : List ℕ). IsBegun all blocks selector cuts rest first left old) (drop_of_length-le cuts over) before in
      let next = subst (λ n. IsNext all blocks selector first n old new falls) same
      (made (subst (λ n. IsSegment (blocks_between all first n)) (sym same) written.segments) written.there).1 in
      whole (length all) [] falls written next (text_ends all (is_reached blocks) (last_of blocks) selector first next.plan next.planned)

  module _ (index : ℕ) (falls : Bool) (now : List StNode) (inside : index < length cuts)
      (before : IsBegun all blocks selector cuts (drop index cuts) first left old)
      (made : IsSegment (blocks_between all first (get_or cuts index 0)) → left ≡ drop first all
      → (now ≡ drop (get_or cuts index 0) all) × IsNext all blocks selector first (get_or cuts index 0) old new falls) where
    written : IsBegun all blocks selector cuts (get_or cuts index 0 ∷ drop (index + 1) cuts) first left old
    written = subst (λ (rest : List ℕ). IsBegun all blocks selector cuts rest first left old) (drop_more cuts index 0 inside) before

    done : (now ≡ drop (get_or cuts index 0) all) × IsNext all blocks selector first (get_or cuts index 0) old new falls
    done = made written.segments.0 written.there

    -- the segment up to a cut, behind which nothing is written
    pub stops : (is_reached blocks (get_or cuts index 0) && falls) ≡ false → IsUnitText all blocks selector cuts new
    stops none =
        whole (get_or cuts index 0) (get_or cuts index 0 ∷ drop (index + 1) cuts) falls written done.1
        (text_stops all (is_reached blocks) (last_of blocks) selector first (get_or cuts index 0) (drop (index + 1) cuts) done.1.plan done.1.planned
        (ap (λ (b : Bool). is_reached blocks (get_or cuts index 0) && b) (sym done.1.off) ∙ none))

    -- or with others after it
    pub goes_on : (is_reached blocks (get_or cuts index 0) && falls) ≡ true
        → IsBegun all blocks selector cuts (drop (index + 1) cuts) (get_or cuts index 0) now new
    goes_on more = further (get_or cuts index 0) (drop (index + 1) cuts) falls now written done.1 done.0 more

-- The region of a unit uses `NEXT` only where a segment has no plan, and sets it to positions of nodes.
use Rattle.std.proofs.Common.{◌≡◌, ◌≢◌, ⊎_elim, ℕ, zero, suc, ◌-◌, ◌<◌, ◌≤◌, ◌==◌, Bool, true, List, [], ◌∷◌, ◌++◌, append_assoc, length, slice_get, Option, Some, None, refl, sym, subst, arith}
use Rattle.std.specs.Prelude.{All}
use Rattle.std.proofs.lemmas.Bool.{and_parts, cond_both}
use Rattle.std.proofs.lemmas.List.Elements.{All-head, All-tail}
use Rattle.st_tree.specs.GraphRun.{entry_or}
use Rattle.st_tree.specs.declared.graph.StExit.{StExit}
use Rattle.st_tree.specs.declared.graph.StExit.TheVariants as exit
use Rattle.st_tree.specs.declared.graph.StNode.{StNode}
use Rattle.st_tree.specs.declared.program.Stmt.{Stmt}
use Rattle.stl_tree.specs.Segments.{AreCuts}
use Rattle.stl_tree.specs.Flows.{blocks_of}
use Rattle.graph_rules.specs.Flow.{flow_of}
use Rattle.graph_rules.specs.Plain.{LeadsInside}
use Rattle.nesting_laws.specs.Plans.{Plan, no_loop}
use Rattle.region_laws.specs.Regions.{Place, Region, again, choose, cycle, ended, fork, leaves, node, off, quit, selector, table, turn_to}
use Rattle.region_plans.specs.PlanRegion.{Chart, is_out}
use Rattle.region_plans.specs.RegionCounts.{IsSimple}
use Rattle.region_plans.proofs.Counting.{part_is_flat}
use Rattle.region_types.specs.UsesNext.{UsesNext}
use Rattle.unit_regions.specs.MadeCharts.{ArePlain}
use Rattle.unit_regions.specs.UnitCharts.{AreInRow, IsCutUp}
use Rattle.unit_regions.specs.UnitCounts.{loops_of, one_without}
use Rattle.unit_regions.specs.UnitRegion.{Section, arm_region, dispatch_region, falls_off, followed_by, lead_to, node_region, place_of, reached_from, region_by, section_region, unit_region}
use Rattle.unit_regions.proofs.Cutting.{segments}
use Rattle.unit_regions.proofs.Dispatch.{has, is_label}

module _ (has_next : Bool) (many : ℕ) where
  abbrev Uses : Region → Type 0
  Uses r = UsesNext has_next many r

  simple_uses : (r : Region) → IsSimple r → Uses r
  simple_uses off is = tt
  simple_uses leaves is = tt
  simple_uses again is = tt
  simple_uses ended is = tt
  simple_uses (node steps rest) is = simple_uses rest is
  simple_uses (fork steps e there behind join rest) is = (simple_uses there is.0, simple_uses behind is.1, simple_uses rest is.2)
  simple_uses (quit steps e rest) is = simple_uses rest is
  simple_uses (table steps e count arms join rest) is = absurd is
  simple_uses (choose steps e targets nodes arms other join rest) is =
      ((λ j l. simple_uses (arms j) (is.0 j)), simple_uses other is.1, simple_uses rest is.2)
  simple_uses (cycle body behind rest) is = (simple_uses body is.0, simple_uses rest is.1)
  simple_uses (turn_to j rest) is = absurd is
  simple_uses (selector labels arms behind rest) is = absurd is

  followed_uses : (r more : Region) → Uses r → Uses more → Uses (followed_by r more)
  followed_uses off more u v = v
  followed_uses leaves more u v = tt
  followed_uses again more u v = tt
  followed_uses ended more u v = tt
  followed_uses (node steps rest) more u v = followed_uses rest more u v
  followed_uses (fork steps e there behind join rest) more u v = (u.0, u.1, followed_uses rest more u.2 v)
  followed_uses (quit steps e rest) more u v = followed_uses rest more u v
  followed_uses (table steps e count arms join rest) more u v = (u.0, followed_uses rest more u.1 v)
  followed_uses (choose steps e targets nodes arms other join rest) more u v = (u.0, u.1, followed_uses rest more u.2 v)
  followed_uses (cycle body behind rest) more u v = (u.0, followed_uses rest more u.1 v)
  followed_uses (turn_to j rest) more u v = (u.0, u.1, followed_uses rest more u.2 v)
  followed_uses (selector labels arms behind rest) more u v = (u.0, u.1, u.2, followed_uses rest more u.3 v)

-- Dispatch loops

entry_inside : (many last : ℕ) → last < many → (targets : List ℕ) → All (λ (j : ℕ). j < many) targets → (n : ℕ)
    → entry_or (slice_get targets n) last < many
entry_inside many last x [] all n = x
entry_inside many last x (t ∷ targets) all zero = All-head (λ (j : ℕ). j < many) t targets all
entry_inside many last x (t ∷ targets) all (suc n) = entry_inside many last x targets (All-tail (λ (j : ℕ). j < many) t targets all) n

some_label : (n : ℕ) (labels : List ℕ) → has n labels ≡ true → labels ≢ []
some_label n [] h e = absurd cc
some_label n (label ∷ labels) h e = absurd cc

module _ (many : ℕ) (first past : ℕ) (follow : Place) where
  lead_uses : (t : ℕ) → t < many → UsesNext true many (lead_to past t)
  lead_uses t x = cond_both (t == past) leaves (turn_to t off) (λ r. UsesNext true many r) (λ e. tt) (λ e. (refl, x, tt))

  arm_uses : (i : ℕ) (steps : List Stmt) (x : StExit) → LeadsInside many i x → UsesNext true many (arm_region first past follow i steps x)
  arm_uses i steps exit.Fall is = lead_uses (suc i) is
  arm_uses i steps (exit.Jump t) is = lead_uses t is
  arm_uses i steps (exit.Branch e t) is = (lead_uses t is.1, lead_uses (suc i) is.0, tt)
  arm_uses i steps (exit.EndIf e) is = lead_uses (suc i) is
  arm_uses i steps (exit.Table e targets last) is =
      ((λ n l. lead_uses (entry_or (slice_get targets n) last) (entry_inside many last is.4 targets is.2 n)), tt)
  arm_uses i steps exit.End is = cond_both (is_out follow) leaves ended (λ r. UsesNext true many r) (λ e. tt) (λ e. tt)

  node_uses : (i : ℕ) (o : Option StNode) → ((n : StNode) → o ≡ Some n → LeadsInside many i n.exit)
      → UsesNext true many (node_region first past follow i o)
  node_uses i None is = tt
  node_uses i (Some n) is = arm_uses i n.steps n.exit (is n refl)

-- Units

module _ (c : Chart) (all : List ℕ) (ok : IsCutUp c.unit.nodes c.unit.reached all) (plain : ArePlain c.unit.nodes) where
  loop_uses : (first past : ℕ) → first < past → c.unit.reached first ≡ true
      → UsesNext true (length c.unit.nodes) (dispatch_region c first past (place_of c past))
  loop_uses first past some r = (
    refl,
    ok.there first r,
    (
      refl,
      some_label first (reached_from c.unit.reached first (past - first))
          (is_label c.unit.reached first (past - first) first (omega arith) (omega arith) r),
      (λ i h. node_uses (length c.unit.nodes) first past (place_of c past) i (slice_get c.unit.nodes i) (λ n e. (plain i n e).exit)),
      tt,
    ),
  )

  module _ (P : ℕ → ℕ → Option Plan → Type 0) (has_next : Bool) where
    region_uses : (first past : ℕ) (plan : Option Plan) → first < past → c.unit.reached first ≡ true
        → (1 ≤ one_without plan → has_next ≡ true) → UsesNext has_next (length c.unit.nodes) (region_by c first past plan)
    region_uses first past None some r given =
        subst (λ (flag : Bool). UsesNext flag (length c.unit.nodes) (region_by c first past None)) (sym (given (omega arith)))
        (loop_uses first past some r)
    region_uses first past (Some plan) some r given =
        simple_uses has_next (length c.unit.nodes) (region_by c first past (Some plan))
        (part_is_flat c plan first past (place_of c past) no_loop).0

    section_uses : (b past : ℕ) (s : Section) → s.first ≡ b → s.past ≡ past → b < past → c.unit.reached b ≡ true
        → (1 ≤ one_without s.plan → has_next ≡ true) → UsesNext has_next (length c.unit.nodes) (section_region c s)
    section_uses b past s e f some r given =
        region_uses s.first s.past s.plan (omega arith) (subst (λ b. c.unit.reached b ≡ true) (sym e) r) given

    pub uses_from : (done : List ℕ) (b : ℕ) (cuts : List ℕ) (sections : List Section) → AreCuts (blocks_of (flow_of c.unit.nodes)) (done ++ b ∷ cuts)
        → AreInRow P c b cuts sections → c.unit.reached b ≡ true → (1 ≤ loops_of sections → has_next ≡ true)
        → UsesNext has_next (length c.unit.nodes) (unit_region c sections)
    uses_from done b cuts [] points are r given = absurd are
    uses_from done b [] (s ∷ rest) points (e, f, written, none) r given =
        followed_uses has_next (length c.unit.nodes) (section_region c s) (unit_region c rest)
        (section_uses b (length c.unit.nodes) s e f (segments c done b [] points).some r (λ x. given (omega arith)))
        (subst (λ rest. UsesNext has_next (length c.unit.nodes) (unit_region c rest)) (sym none) tt)
    uses_from done b (cut ∷ cuts) (s ∷ rest) points (e, f, written, more) r given =
        followed_uses has_next (length c.unit.nodes) (section_region c s) (unit_region c rest)
        (section_uses b cut s e f (segments c done b (cut ∷ cuts) points).some r (λ x. given (omega arith)))
        (⊎_elim
        (λ (n, none). subst (λ rest. UsesNext has_next (length c.unit.nodes) (unit_region c rest)) (sym none) tt)
        (λ (y, are). uses_from (done ++ b ∷ []) cut cuts rest
        (subst (λ cuts. AreCuts (blocks_of (flow_of c.unit.nodes)) cuts) (sym (append_assoc done (b ∷ []) (cut ∷ cuts))) points) are
        (and_parts (c.unit.reached cut) (falls_off (section_region c s)) y).0 (λ x. given (omega arith))) more)

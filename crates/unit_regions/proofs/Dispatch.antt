-- A dispatch loop fits every segment.
use Rattle.std.proofs.Common.{◌≡◌, ◌⊎◌, inl, inr, ⊎_elim, ℕ, zero, suc, ◌+◌, ◌-◌, ◌<◌, ◌≤◌, ◌==◌, Bool, true, false, List, [], ◌∷◌, length, slice_get, Some, refl, sym, ap, ◌∙◌, subst, arith}
use Rattle.std.specs.List.{list_any}
use Rattle.std.proofs.lemmas.Bool.{both_ways, cases_eq, cases_lt, cond_both, eq-eqb, eqb-true, or_cases, or_left, or_right}
use Rattle.st_tree.specs.GraphRun.{entry_or}
use Rattle.st_tree.specs.declared.graph.StExit.{StExit}
use Rattle.st_tree.specs.declared.graph.StExit.TheVariants as exit
use Rattle.st_tree.specs.declared.graph.StNode.{StNode}
use Rattle.st_tree.specs.declared.program.Stmt.{Stmt}
use Rattle.stl_tree.specs.Blocks.{always, if_made, on, one_of, unless_ended}
use Rattle.stl_tree.specs.Segments.{IsOneOf}
use Rattle.stl_tree.specs.Flows.{GoesOn, IsSegment, Segment}
use Rattle.graph_rules.specs.Flow.{way_by}
use Rattle.nesting_laws.specs.Plans.{LeadsTo}
use Rattle.region_laws.specs.Regions.{Around, Fits, IsNode, Mark, Place, arm_of, at, inside, is_arm, leaves, ended, loop_head, no_loop, off, out, selected, turn_to, unmarked}
use Rattle.region_plans.specs.PlanRegion.{Chart, is_out}
use Rattle.unit_regions.specs.UnitCharts.{IsCutUp, IsDispatched, segment_of}
use Rattle.unit_regions.specs.UnitLaws.{DispatchFits}
use Rattle.unit_regions.specs.UnitRegion.{arm_region, dispatch_region, lead_out, lead_to, node_region, place_if, place_of, reached_from}
use Rattle.unit_regions.proofs.Cutting.{is_reached, node_goes, stay}

-- Labels

same_truth : (a b : Bool) → (a ≡ true → b ≡ true) → (b ≡ true → a ≡ true) → a ≡ b
same_truth true b f g = sym (f refl)
same_truth false true f g = g refl
same_truth false false f g = refl

arm_is : (k : ℕ) (m : Mark) → is_arm k m ≡ true → m ≡ arm_of k
arm_is k unmarked e = absurd cc
arm_is k loop_head e = absurd cc
arm_is k (arm_of j) e = ap arm_of (eqb-true j k e)

is_its_arm : (k : ℕ) (m : Mark) → m ≡ arm_of k → is_arm k m ≡ true
is_its_arm k m e = ap (is_arm k) e ∙ eq-eqb k k refl

-- a number is one of the labels
abbrev pub has : ℕ → List ℕ → Bool
has n labels = list_any (λ (label : ℕ). label == n) labels

module _ (reached : ℕ → Bool) (n : ℕ) where
  label_is : (k first : ℕ) → has n (reached_from reached first k) ≡ true → (first ≤ n) × (n < first + k) × (reached n ≡ true)
  label_is zero first h = absurd cc
  label_is (suc k) first h = by (λ o. label_is k (suc first) o)
    where
      R : List ℕ
      R = reached_from reached (suc first) k

      by : (has n R ≡ true → (suc first ≤ n) × (n < suc first + k) × (reached n ≡ true))
          → (first ≤ n) × (n < first + suc k) × (reached n ≡ true)
      by more = cond_both (reached first) (first ∷ R) R
          (λ (labels : List ℕ). has n labels ≡ true → (first ≤ n) × (n < first + suc k) × (reached n ≡ true))
          (λ r o. ⊎_elim
          (λ s. let e = eqb-true first n s in (omega arith, omega arith, subst (λ b. reached b ≡ true) e r))
          (λ s. later (more s)) (or_cases (first == n) (has n R) o))
          (λ r o. later (more o)) h
        where
          later : (suc first ≤ n) × (n < suc first + k) × (reached n ≡ true) → (first ≤ n) × (n < first + suc k) × (reached n ≡ true)
          later m = (omega (arith, m.0), omega (arith, m.1), m.2)

  pub is_label : (k first : ℕ) → first ≤ n → n < first + k → reached n ≡ true → has n (reached_from reached first k) ≡ true
  is_label zero first x y r = absurd (omega arith)
  is_label (suc k) first x y r =
      by (λ o. is_label k (suc first) (⊎_elim (λ z. z) (λ z. absurd (o (omega arith))) (cases_lt first n)) (omega arith) r)
    where
      R : List ℕ
      R = reached_from reached (suc first) k

      by : ((first ≡ n → ⊥) → has n R ≡ true) → has n (reached_from reached first (suc k)) ≡ true
      by behind = cond_both (reached first) (first ∷ R) R (λ (labels : List ℕ). has n labels ≡ true)
          (λ s. ⊎_elim (λ e. or_left (first == n) (has n R) (eq-eqb first n e)) (λ o. or_right (first == n) (has n R) (behind o)) (cases_eq first n))
          (λ s. ⊎_elim (λ e. absurd (both_ways (reached n) (subst (λ b. reached b ≡ false) e s) r)) (λ o. behind o) (cases_eq first n))

-- Nodes

pub node_there : (nodes : List StNode) (b : ℕ) → b < length nodes → (n : StNode) × (slice_get nodes b ≡ Some n)
node_there [] b x = absurd (omega arith)
node_there (n ∷ nodes) zero x = (n, refl)
node_there (n ∷ nodes) (suc b) x = node_there nodes b (omega arith)

-- an entry of a table is one of the blocks to which the table leads
pub entry_in : (targets : List ℕ) (last n : ℕ) → IsOneOf (entry_or (slice_get targets n) last) (last ∷ targets)
entry_in targets last n =
    ⊎_elim (λ (e : entry_or (slice_get targets n) last ≡ last). inl e) (λ (o : IsOneOf (entry_or (slice_get targets n) last) targets). inr o)
    (by targets n)
  where
    by : (targets : List ℕ) (n : ℕ) → (entry_or (slice_get targets n) last ≡ last) ⊎ IsOneOf (entry_or (slice_get targets n) last) targets
    by [] n = inl refl
    by (j ∷ targets) zero = inr (inl refl)
    by (j ∷ targets) (suc n) =
        ⊎_elim (λ (e : entry_or (slice_get targets n) last ≡ last). inl e)
        (λ (o : IsOneOf (entry_or (slice_get targets n) last) targets). inr (inr o)) (by targets n)

out_at : (p : Place) → is_out p ≡ true → out ≡ p
out_at (at f) e = absurd cc
out_at out e = refl
out_at (selected k) e = absurd cc

module _ (c : Chart) (cuts : List ℕ) (ok : IsCutUp c.unit.nodes c.unit.reached cuts) (first past : ℕ) (is : IsSegment (segment_of c first past))
    (d : IsDispatched c first past) where
  abbrev G : Segment
  G = segment_of c first past

  abbrev Follow : Place
  Follow = place_of c past

  abbrev Turns : Around
  Turns = inside (selected first) Follow

  lead_fits : (b t : ℕ) → LeadsTo G b t → Fits c.unit false (lead_to past t) (at t) (selected first) Turns
  lead_fits b t lead =
      let r = is_reached c cuts ok first past b t lead in let s = stay c cuts ok first past is b t lead in
      cond_both (t == past) leaves (turn_to t off) (λ r. Fits c.unit false r (at t) (selected first) Turns)
      (λ q. let e = eqb-true t past q in
      (refl, ap at e ∙ sym (ap (λ (flag : Bool). place_if flag past) (subst (λ t. c.unit.reached t ≡ true) e r))))
      (λ q. (first, refl, refl, d.arm t s.0 (before_past t s.1 q) r, (refl, refl)))
    where
      before_past : (t : ℕ) → t ≤ past → t == past ≡ false → t < past
      before_past t x q = ⊎_elim (λ z. z) (λ z. absurd (both_ways (t == past) q (eq-eqb t past (omega arith)))) (cases_lt t past)

  out_fits : Fits c.unit false (lead_out Follow) out (selected first) Turns
  out_fits = cond_both (is_out Follow) leaves ended (λ r. Fits c.unit false r out (selected first) Turns)
      (λ e. (refl, out_at Follow e)) (λ e. (refl, refl))

  exit_fits : (b : ℕ) (steps : List Stmt) (x : StExit) → IsNode c.unit true b steps x → GoesOn G b (way_by x)
      → Fits c.unit true (arm_region first past Follow b steps x) (at b) (selected first) Turns
  exit_fits b steps exit.Fall here goes =
      (b, exit.Fall, at (suc b), refl, here, refl, lead_fits b (suc b) (on, goes, inr (refl, refl)))
  exit_fits b steps (exit.Jump t) here goes =
      (b, exit.Jump t, at t, refl, here, refl, lead_fits b t (always t, goes, inl (inl refl)))
  exit_fits b steps (exit.Branch e t) here goes =
      (b, t, refl, here, lead_fits b t (if_made t, goes, inl (inl refl)), lead_fits b (suc b) (if_made t, goes, inr (refl, refl)), (refl, refl))
  exit_fits b steps (exit.EndIf e) here goes =
      (b, refl, here, lead_fits b (suc b) (unless_ended, goes, inr (refl, refl)))
  exit_fits b steps (exit.Table e targets last) here goes = (
    b,
    targets,
    last,
    refl,
    here,
    refl,
    (λ n x. lead_fits b (entry_or (slice_get targets n) last) (one_of targets last, goes, inl (entry_in targets last n))),
    (refl, refl),
  )
  exit_fits b steps exit.End here goes = (b, exit.End, out, refl, here, refl, out_fits)

  arm_fits : (b : ℕ) → first ≤ b → b < past → c.unit.reached b ≡ true
      → Fits c.unit true (node_region first past Follow b (slice_get c.unit.nodes b)) (at b) (selected first) Turns
  arm_fits b x y r =
      let (n, e) = node_there c.unit.nodes b (ok.there b r) in
      subst (λ o. Fits c.unit true (node_region first past Follow b o) (at b) (selected first) Turns) (sym e)
      (exit_fits b n.steps n.exit (record { reached = r; node = n; there = e; steps_are = refl; exit_is = refl; free = tt })
      (node_goes c cuts ok first past b n x y r e))

  labels_are : (n : ℕ) → has n (reached_from c.unit.reached first (past - first)) ≡ is_arm first (c.unit.marks n)
  labels_are n =
      let some : first < past = is.some in
      same_truth (has n (reached_from c.unit.reached first (past - first))) (is_arm first (c.unit.marks n))
      (λ h. let m = label_is c.unit.reached n (past - first) first h in
      is_its_arm first (c.unit.marks n) (d.arm n m.0 (omega (arith, m.1)) m.2))
      (λ h. let m = d.only n (arm_is first (c.unit.marks n) h) in
      is_label c.unit.reached n (past - first) first m.0 (omega (arith, m.1)) m.2)

  pub fits : c.unit.reached first ≡ true → Fits c.unit false (dispatch_region c first past Follow) (at first) Follow no_loop
  fits r = (
    first,
    refl,
    refl,
    d.arm first (omega arith) is.some r,
    (
      first,
      refl,
      refl,
      labels_are,
      (λ n e. let m = d.only n e in arm_fits n m.0 m.1 m.2),
      (refl, refl),
    ),
  )

pub dispatch_fits : DispatchFits
dispatch_fits c cuts first past ok is d r = fits c cuts ok first past is d r

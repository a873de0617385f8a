-- All blocks of a segment right before arms of jump lists end arms, exactly where it is seen so.
use Rattle.std.proofs.Common.{◌≡◌, ◌⊎◌, ℕ, zero, suc, ◌+◌, ◌-◌, ◌<◌, ◌≤◌, Bool, true, false, not, ◌&&◌, ◌||◌, ◌==◌, List, ◌∷◌, Option, Some, None, get_or, length, slice_get, inl, inr, ⊎_elim, refl, sym, ap, subst, ◌∙◌, arith}
use Rattle.std.specs.Bool.{Decides}
use Rattle.std.specs.List.{list_all}
use Rattle.std.specs.Prelude.{nat_le}
use Rattle.std.proofs.lemmas.Bool.{cases_lt}
use Rattle.std.proofs.lemmas.Bool.Decides.{Decides-and, Decides-eqb, Decides-like, Decides-or}
use Rattle.std.proofs.lemmas.Option.{none-some, slice_get-get_or}
use Rattle.nesting_laws.specs.PlanLaws.{IsFlow, IsNested}
use Rattle.nesting_laws.proofs.Exits.{jump_leads}
use Rattle.nesting_laws.proofs.Facts.{facts_of}
use Rattle.nesting_laws.proofs.Lists.{label_target, same_case_end}
use Rattle.stl_tree.specs.Blocks.{Way, always, if_made, on, one_of, stops, unless_ended}
use Rattle.stl_tree.specs.Segments.{IsOneOf, IsReached}
use Rattle.stl_tree.specs.Flows.{IsExitJump, IsList, IsSegment, Segment, blocks_of}
use Rattle.stl_tree.specs.WellNested.{EndsArm, HasClosedArms, IsCaseEnd, IsTarget}
use Rattle.flow_graph.specs.declared.graph.Exit.{Exit}
use Rattle.flow_graph.specs.declared.graph.Exit.TheVariants as exit
use Rattle.segment_plans.specs.Arms.{listed, targets_at}
use Rattle.segment_plans.specs.Counts.{is_end, is_reached}
use Rattle.segment_plans.specs.Known.{AreKnown}
use Rattle.segment_plans.specs.declared.blocks.Blocks.{Blocks}
use Rattle.segment_plans.specs.inner.Spans.{all_closed, are_all_closed, are_closed, closed_by, closes_arm, ends_arm_by, inner_at, inner_loops, innermost, left_by, list_end, stack}
use Rattle.segment_plans.proofs.ListEnds.{case_end_is}
use Rattle.segment_plans.proofs.Plain.{around_is, exits_by, kept}
use Rattle.segment_plans.proofs.Site.{IsSite, decides_le, site_of}
use Rattle.segment_plans.proofs.Stack.{inner_is}
use Rattle.segment_plans.proofs.Targets.{all_is, list_exit, target_in, target_of}
use Rattle.segment_plans.proofs.Ways.{end_block, same_way, way_at}

-- What the code keeps

pub closed_step : (blocks : Blocks) (inner : List (Option ℕ)) (first at past : ℕ) (e : Bool) → at < past → are_closed blocks inner first at ≡ true
    → all_closed blocks inner first at (past - at) ≡ e → all_closed blocks inner first (at + 1) (past - (at + 1)) ≡ e
closed_step blocks inner first at past e low is all =
    let n : past - at ≡ suc (past - (at + 1)) = omega (arith, low) in
    let m : suc at ≡ at + 1 = omega arith in
    subst (λ k. all_closed blocks inner first k (past - (at + 1)) ≡ e) m
    (subst (λ b. (b && all_closed blocks inner first (suc at) (past - (at + 1))) ≡ e) is
    (subst (λ k. all_closed blocks inner first at k ≡ e) n all))

-- One block

-- the block before a target, if that is not the list, ends an arm
abbrev ClosesArm : Segment → ℕ → ℕ → ℕ → Type 0
ClosesArm g x e t = (t ≡ x + 1) ⊎ ((way : Way) → slice_get g.flow.ways (t - 1) ≡ Some way → EndsArm g e (t - 1) way)

module _ (g : Segment) (blocks : Blocks) (site : IsSite g blocks) (e b : ℕ) (o : Option ℕ)
    (exits : (v : ℕ) → Decides (left_by o v) (IsExitJump g b v)) where
  abbrev Ends : Type 0
  Ends = (way : Way) → slice_get g.flow.ways b ≡ Some way → EndsArm g e b way

  by_way : (w : Way) → slice_get g.flow.ways b ≡ Some w → EndsArm g e b w → Ends
  by_way w at h way f = subst (EndsArm g e b) (same_way g b w way at f) h

  never : (w : Way) → slice_get g.flow.ways b ≡ Some w → (EndsArm g e b w → ⊥) → Decides false Ends
  never w at n = (λ f. absurd cc, λ h. absurd (n (h w at)))

  ends_arm_is : b < length g.flow.ways → Decides (ends_arm_by blocks o e b (slice_get blocks.exits.items b)) Ends
  ends_arm_is within = by (slice_get blocks.exits.items b) refl
    where
      by : (x : Option Exit) → slice_get blocks.exits.items b ≡ x → Decides (ends_arm_by blocks o e b x) Ends
      by None f =
          let n : slice_get g.flow.ways b ≡ None = way_at g blocks site b None f in
          absurd (none-some (get_or g.flow.ways b on) (sym n ∙ slice_get-get_or g.flow.ways b on within))
      by (Some (exit.Jump t)) f =
          let at : slice_get g.flow.ways b ≡ Some (always t) = way_at g blocks site b (Some (exit.Jump t)) f in
          Decides-like ((t == e) || (nat_le t b || (left_by o t || is_end blocks t))) (λ h. by_way (always t) at h) (λ h. h (always t) at)
          (Decides-or (t == e) (nat_le t b || (left_by o t || is_end blocks t)) (Decides-eqb t e)
          (Decides-or (nat_le t b) (left_by o t || is_end blocks t) (decides_le t b)
          (Decides-or (left_by o t) (is_end blocks t) (exits t) (end_block g blocks site t))))
      by (Some exit.End) f = (λ q. by_way stops (way_at g blocks site b (Some exit.End) f) tt, λ h. refl)
      by (Some exit.Fall) f = never on (way_at g blocks site b (Some exit.Fall) f) (λ h. h)
      by (Some exit.EndIf) f = never unless_ended (way_at g blocks site b (Some exit.EndIf) f) (λ h. h)
      by (Some (exit.Branch t)) f = never (if_made t) (way_at g blocks site b (Some (exit.Branch t)) f) (λ h. h)
      by (Some (exit.Table js j)) f = never (one_of js j) (way_at g blocks site b (Some (exit.Table js j)) f) (λ h. h)

-- The segment

-- a block that has no list is known to have none
not_listed : (g : Segment) (blocks : Blocks) → IsSite g blocks → (x : ℕ) (o : Option Exit) → slice_get blocks.exits.items x ≡ o
    → ((js : List ℕ) (j : ℕ) → o ≡ Some (exit.Table js j) → ⊥) → IsList g x → ⊥
not_listed g blocks site x o f n list = n list.0 list.1 (sym f ∙ list_exit g blocks site x list.0 list.1 list.2.1)

module _ (g : Segment) (blocks : Blocks) (flow : IsFlow g.flow) (seg : IsSegment g) (known : AreKnown g.flow blocks) (nested : IsNested g) where
  site : IsSite g blocks
  site = site_of g blocks seg known

  abbrev inner : List (Option ℕ)
  inner = inner_loops blocks g.first (g.past - g.first)

  -- the innermost loop around a block, as it is kept
  abbrev top : ℕ → Option ℕ
  top b = innermost (stack blocks g.first (suc (b - g.first)))

  inner_top : (b : ℕ) → g.first ≤ b → b < g.past → inner_at inner (b - g.first) ≡ top b
  inner_top b low high = inner_is blocks g.first (g.past - g.first) (b - g.first) (omega (arith, low, high))

  abbrev End : ℕ → ℕ
  End x = list_end blocks (inner_at inner (x - g.first)) x

  case_end : (x : ℕ) → IsList g x → IsCaseEnd g x (End x)
  case_end x list = subst (λ (o : Option ℕ). IsCaseEnd g x (list_end blocks o x)) (sym (inner_top x list.2.0.low list.2.0.high))
      (case_end_is g blocks flow seg site nested x list (top x)
      (around_is g x (stack blocks g.first (suc (x - g.first))) (kept g blocks seg site nested.loops x list.2.0.low list.2.0.high)))

  size : g.past ≤ length g.flow.ways
  size = site.size

  closes_is : (x t : ℕ) → IsTarget g x t → Decides (closes_arm blocks inner g.first x (End x) t) (ClosesArm g x (End x) t)
  closes_is x t is =
      let all : g.past ≤ length g.flow.ways = size in
      let facts = facts_of g flow seg in
      let after = ((case_end x is.list).fits.after t is).0 in
      let low : g.first ≤ x = is.list.2.0.low in
      let high : t ≤ g.past = facts.leads_high x t (jump_leads g x t is.jump) in
      let b : g.first ≤ t - 1 = omega (arith, after, low) in
      let c : t - 1 < g.past = omega (arith, after, high) in
      Decides-or (t == x + 1)
      (ends_arm_by blocks (inner_at inner (t - 1 - g.first)) (End x) (t - 1) (slice_get blocks.exits.items (t - 1))) (Decides-eqb t (x + 1))
      (ends_arm_is g blocks site (End x) (t - 1) (inner_at inner (t - 1 - g.first))
      (λ v. subst (λ (o : Option ℕ). Decides (left_by o v) (IsExitJump g (t - 1) v)) (sym (inner_top (t - 1) b c))
      (exits_by g (t - 1) v (stack blocks g.first (suc (t - 1 - g.first))) (kept g blocks seg site nested.loops (t - 1) b c))) (omega (arith, c, all)))

  -- all targets of the list of a block
  abbrev ListClosed : ℕ → Type 0
  ListClosed x = (t : ℕ) → IsTarget g x t → ClosesArm g x (End x) t

  is_listed : (x : ℕ) → g.first ≤ x → x < g.past → IsReached (blocks_of g.flow) x → (o : Option Exit) → slice_get blocks.exits.items x ≡ o
      → Decides (closed_by blocks inner g.first x o) (ListClosed x)
  unfolding are_all_closed
  is_listed x low high r (Some (exit.Table js j)) f =
      let list : IsList g x = (js, j, (record { reached = r; low = low; high = high }, way_at g blocks site x (Some (exit.Table js j)) f)) in
      let same : targets_at blocks x ≡ j ∷ js = ap listed f in
      Decides-like (list_all (closes_arm blocks inner g.first x (End x)) (j ∷ js))
      (λ h t is. h t (subst (IsOneOf t) same (target_in g blocks site x list t is)))
      (λ h t o. h t (target_of g blocks site x list t (subst (IsOneOf t) (sym same) o)))
      (all_is (closes_arm blocks inner g.first x (End x)) (ClosesArm g x (End x)) (j ∷ js)
      (λ t o. closes_is x t (target_of g blocks site x list t (subst (IsOneOf t) (sym same) o))))
  is_listed x low high r None f = (λ q t is. absurd (not_listed g blocks site x None f (λ js j q. cc) is.list), λ h. refl)
  is_listed x low high r (Some exit.Fall) f = (λ q t is. absurd (not_listed g blocks site x (Some exit.Fall) f (λ js j q. cc) is.list), λ h. refl)
  is_listed x low high r (Some exit.EndIf) f = (λ q t is. absurd (not_listed g blocks site x (Some exit.EndIf) f (λ js j q. cc) is.list), λ h. refl)
  is_listed x low high r (Some exit.End) f = (λ q t is. absurd (not_listed g blocks site x (Some exit.End) f (λ js j q. cc) is.list), λ h. refl)
  is_listed x low high r (Some (exit.Jump t)) f =
      (λ q t is. absurd (not_listed g blocks site x _ f (λ js j q. cc) is.list), λ h. refl)
  is_listed x low high r (Some (exit.Branch t)) f =
      (λ q t is. absurd (not_listed g blocks site x _ f (λ js j q. cc) is.list), λ h. refl)

  are_closed_is : (x : ℕ) → g.first ≤ x → x < g.past → Decides (are_closed blocks inner g.first x) (ListClosed x)
  are_closed_is x low high = by (is_reached blocks x) (site.reached x (let all : g.past ≤ length g.flow.ways = size in omega (arith, high, all)))
    where
      by : (b : Bool) → Decides b (IsReached (blocks_of g.flow) x)
          → Decides (not b || closed_by blocks inner g.first x (slice_get blocks.exits.items x)) (ListClosed x)
      by true d = is_listed x low high (d.0 refl) (slice_get blocks.exits.items x) refl
      by false d = (λ q t is. let bad : false ≡ true = d.1 is.list.2.0.reached in absurd cc, λ h. refl)

  all_is_closed : (at count : ℕ) → g.first ≤ at → at + count ≤ g.past
      → Decides (all_closed blocks inner g.first at count) ((x : ℕ) → at ≤ x → x < at + count → ListClosed x)
  all_is_closed at zero low high = (λ q x y z. absurd (omega (arith, y, z)), λ h. refl)
  all_is_closed at (suc count) low high =
      Decides-like (are_closed blocks inner g.first at && all_closed blocks inner g.first (suc at) count)
      (λ h x y z. ⊎_elim (λ i. h.1 x i (omega (arith, z))) (λ i. subst ListClosed (let q : at ≡ x = omega (arith, y, i) in q) h.0) (cases_lt at x))
      (λ h. (h at (omega arith) (omega arith), λ x y z. h x (omega (arith, y)) (omega (arith, z))))
      (Decides-and (are_closed blocks inner g.first at) (all_closed blocks inner g.first (suc at) count)
      (are_closed_is at low (omega (arith, high))) (all_is_closed (suc at) count (omega (arith, low)) (omega (arith, high))))

  abbrev All : Type 0
  All = (x : ℕ) → g.first ≤ x → x < g.first + (g.past - g.first) → ListClosed x

  -- so it is seen whether all arms are closed
  pub closed_is : Decides (all_closed blocks inner g.first g.first (g.past - g.first)) (HasClosedArms g)
  closed_is = Decides-like (all_closed blocks inner g.first g.first (g.past - g.first)) there back
      (all_is_closed g.first (g.past - g.first) (omega arith) (let some : g.first < g.past = seg.some in omega (arith, some)))
    where
      there : All → HasClosedArms g
      there all x e b u t way case is other y z f =
          by (all x case.list.2.0.low (let h = case.list.2.0.high in let l = case.list.2.0.low in omega (arith, h, l)) t other)
        where
          same : t - 1 ≡ b
          same = omega (arith, z)

          end : End x ≡ e
          end = same_case_end (case_end x case.list) case

          by : ClosesArm g x (End x) t → EndsArm g e b way
          by (inl q) = let a = (case.fits.after u is).0 in absurd (omega (arith, q, y, a))
          by (inr h) = subst (λ n. EndsArm g n b way) end
              (subst (λ n. EndsArm g (End x) n way) same (h way (subst (λ n. slice_get g.flow.ways n ≡ Some way) (sym same) f)))

      back : HasClosedArms g → All
      back closed x low high t is = by (cases_lt (suc x) t)
        where
          case : IsCaseEnd g x (End x)
          case = case_end x is.list

          by : (suc x < t) ⊎ (t ≤ suc x) → ClosesArm g x (End x) t
          by (inl y) = inr (λ way f. closed x (End x) (t - 1) (suc x) t way case (label_target (facts_of g flow seg) x is.list) is y (omega (arith, y)) f)
          by (inr y) = let a = (case.fits.after t is).0 in inl (omega (arith, y, a))

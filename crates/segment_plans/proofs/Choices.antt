-- What is found at a block with a jump list is what a plan has there.
use Rattle.std.proofs.Common.{◌≡◌, ◌⊎◌, ℕ, suc, ◌+◌, ◌-◌, ◌<◌, ◌≤◌, Bool, true, false, not, ◌&&◌, ◌||◌, ◌==◌, Option, Some, None, cond, slice_get, inl, inr, refl, sym, subst, ◌∙◌, arith}
use Rattle.std.specs.Bool.{Decides}
use Rattle.std.specs.List.{list_all, list_any}
use Rattle.std.specs.Prelude.{nat_le, nat_lt}
use Rattle.std.proofs.lemmas.Bool.{cases_lt}
use Rattle.std.proofs.lemmas.Bool.Decides.{Decides-and, Decides-eqb, Decides-ltb, Decides-or}
use Rattle.stl_tree.specs.Blocks.{Way, always, stops}
use Rattle.stl_tree.specs.Segments.{IsOneOf, IsReached}
use Rattle.stl_tree.specs.Flows.{GoesOn, IsIn, IsList, IsUnconditional, Segment, blocks_of}
use Rattle.stl_tree.specs.WellNested.{IsTarget}
use Rattle.nesting_laws.specs.Plans.{IsChoice, IsEndOfArms}
use Rattle.flow_graph.specs.declared.graph.Exit.{Exit}
use Rattle.flow_graph.specs.declared.graph.Exit.TheVariants as exit
use Rattle.segment_plans.specs.Arms.{arms_end, jump_over, last_target, targets_at}
use Rattle.segment_plans.specs.Counts.{is_reached}
use Rattle.segment_plans.specs.Planned.{around_of}
use Rattle.segment_plans.specs.declared.blocks.Blocks.{Blocks}
use Rattle.segment_plans.specs.declared.planning.Part.{Part}
use Rattle.segment_plans.specs.declared.planning.Piece.{Piece}
use Rattle.segment_plans.specs.declared.planning.Piece.TheVariants as piece
use Rattle.segment_plans.specs.inner.Pieces.{are_arms, choice, ends_by, is_closed, jumps_out, may_end}
use Rattle.segment_plans.proofs.Overs.{over_either, over_sound}
use Rattle.segment_plans.proofs.Site.{IsSite, decides_if, decides_le, decides_then}
use Rattle.segment_plans.proofs.Targets.{all_is, any_is, last_most, last_target_is, target_in, target_of}
use Rattle.segment_plans.proofs.Ways.{IsOut, out, same_way, way_at}

-- what may stand at a block with a jump list
abbrev pub IsCases : Segment → Blocks → Part → ℕ → ℕ → Type 0
IsCases g blocks part at e =
    IsChoice g at part.past part.follow (around_of part.around) e × IsTarget g at (suc at) × (e ≡ arms_end blocks part.around at)

abbrev pub AnswersChoice : Segment → Blocks → Part → ℕ → Option Piece → Type 0
AnswersChoice g blocks part at None = (e : ℕ) → IsCases g blocks part at e → ⊥
AnswersChoice g blocks part at (Some (piece.Cases e)) = IsCases g blocks part at e
AnswersChoice g blocks part at (Some other) = ⊥

-- a block ends the body or jumps
abbrev pub Closes : Segment → ℕ → Type 0
Closes g b = (slice_get g.flow.ways b ≡ Some stops) ⊎ ((v : ℕ) × (slice_get g.flow.ways b ≡ Some (always v)))

no_close : (g : Segment) (b : ℕ) (w : Way) → slice_get g.flow.ways b ≡ Some w → (w ≡ stops → ⊥) → ((v : ℕ) → w ≡ always v → ⊥) → Closes g b → ⊥
no_close g b w e m n (inl h) = m (same_way g b w stops e h)
no_close g b w e m n (inr (v, h)) = n v (same_way g b w (always v) e h)

pub closes_is : (g : Segment) (blocks : Blocks) → IsSite g blocks → (b : ℕ) → Decides (ends_by (slice_get blocks.exits.items b)) (Closes g b)
closes_is g blocks site b = by (slice_get blocks.exits.items b) refl
  where
    none : slice_get g.flow.ways b ≡ None → Closes g b → ⊥
    none e (inl h) = let q : Some stops ≡ None = sym h ∙ e in absurd cc
    none e (inr (v, h)) = let q : Some (always v) ≡ None = sym h ∙ e in absurd cc

    by : (o : Option Exit) → slice_get blocks.exits.items b ≡ o → Decides (ends_by o) (Closes g b)
    by None e = (λ f. absurd cc, λ h. absurd (none (way_at g blocks site b None e) h))
    by (Some (exit.Jump t)) e = (λ f. inr (t, way_at g blocks site b (Some (exit.Jump t)) e), λ h. refl)
    by (Some exit.End) e = (λ f. inl (way_at g blocks site b (Some exit.End) e), λ h. refl)
    by (Some exit.Fall) e = (λ f. absurd cc, λ h. absurd (no_close g b _ (way_at g blocks site b (Some exit.Fall) e) (λ q. cc) (λ v q. cc) h))
    by (Some exit.EndIf) e = (λ f. absurd cc, λ h. absurd (no_close g b _ (way_at g blocks site b (Some exit.EndIf) e) (λ q. cc) (λ v q. cc) h))
    by (Some (exit.Branch t)) e =
        (λ f. absurd cc, λ h. absurd (no_close g b _ (way_at g blocks site b (Some (exit.Branch t)) e) (λ q. cc) (λ v q. cc) h))
    by (Some (exit.Table js j)) e =
        (λ f. absurd cc, λ h. absurd (no_close g b _ (way_at g blocks site b (Some (exit.Table js j)) e) (λ q. cc) (λ v q. cc) h))

module _ (g : Segment) (blocks : Blocks) (site : IsSite g blocks) (part : Part) (at : ℕ) (list : IsList g at) (high : part.past ≤ g.past) where
  abbrev Last : ℕ
  Last = last_target blocks at

  -- the block before a target does not go on with it
  abbrev IsClosed : ℕ → Type 0
  IsClosed t = (t ≡ at + 1) ⊎ (IsReached (blocks_of g.flow) (t - 1) → Closes g (t - 1))

  closed_is : (t : ℕ) → at < t → t ≤ part.past → Decides (is_closed blocks at t) (IsClosed t)
  closed_is t low up =
      Decides-or (t == at + 1) (not (is_reached blocks (t - 1)) || ends_by (slice_get blocks.exits.items (t - 1))) (Decides-eqb t (at + 1))
      (decides_if (is_reached blocks (t - 1)) (ends_by (slice_get blocks.exits.items (t - 1)))
      (site.reached (t - 1) (omega (arith, low, up, high, site.size))) (closes_is g blocks site (t - 1)))

  abbrev AreArms : Type 0
  AreArms = IsOneOf (at + 1) (targets_at blocks at) × ((t : ℕ) → IsOneOf t (targets_at blocks at) → (at < t) × IsClosed t)

  arms_are : Last ≤ part.past → Decides (are_arms blocks at) AreArms
  arms_are low =
      Decides-and (list_any (λ to. to == at + 1) (targets_at blocks at))
      (list_all (λ to. nat_lt at to && is_closed blocks at to) (targets_at blocks at)) (any_is (at + 1) (targets_at blocks at))
      (all_is (λ to. nat_lt at to && is_closed blocks at to) (λ t. (at < t) × IsClosed t) (targets_at blocks at)
      (λ t o. decides_then (nat_lt at t) (is_closed blocks at t) (Decides-ltb at t)
      (λ x. closed_is t x (let m : t ≤ Last = last_most g blocks site at list t (target_of g blocks site at list t o) in omega (arith, m, low)))))

  abbrev MayEnd : ℕ → Type 0
  MayEnd e = (e ≤ part.past) × (e ≡ part.past → (part.follow ≡ part.past) ⊎ IsOut g part e)

  may_end_is : (e : ℕ) → Decides (may_end blocks part e) (MayEnd e)
  may_end_is e =
      Decides-and (nat_le e part.past) (not (e == part.past) || ((part.follow == part.past) || jumps_out blocks part e)) (decides_le e part.past)
      (decides_if (e == part.past) ((part.follow == part.past) || jumps_out blocks part e) (Decides-eqb e part.past)
      (Decides-or (part.follow == part.past) (jumps_out blocks part e) (Decides-eqb part.follow part.past) (out g blocks site part e)))

  abbrev Fits : Type 0
  Fits = ((Last ≤ part.past) × AreArms) × MayEnd (arms_end blocks part.around at)

  fits : Decides (nat_le Last part.past && are_arms blocks at && may_end blocks part (arms_end blocks part.around at)) Fits
  fits =
      Decides-and (nat_le Last part.past && are_arms blocks at) (may_end blocks part (arms_end blocks part.around at))
      (decides_then (nat_le Last part.past) (are_arms blocks at) (decides_le Last part.past) arms_are) (may_end_is (arms_end blocks part.around at))

  -- where it fits, the arms may be written
  module _ (h : Fits) where
    after : (t : ℕ) → IsTarget g at t → at < t
    after t is = (h.0.1.1 t (target_in g blocks site at list t is)).0

    behind : at < Last
    behind = after Last (last_target_is g blocks site at list)

    abbrev IsEnd : ℕ → Type 0
    IsEnd e = (Last ≤ e) × IsEndOfArms g at e (around_of part.around)

    ends : IsEnd (arms_end blocks part.around at)
    ends = by (over_either blocks part.around Last (at + 1) (Last - (at + 1)))
      where
        by : (arms_end blocks part.around at ≡ Last)
            ⊎ ((s : ℕ) × (at + 1 ≤ s) × (s < at + 1 + (Last - (at + 1))) × (jump_over blocks part.around Last s ≡ Some (arms_end blocks part.around at)))
            → IsEnd (arms_end blocks part.around at)
        by (inl e) = subst IsEnd (sym e) (omega arith, inl (last_target_is g blocks site at list))
        by (inr (s, x, y, e)) =
            let b : at < Last = behind in
            let low : Last ≤ part.past = h.0.0 in
            let top : part.past ≤ g.past = high in
            let up : s < Last = omega (arith, y, b) in
            let is = over_sound g blocks site part.around Last s (omega (arith, x, list.2.0.low)) (omega (arith, up, low, top))
            (arms_end blocks part.around at) e in
            let far : Last < arms_end blocks part.around at = is.over in (
              omega (arith, far),
              inr (s, Last, last_target_is g blocks site at list, omega (arith, x), up, is.jump, λ w. is.free (inl w), λ w. is.free (inr w)),
            )

    close : (b t : ℕ) → IsTarget g at t → suc at < t → suc b ≡ t → IsIn g b → GoesOn g b stops ⊎ IsUnconditional g b
    close b t is x e here = by (h.0.1.1 t (target_in g blocks site at list t is)).1
      where
        same : t - 1 ≡ b
        same = omega (arith, e)

        pick : Closes g b → GoesOn g b stops ⊎ IsUnconditional g b
        pick (inl q) = inl (here, q)
        pick (inr (v, q)) = inr (v, (here, q))

        by : IsClosed t → GoesOn g b stops ⊎ IsUnconditional g b
        by (inl q) = absurd (omega (arith, q, x))
        by (inr f) = pick (subst (Closes g) same (f (subst (IsReached (blocks_of g.flow)) (sym same) here.reached)))

    makes : IsCases g blocks part at (arms_end blocks part.around at)
    makes = (
      record {
        list = list;
        after = λ t is. (
          after t is,
          let m : t ≤ Last = last_most g blocks site at list t is in let n : Last ≤ arms_end blocks part.around at = ends.0 in omega (arith, m, n),
        );
        ends = ends.1;
        closed = close;
        within = h.1.0;
        falls = h.1.1;
      },
      subst (IsTarget g at) (let e : at + 1 ≡ suc at = omega arith in e) (target_of g blocks site at list (at + 1) h.0.1.0),
      refl,
    )

  -- where the arms may be written, it fits
  takes : (e : ℕ) → IsCases g blocks part at e → Fits
  takes e (is, first, q) = ((low, (begins, arms)), subst MayEnd q (is.within, is.falls))
    where
      low : Last ≤ part.past
      low = let m = is.after Last (last_target_is g blocks site at list) in omega (arith, m.1, is.within)

      begins : IsOneOf (at + 1) (targets_at blocks at)
      begins = subst (λ n. IsOneOf n (targets_at blocks at)) (let f : suc at ≡ at + 1 = omega arith in f) (target_in g blocks site at list (suc at) first)

      arms : (t : ℕ) → IsOneOf t (targets_at blocks at) → (at < t) × IsClosed t
      arms t o = (x, by (cases_lt (suc at) t))
        where
          target : IsTarget g at t
          target = target_of g blocks site at list t o

          x : at < t
          x = (is.after t target).0

          close : suc at < t → IsReached (blocks_of g.flow) (t - 1) → Closes g (t - 1)
          close y r = pick (is.closed (t - 1) t target y (omega (arith, y)) (record { reached = r; low = omega (arith, y, list.2.0.low); high = up }))
            where
              up : t - 1 < g.past
              up = let m = is.after t target in omega (arith, m.0, m.1, is.within, high)

              pick : GoesOn g (t - 1) stops ⊎ IsUnconditional g (t - 1) → Closes g (t - 1)
              pick (inl f) = inl f.1
              pick (inr f) = inr (f.0, f.1.1)

          by : (suc at < t) ⊎ (t ≤ suc at) → IsClosed t
          by (inl y) = inr (close y)
          by (inr y) = inl (let z : at < t = x in omega (arith, y, z))

  pub choices : AnswersChoice g blocks part at (choice blocks part at)
  choices = by (nat_le Last part.past && are_arms blocks at && may_end blocks part (arms_end blocks part.around at)) fits
    where
      by : (b : Bool) → Decides b Fits → AnswersChoice g blocks part at (cond b (Some (piece.Cases (arms_end blocks part.around at))) None)
      by true d = makes (d.0 refl)
      by false d = λ e is. let bad : false ≡ true = d.1 (takes e is) in absurd cc

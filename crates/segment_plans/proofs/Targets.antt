-- The targets of a jump list, as they are found.
use Rattle.std.proofs.Common.{◌≡◌, ℕ, ◌≤◌, Bool, ◌&&◌, ◌==◌, List, [], ◌∷◌, Option, Some, None, fold, max, slice_get, inl, inr, ⊎_elim, refl, sym, ap, subst, ◌∙◌, arith}
use Rattle.std.specs.Bool.{Decides}
use Rattle.std.specs.List.{list_all, list_any}
use Rattle.std.proofs.lemmas.Bool.{cases_lt}
use Rattle.std.proofs.lemmas.Bool.Decides.{Decides-and, Decides-eqb, Decides-like, Decides-or}
use Rattle.std.proofs.lemmas.Option.{none-some}
use Rattle.stl_tree.specs.Blocks.{Way, one_of}
use Rattle.stl_tree.specs.Segments.{IsOneOf}
use Rattle.stl_tree.specs.Flows.{IsList, Segment, jumps_of}
use Rattle.stl_tree.specs.WellNested.{IsTarget}
use Rattle.flow_graph.specs.declared.graph.Exit.{Exit}
use Rattle.flow_graph.specs.declared.graph.Exit.TheVariants as exit
use Rattle.segment_plans.specs.Arms.{last_by, last_target, listed, targets_at}
use Rattle.segment_plans.specs.declared.blocks.Blocks.{Blocks}
use Rattle.segment_plans.proofs.Site.{IsSite}
use Rattle.segment_plans.proofs.Ways.{same_way, way_at}

-- Lists of numbers

pub any_is : (n : ℕ) (ts : List ℕ) → Decides (list_any (λ to. to == n) ts) (IsOneOf n ts)
any_is n [] = (λ e. absurd cc, λ o. absurd o)
any_is n (t ∷ ts) = Decides-or (t == n) (list_any (λ to. to == n) ts) (Decides-like (t == n) (λ e. sym e) (λ e. sym e) (Decides-eqb t n)) (any_is n ts)

pub all_is : (P : ℕ → Bool) (Q : ℕ → Type 0) (ts : List ℕ) → ((t : ℕ) → IsOneOf t ts → Decides (P t) (Q t))
    → Decides (list_all P ts) ((t : ℕ) → IsOneOf t ts → Q t)
all_is P Q [] f = (λ e t o. absurd o, λ h. refl)
all_is P Q (t ∷ ts) f = Decides-like (P t && list_all P ts) both (λ h. (h t (inl refl), λ u o. h u (inr o)))
    (Decides-and (P t) (list_all P ts) (f t (inl refl)) (all_is P Q ts (λ u o. f u (inr o))))
  where
    both : Q t × ((u : ℕ) → IsOneOf u ts → Q u) → (u : ℕ) → IsOneOf u (t ∷ ts) → Q u
    both h u (inl e) = subst Q (sym e) h.0
    both h u (inr o) = h.1 u o

pub greatest_most : (l : ℕ) (ts : List ℕ) (t : ℕ) → IsOneOf t (l ∷ ts) → t ≤ fold max l ts
greatest_most l [] t (inl e) = omega arith
greatest_most l [] t (inr o) = absurd o
greatest_most l (u ∷ us) t (inl e) = let x : max l u ≤ fold max (max l u) us = greatest_most (max l u) us (max l u) (inl refl) in omega arith
greatest_most l (u ∷ us) t (inr (inl e)) = let x : max l u ≤ fold max (max l u) us = greatest_most (max l u) us (max l u) (inl refl) in omega arith
greatest_most l (u ∷ us) t (inr (inr o)) = greatest_most (max l u) us t (inr o)

greatest_in : (l : ℕ) (ts : List ℕ) → IsOneOf (fold max l ts) (l ∷ ts)
greatest_in l [] = inl refl
greatest_in l (u ∷ us) = by (greatest_in (max l u) us)
  where
    by : IsOneOf (fold max (max l u) us) (max l u ∷ us) → IsOneOf (fold max (max l u) us) (l ∷ u ∷ us)
    by (inl e) = ⊎_elim (λ x. inr (inl (omega (arith, e)))) (λ x. inl (omega (arith, e))) (cases_lt l u)
    by (inr o) = inr (inr o)

-- The list of a block

-- a block with a jump list, as it is known
pub list_exit : (g : Segment) (blocks : Blocks) → IsSite g blocks → (b : ℕ) (js : List ℕ) (j : ℕ) → slice_get g.flow.ways b ≡ Some (one_of js j)
    → slice_get blocks.exits.items b ≡ Some (exit.Table js j)
list_exit g blocks site b js j w = by (slice_get blocks.exits.items b) refl
  where
    by : (o : Option Exit) → slice_get blocks.exits.items b ≡ o → o ≡ Some (exit.Table js j)
    by None e = absurd (none-some (one_of js j) (sym (way_at g blocks site b None e) ∙ w))
    by (Some (exit.Table ks k)) e =
        let q : one_of ks k ≡ one_of js j = same_way g b (one_of ks k) (one_of js j) (way_at g blocks site b (Some (exit.Table ks k)) e) w in cc
    by (Some exit.Fall) e = let q = same_way g b _ (one_of js j) (way_at g blocks site b (Some exit.Fall) e) w in absurd cc
    by (Some exit.EndIf) e = let q = same_way g b _ (one_of js j) (way_at g blocks site b (Some exit.EndIf) e) w in absurd cc
    by (Some exit.End) e = let q = same_way g b _ (one_of js j) (way_at g blocks site b (Some exit.End) e) w in absurd cc
    by (Some (exit.Jump t)) e = let q = same_way g b _ (one_of js j) (way_at g blocks site b (Some (exit.Jump t)) e) w in absurd cc
    by (Some (exit.Branch t)) e = let q = same_way g b _ (one_of js j) (way_at g blocks site b (Some (exit.Branch t)) e) w in absurd cc

module _ (g : Segment) (blocks : Blocks) (site : IsSite g blocks) (x : ℕ) (list : IsList g x) where
  known : slice_get blocks.exits.items x ≡ Some (exit.Table list.0 list.1)
  known = list_exit g blocks site x list.0 list.1 list.2.1

  targets_are : targets_at blocks x ≡ list.1 ∷ list.0
  targets_are = ap listed known

  last_is : last_target blocks x ≡ fold max list.1 list.0
  last_is = ap last_by known

  pub target_of : (t : ℕ) → IsOneOf t (targets_at blocks x) → IsTarget g x t
  target_of t o = record { list = list; jump = (one_of list.0 list.1, list.2, subst (IsOneOf t) targets_are o) }

  pub target_in : (t : ℕ) → IsTarget g x t → IsOneOf t (targets_at blocks x)
  target_in t is = subst (IsOneOf t) (sym targets_are)
      (subst (λ (w : Way). IsOneOf t (jumps_of w)) (same_way g x is.jump.0 (one_of list.0 list.1) is.jump.1.1 list.2.1) is.jump.2)

  pub last_target_is : IsTarget g x (last_target blocks x)
  last_target_is = target_of (last_target blocks x) (subst (IsOneOf (last_target blocks x)) (sym targets_are)
      (subst (λ n. IsOneOf n (list.1 ∷ list.0)) (sym last_is) (greatest_in list.1 list.0)))

  pub last_most : (t : ℕ) → IsTarget g x t → t ≤ last_target blocks x
  last_most t is =
      let m : t ≤ fold max list.1 list.0 = greatest_most list.1 list.0 t (subst (IsOneOf t) targets_are (target_in t is)) in
      let e : last_target blocks x ≡ fold max list.1 list.0 = last_is in
      omega (arith, m, e)

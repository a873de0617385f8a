-- How a block goes on: in one way alone.
use Rattle.std.proofs.Common.{◌≡◌, ◌⊎◌, inl, inr, ℕ, suc, true, false, List, [], ◌∷◌, refl, sym, ◌∙◌, subst}
use Rattle.std.proofs.lemmas.Option.{same_Some}
use Rattle.stl_tree.specs.Blocks.{Way, always, if_made, one_of, stops}
use Rattle.stl_tree.specs.Segments.{IsOneOf}
use Rattle.stl_tree.specs.Flows.{GoesOn, IsConditional, IsIn, IsJump, IsList, IsUnconditional, Segment, falls_by, jumps_of}
use Rattle.nesting_laws.specs.Plans.{LeadsTo}

pub same_way : (g : Segment) (b : ℕ) (v w : Way) → GoesOn g b v → GoesOn g b w → v ≡ w
same_way g b v w x y = same_Some v w (sym x.1 ∙ y.1)

-- the block from which a place is led to
pub source_in : (g : Segment) (b t : ℕ) → LeadsTo g b t → IsIn g b
source_in g b t lead = lead.1.0

pub jump_in : (g : Segment) (s t : ℕ) → IsJump g s t → IsIn g s
jump_in g s t jump = jump.1.0

pub jump_leads : (g : Segment) (s t : ℕ) → IsJump g s t → LeadsTo g s t
jump_leads g s t jump = (jump.0, jump.1, inl jump.2)

pub leads_cases : (g : Segment) (b t : ℕ) → LeadsTo g b t → IsJump g b t ⊎ (t ≡ suc b)
leads_cases g b t (way, goes, inl o) = inl (way, goes, o)
leads_cases g b t (way, goes, inr fall) = inr fall.1

pub made_jumps : (g : Segment) (s t : ℕ) → GoesOn g s (if_made t) → IsJump g s t
made_jumps g s t goes = (if_made t, goes, inl refl)

pub always_jumps : (g : Segment) (s t : ℕ) → GoesOn g s (always t) → IsJump g s t
always_jumps g s t goes = (always t, goes, inl refl)

-- how a block goes on that has a jump
pub jump_cases : (g : Segment) (s t : ℕ) → IsJump g s t → GoesOn g s (if_made t) ⊎ (GoesOn g s (always t) ⊎ IsList g s)
jump_cases g s t (always u, goes, inl e) = inr (inl (subst (λ u. GoesOn g s (always u)) (sym e) goes))
jump_cases g s t (if_made u, goes, inl e) = inl (subst (λ u. GoesOn g s (if_made u)) (sym e) goes)
jump_cases g s t (always u, goes, inr o) = absurd o
jump_cases g s t (if_made u, goes, inr o) = absurd o
jump_cases g s t (one_of targets label, goes, o) = inr (inr (targets, label, goes))
jump_cases g s t (other, goes, o) = absurd o

pub made_no_list : (g : Segment) (b t : ℕ) → GoesOn g b (if_made t) → IsList g b → ⊥
made_no_list g b t goes (targets, label, other) = let e = same_way g b (if_made t) (one_of targets label) goes other in cc

pub always_no_list : (g : Segment) (b t : ℕ) → GoesOn g b (always t) → IsList g b → ⊥
always_no_list g b t goes (targets, label, other) = let e = same_way g b (always t) (one_of targets label) goes other in cc

pub not_both : (g : Segment) (s : ℕ) → IsConditional g s → IsUnconditional g s → ⊥
not_both g s (t, x) (u, y) = let e = same_way g s (if_made t) (always u) x y in cc

-- where a block leads that has a conditional jump, or an unconditional one
pub made_leads : (g : Segment) (s t u : ℕ) → GoesOn g s (if_made t) → LeadsTo g s u → (u ≡ t) ⊎ (u ≡ suc s)
made_leads g s t u x (way, y, o) = by (same_way g s way (if_made t) y x) o
  where
    by : way ≡ if_made t → IsOneOf u (jumps_of way) ⊎ ((falls_by way ≡ true) × (u ≡ suc s)) → (u ≡ t) ⊎ (u ≡ suc s)
    by e (inl j) = inl (the_one (subst (λ way. IsOneOf u (jumps_of way)) e j))
      where
        the_one : IsOneOf u (t ∷ []) → u ≡ t
        the_one (inl f) = f
        the_one (inr n) = absurd n
    by e (inr f) = inr f.1

pub always_leads : (g : Segment) (s t u : ℕ) → GoesOn g s (always t) → LeadsTo g s u → u ≡ t
always_leads g s t u x (way, y, o) = by (subst (λ way. IsOneOf u (jumps_of way) ⊎ ((falls_by way ≡ true) × (u ≡ suc s))) (same_way g s way (always t) y x) o)
  where
    by : IsOneOf u (t ∷ []) ⊎ ((false ≡ true) × (u ≡ suc s)) → u ≡ t
    by (inl (inl e)) = e
    by (inl (inr n)) = absurd n
    by (inr f) = let e = f.0 in absurd cc

-- a block that has a conditional jump, or an unconditional one, has no other jump
pub made_jump : (g : Segment) (s t u : ℕ) → GoesOn g s (if_made t) → IsJump g s u → u ≡ t
made_jump g s t u goes j = by (jump_cases g s u j)
  where
    by : GoesOn g s (if_made u) ⊎ (GoesOn g s (always u) ⊎ IsList g s) → u ≡ t
    by (inl x) = let e = same_way g s (if_made u) (if_made t) x goes in cc
    by (inr (inl x)) = let e = same_way g s (always u) (if_made t) x goes in absurd cc
    by (inr (inr x)) = absurd (made_no_list g s t goes x)

pub always_jump : (g : Segment) (s t u : ℕ) → GoesOn g s (always t) → IsJump g s u → u ≡ t
always_jump g s t u goes j = always_leads g s t u goes (jump_leads g s u j)

-- whether a block has a conditional jump
pub made_or_not : (g : Segment) (b : ℕ) (way : Way) → GoesOn g b way → ((t : ℕ) × GoesOn g b (if_made t)) ⊎ (IsConditional g b → ⊥)
made_or_not g b (if_made t) goes = inl (t, goes)
made_or_not g b other goes = inr (λ c. let e = same_way g b other (if_made c.0) goes c.1 in cc)

-- whether a block has an unconditional jump
pub always_or_not : (g : Segment) (b : ℕ) (way : Way) → GoesOn g b way → ((t : ℕ) × GoesOn g b (always t)) ⊎ (IsUnconditional g b → ⊥)
always_or_not g b (always t) goes = inl (t, goes)
always_or_not g b other goes = inr (λ c. let e = same_way g b other (always c.0) goes c.1 in cc)

-- whether a block has a jump list
pub list_or_not : (g : Segment) (b : ℕ) (way : Way) → GoesOn g b way → IsList g b ⊎ (IsList g b → ⊥)
list_or_not g b (one_of targets label) goes = inl (targets, label, goes)
list_or_not g b other goes = inr (λ c. let e = same_way g b other (one_of c.0 c.1) goes c.2 in cc)

-- a list jumps to its label
pub list_jumps : (g : Segment) (b label : ℕ) (targets : List ℕ) → GoesOn g b (one_of targets label) → IsJump g b label
list_jumps g b label targets goes = (one_of targets label, goes, inl refl)

-- where a list leads it jumps to
pub list_leads : (g : Segment) (b t : ℕ) → IsList g b → LeadsTo g b t → IsJump g b t
list_leads g b t (targets, label, goes) (way, other, inl o) = (way, other, o)
list_leads g b t (targets, label, goes) (way, other, inr f) =
    let e = subst (λ way. falls_by way ≡ true) (same_way g b way (one_of targets label) other goes) f.0 in absurd cc

-- nothing follows the end of a body
pub stops_lead : (g : Segment) (b t : ℕ) → GoesOn g b stops → LeadsTo g b t → ⊥
stops_lead g b t x (way, y, o) = by (subst (λ way. IsOneOf t (jumps_of way) ⊎ ((falls_by way ≡ true) × (t ≡ suc b))) (same_way g b way stops y x) o)
  where
    by : IsOneOf t [] ⊎ ((false ≡ true) × (t ≡ suc b)) → ⊥
    by (inl n) = n
    by (inr f) = let e = f.0 in absurd cc

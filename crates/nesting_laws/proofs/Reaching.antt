-- Whether a path from the first block reaches a block can be told.
use Rattle.std.proofs.Common.{◌≡◌, ◌⊎◌, inl, inr, ⊎_elim, ℕ, zero, suc, ◌<◌, Bool, true, false, List, [], ◌∷◌, length, Option, Some, None, slice_get, refl, sym, subst, ◌∙◌, arith}
use Rattle.std.proofs.lemmas.Bool.{cases_eq}
use Rattle.std.proofs.lemmas.Option.{none-some, same_Some, slice_get_within}
use Rattle.stl_tree.specs.Segments.{IsOneOf, IsReached, Ways, fall, first, jump}

-- what can be told
abbrev pub IsKnown : Type 0 → Type 0
IsKnown P = P ⊎ (P → ⊥)

pub known_both : {P Q : Type 0} → IsKnown P → IsKnown Q → IsKnown (P × Q)
known_both (inl p) (inl q) = inl (p, q)
known_both (inl p) (inr n) = inr (λ h. n h.1)
known_both (inr n) q = inr (λ h. n h.0)

pub known_either : {P Q : Type 0} → IsKnown P → IsKnown Q → IsKnown (P ⊎ Q)
known_either (inl p) q = inl (inl p)
known_either (inr n) (inl q) = inl (inr q)
known_either (inr n) (inr m) = inr (λ h. ⊎_elim n m h)

pub known_one : (n : ℕ) (xs : List ℕ) → IsKnown (IsOneOf n xs)
known_one n [] = inr (λ h. h)
known_one n (x ∷ xs) = known_either (cases_eq n x) (known_one n xs)

pub known_true : (b : Bool) → IsKnown (b ≡ true)
known_true true = inl refl
known_true false = inr (λ e. cc)

-- a block may follow a block
abbrev Step : List Ways → ℕ → ℕ → Type 0
Step blocks s t = (ways : Ways) × (slice_get blocks s ≡ Some ways) × (IsOneOf t ways.jumps ⊎ ((ways.falls ≡ true) × (t ≡ suc s)))

known_step : (blocks : List Ways) (s t : ℕ) → IsKnown (Step blocks s t)
known_step blocks s t = by (slice_get blocks s) refl
  where
    by : (o : Option Ways) → slice_get blocks s ≡ o → IsKnown (Step blocks s t)
    by None e = inr (λ h. none-some h.0 (sym e ∙ h.1))
    by (Some ways) e = at (known_either (known_one t ways.jumps) (known_both (known_true ways.falls) (cases_eq t (suc s))))
      where
        at : IsKnown (IsOneOf t ways.jumps ⊎ ((ways.falls ≡ true) × (t ≡ suc s))) → IsKnown (Step blocks s t)
        at (inl h) = inl (ways, e, h)
        at (inr n) = inr (λ h. n (subst (λ (w : Ways). IsOneOf t w.jumps ⊎ ((w.falls ≡ true) × (t ≡ suc s))) (same_Some h.0 ways (sym h.1 ∙ e)) h.2))

-- a path from a block to a block has only blocks below a number between them
abbrev Walk : List Ways → ℕ → ℕ → ℕ → Type 0
Walk blocks zero s t = (s ≡ t) ⊎ Step blocks s t
Walk blocks (suc k) s t = Walk blocks k s t ⊎ (Walk blocks k s k × Walk blocks k k t)

known_walk : (blocks : List Ways) (k s t : ℕ) → IsKnown (Walk blocks k s t)
known_walk blocks zero s t = known_either (cases_eq s t) (known_step blocks s t)
known_walk blocks (suc k) s t = known_either (known_walk blocks k s t) (known_both (known_walk blocks k s k) (known_walk blocks k k t))

step_reached : (blocks : List Ways) (s t : ℕ) → IsReached blocks s → Step blocks s t → IsReached blocks t
step_reached blocks s t r (ways, at, inl o) = jump r (ways, at, o)
step_reached blocks s t r (ways, at, inr f) = subst (λ t. IsReached blocks t) (sym f.1) (fall r (ways, at, f.0))

walk_reached : (blocks : List Ways) (k s t : ℕ) → IsReached blocks s → Walk blocks k s t → IsReached blocks t
walk_reached blocks zero s t r (inl e) = subst (λ t. IsReached blocks t) e r
walk_reached blocks zero s t r (inr w) = step_reached blocks s t r w
walk_reached blocks (suc k) s t r (inl w) = walk_reached blocks k s t r w
walk_reached blocks (suc k) s t r (inr w) = walk_reached blocks k k t (walk_reached blocks k s k r w.0) w.1

same_walk : (blocks : List Ways) (k s : ℕ) → Walk blocks k s s
same_walk blocks zero s = inl refl
same_walk blocks (suc k) s = inl (same_walk blocks k s)

step_walk : (blocks : List Ways) (k s t : ℕ) → Step blocks s t → Walk blocks k s t
step_walk blocks zero s t w = inr w
step_walk blocks (suc k) s t w = inl (step_walk blocks k s t w)

-- a path goes on from a block below the number, where paths with smaller blocks do
walk_more : (blocks : List Ways) (k a s t : ℕ) → ((b : ℕ) → s < k → Walk blocks k b s → Walk blocks k b t) → s < suc k
    → Walk blocks (suc k) a s → Step blocks s t → Walk blocks (suc k) a t
walk_more blocks k a s t less x w step = ⊎_elim (λ e. at e w) (λ n. below (omega arith) w) (cases_eq s k)
  where
    at : s ≡ k → Walk blocks (suc k) a s → Walk blocks (suc k) a t
    at e (inl v) = inr (subst (λ s. Walk blocks k a s) e v, step_walk blocks k k t (subst (λ s. Step blocks s t) e step))
    at e (inr v) = inr (v.0, step_walk blocks k k t (subst (λ s. Step blocks s t) e step))

    below : s < k → Walk blocks (suc k) a s → Walk blocks (suc k) a t
    below y (inl v) = inl (less a y v)
    below y (inr v) = inr (v.0, less k y v.1)

walk_on : (blocks : List Ways) (k a s t : ℕ) → s < k → Walk blocks k a s → Step blocks s t → Walk blocks k a t
walk_on blocks zero a s t x w step = absurd (omega arith)
walk_on blocks (suc k) a s t x w step = walk_more blocks k a s t (λ b y v. walk_on blocks k b s t y v step) x w step

reached_walk : (blocks : List Ways) (q : ℕ) → IsReached blocks q → Walk blocks (length blocks) 0 q
reached_walk blocks q first = same_walk blocks (length blocks) 0
reached_walk blocks q (jump {s = s} {t = t} r (ways, at, o)) =
    walk_on blocks (length blocks) 0 s t (slice_get_within blocks s ways at) (reached_walk blocks s r) (ways, at, inl o)
reached_walk blocks q (fall {s = s} r (ways, at, f)) =
    walk_on blocks (length blocks) 0 s (suc s) (slice_get_within blocks s ways at) (reached_walk blocks s r) (ways, at, inr (f, refl))

pub known_reached : (blocks : List Ways) (q : ℕ) → IsKnown (IsReached blocks q)
known_reached blocks q = by (known_walk blocks (length blocks) 0 q)
  where
    by : IsKnown (Walk blocks (length blocks) 0 q) → IsKnown (IsReached blocks q)
    by (inl w) = inl (walk_reached blocks (length blocks) 0 q first w)
    by (inr n) = inr (λ r. n (reached_walk blocks q r))

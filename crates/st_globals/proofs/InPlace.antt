-- A list that is changed item by item in its own memory.
use Rattle.std.proofs.Common.{◌≡◌, ℕ, zero, suc, ◌+◌, ◌<◌, List, [], ◌∷◌, ◌++◌, length, map, take, drop, slice_set, get_or, refl, subst, ap, ◌∙◌, arith}

next_number : (i : ℕ) → suc i ≡ i + 1
next_number i = omega arith

module _ {A : Type 0} (f : A → A) where
  -- the items up to a place are changed, and the others are as they were
  abbrev pub changed : ℕ → List A → List A
  changed i xs = map f (take i xs) ++ drop i xs

  pub change_next : (i : ℕ) (xs : List A) (d : A) → i < length xs
      → slice_set (changed i xs) i (f (get_or xs i d)) ≡ changed (suc i) xs
  change_next i [] d lt = absurd (omega (arith, lt))
  change_next zero (x ∷ xs) d lt = refl
  change_next (suc i) (x ∷ xs) d lt = ap (λ rest. f x ∷ rest) (change_next i xs d (omega (arith, lt)))

  get_changed : (i : ℕ) (xs : List A) (d : A) → i < length xs → get_or (changed i xs) i d ≡ get_or xs i d
  get_changed i [] d lt = absurd (omega (arith, lt))
  get_changed zero (x ∷ xs) d lt = refl
  get_changed (suc i) (x ∷ xs) d lt = get_changed i xs d (omega (arith, lt))

  -- where the item at the place takes what its change gives, one more is changed
  both_set : {us ws : List A} (i : ℕ) {x y : A} → us ≡ ws → x ≡ y → slice_set us i x ≡ slice_set ws i y
  both_set {us} {ws} i {x} {y} p q = ap (λ (zs : List A). slice_set zs i x) p ∙ ap (λ (z : A). slice_set ws i z) q

  pub change_step : (xs items : List A) (i : ℕ) (v d : A) → items ≡ changed i xs → i < length xs → v ≡ f (get_or items i d)
      → slice_set items i v ≡ changed (suc i) xs
  change_step xs items i v d e lt h =
      both_set i e (h ∙ ap (λ (ys : List A). f (get_or ys i d)) e ∙ ap f (get_changed i xs d lt)) ∙ change_next i xs d lt

  -- the same, where the items were these at first
  pub change_read : (xs start items : List A) (i : ℕ) (v d : A) → start ≡ xs → items ≡ changed i xs → i < length start
      → v ≡ f (get_or items i d) → slice_set items i v ≡ changed (i + 1) xs
  change_read xs start items i v d s e lt h =
      let within : i < length xs = subst (λ (n : ℕ). i < n) (ap length s) lt in
      change_step xs items i v d e within h ∙ ap (λ (n : ℕ). changed n xs) (next_number i)

  pub change_item : (xs start items : List A) (i : ℕ) (item v : A) → start ≡ xs → items ≡ changed i xs → i < length start
      → item ≡ get_or items i item → v ≡ f item → slice_set items i v ≡ changed (i + 1) xs
  change_item xs start items i item v s e lt is h = change_read xs start items i v item s e lt (h ∙ ap f is)

-- Labels by the first arm that has them.
use Rattle.st_tree.proofs.Common.{◌≡◌, ℕ, suc, ◌+◌, ◌<◌, Bool, true, false, ◌||◌, if◌then◌else◌, ℤ, List, [], ◌∷◌, length, Option, None, Some, get_or, refl, ap, sym, subst, ◌∙◌, arith}
use Rattle.std.specs.Option.{option_or}
use Rattle.std.specs.Ordering.{int_eq}
use Rattle.st_runner.proofs.Common.{case_body, has_label, CaseArm, Stmt}
use Rattle.st_runner.specs.inner.Choice.{labels_of, place_from}

module _ (at : ℕ) where
  abbrev pub found : Bool → Option ℕ
  found b = if b then Some at else None

  by : (o : Option ℕ) (a b : Bool) → option_or (option_or o (found a)) (found b) ≡ option_or o (found (a || b))
  by None true b = refl
  by None false b = refl
  by (Some x) a b = refl

  -- one label more
  pub label_more : (o p : Option ℕ) (label : ℤ) (labels : List ℤ) (n : ℤ) → p ≡ option_or o (found (int_eq label n))
      → option_or p (found (has_label labels n)) ≡ option_or o (found (has_label (label ∷ labels) n))
  unfolding has_label
  label_more o p label labels n e = ap (λ (q : Option ℕ). option_or q (found (has_label labels n))) e ∙ by o (int_eq label n) (has_label labels n)

  none_or : (o : Option ℕ) → o ≡ option_or o None
  none_or None = refl
  none_or (Some x) = refl

  pub label_none : (o : Option ℕ) (labels : List ℤ) (n : ℤ) → length labels ≡ 0 → o ≡ option_or o (found (has_label labels n))
  unfolding has_label
  label_none o [] n e = none_or o
  label_none o (label ∷ labels) n e = absurd (omega arith)

  first : (o : Option ℕ) (b : Bool) (q : Option ℕ) → option_or (option_or o (found b)) q ≡ option_or o (if b then Some at else q)
  first None true q = refl
  first None false q = refl
  first (Some x) b q = refl

  -- one arm more
  pub arm_more : (o p : Option ℕ) (labels : List ℤ) (rest : List (List ℤ)) (n : ℤ) → p ≡ option_or o (found (has_label labels n))
      → option_or p (place_from (at + 1) n rest) ≡ option_or o (place_from at n (labels ∷ rest))
  arm_more o p labels rest n e =
      let one : at + 1 ≡ suc at = omega arith in
      ap (λ (k : ℕ). option_or p (place_from k n rest)) one
      ∙ ap (λ (q : Option ℕ). option_or q (place_from (suc at) n rest)) e
      ∙ first o (has_label labels n) (place_from (suc at) n rest)

  pub arm_none : (o : Option ℕ) (arms : List CaseArm) (n : ℤ) → length arms ≡ 0 → o ≡ option_or o (place_from at n (labels_of arms))
  arm_none o [] n e = none_or o
  arm_none o (arm ∷ arms) n e = absurd (omega arith)

-- The arm that is found is the one that is chosen

-- what an arm that is found behind so many is
pub record IsChosen (at k : ℕ) (n : ℤ) (arms : List CaseArm) (other : List Stmt) : Type 0 where
  pub i : ℕ
  pub behind : k ≡ at + i
  pub within : i < length arms
  pub body : (d : CaseArm) → case_body n arms other ≡ (get_or arms i d).body

abbrev pub Chosen : ℕ → Option ℕ → ℤ → List CaseArm → List Stmt → Type 0
Chosen at None n arms other = case_body n arms other ≡ other
Chosen at (Some k) n arms other = IsChosen at k n arms other

by_label : (at : ℕ) (n : ℤ) (b : Bool) (o : Option ℕ) (arm : CaseArm) (arms : List CaseArm) (other : List Stmt)
    → has_label arm.labels n ≡ b → Chosen (suc at) o n arms other → Chosen at (if b then Some at else o) n (arm ∷ arms) other
by_label at n true o arm arms other e h =
    record {
      i = 0;
      behind = omega arith;
      within = omega arith;
      body = λ d. ap (λ (b : Bool). if b then arm.body else case_body n arms other) e;
    }
by_label at n false None arm arms other e h = ap (λ (b : Bool). if b then arm.body else case_body n arms other) e ∙ h
by_label at n false (Some k) arm arms other e h =
    record {
      i = suc h.i;
      behind = omega (arith, h.behind);
      within = omega (arith, h.within);
      body = λ d. ap (λ (b : Bool). if b then arm.body else case_body n arms other) e ∙ h.body d;
    }

chosen_from : (at : ℕ) (n : ℤ) (arms : List CaseArm) (other : List Stmt) → Chosen at (place_from at n (labels_of arms)) n arms other
chosen_from at n [] other = refl
chosen_from at n (arm ∷ arms) other =
    by_label at n (has_label arm.labels n) (place_from (suc at) n (labels_of arms)) arm arms other refl (chosen_from (suc at) n arms other)

pub chosen : (n : ℤ) (arms : List CaseArm) (other : List Stmt) (o : Option ℕ) → o ≡ place_from 0 n (labels_of arms) → Chosen 0 o n arms other
chosen n arms other o e = subst (λ (p : Option ℕ). Chosen 0 p n arms other) (sym e) (chosen_from 0 n arms other)

-- the arm at a place is the one that is chosen
pub record FoundAt (k : ℕ) (n : ℤ) (arms : List CaseArm) (other : List Stmt) : Type 0 where
  pub within : k < length arms
  pub body : (d : CaseArm) → case_body n arms other ≡ (get_or arms k d).body

pub found_at : (n : ℤ) (arms : List CaseArm) (other : List Stmt) (labels : List (List ℤ)) (o : Option ℕ) (k : ℕ)
    → labels ≡ labels_of arms → o ≡ place_from 0 n labels → o ≡ Some k → FoundAt k n arms other
found_at n arms other labels o k is e f =
    let c : IsChosen 0 k n arms other =
    chosen n arms other (Some k) (sym f ∙ e ∙ ap (λ (ls : List (List ℤ)). place_from 0 n ls) is) in
    let same : c.i ≡ k = omega (arith, c.behind) in
    subst (λ (j : ℕ). FoundAt j n arms other) same (record { within = c.within; body = c.body })

pub not_found : (n : ℤ) (arms : List CaseArm) (other : List Stmt) (labels : List (List ℤ)) (o : Option ℕ)
    → labels ≡ labels_of arms → o ≡ place_from 0 n labels → o ≡ None → case_body n arms other ≡ other
not_found n arms other labels o is e f = chosen n arms other None (sym f ∙ e ∙ ap (λ (ls : List (List ℤ)). place_from 0 n ls) is)

-- The first of some broken rules is one of them before which no other comes.
use Rattle.std.proofs.Common.{◌≡◌, ◌⊎◌, ◌<◌, ◌≤◌, ◌+◌, ◌*◌, ℕ, zero, suc, Bool, true, false, cond, ◌&&◌, ◌||◌, ◌==◌, nat_lt, List, [], ◌∷◌, slice_get, Some, None, inl, inr, refl, sym, ap, arith, eqb-true}
use Rattle.std.specs.List.{fold}
use Rattle.std.proofs.lemmas.Bool.{eqb-false, ltb-true, ltb-false}
use Rattle.s7_base.specs.declared.reason.Reason.{Reason}
use Rattle.s7_base.specs.declared.reason.Reason.TheVariants as reason
use Rattle.s7_base.specs.Broken.{comes_before, first_of_all, rule_number, sooner}
use Rattle.s7_base.specs.BrokenLaws.{FirstOfAll, IsFirst}
use Rattle.s7_base.specs.declared.rule_break.Break.{Break}

pub few : (r : Reason) → rule_number r < 32
few reason.BadToken = omega arith
few other = omega arith

-- a number by which broken rules are ordered
abbrev pub rank : Break → ℕ
rank b = b.line.0 * 32 + rule_number b.rule

-- what comes before has a lesser rank, and nothing else
pub ranked : (a b : Break) (t : Bool) → comes_before a b ≡ t → cond t (rank a < rank b) (rank b ≤ rank a)
ranked a b t e =
    by_tests (nat_lt a.line.0 b.line.0) (a.line.0 == b.line.0) (nat_lt (rule_number a.rule) (rule_number b.rule)) refl refl refl t e
  where
    by_tests : (x y z : Bool) → nat_lt a.line.0 b.line.0 ≡ x → (a.line.0 == b.line.0) ≡ y → nat_lt (rule_number a.rule) (rule_number b.rule) ≡ z → (t : Bool)
        → (x || (y && z)) ≡ t → cond t (rank a < rank b) (rank b ≤ rank a)
    by_tests true y z f g h true q = omega (arith, ltb-true a.line.0 b.line.0 f, few a.rule, few b.rule)
    by_tests true y z f g h false q = absurd cc
    by_tests false true true f g h true q = omega (arith, eqb-true a.line.0 b.line.0 g, ltb-true (rule_number a.rule) (rule_number b.rule) h)
    by_tests false true true f g h false q = absurd cc
    by_tests false true false f g h true q = absurd cc
    by_tests false true false f g h false q = omega (arith, eqb-true a.line.0 b.line.0 g, ltb-false (rule_number a.rule) (rule_number b.rule) h)
    by_tests false false z f g h true q = absurd cc
    by_tests false false z f g h false q =
        let apart : a.line.0 ≡ b.line.0 → ⊥ = eqb-false a.line.0 b.line.0 g in
        omega (arith, ltb-false a.line.0 b.line.0 f, apart, few a.rule, few b.rule)

-- the first of one and some others
record Least (a : Break) (bs : List Break) (b : Break) : Type 0 where
  among : (b ≡ a) ⊎ ((k : ℕ) × (slice_get bs k ≡ Some b))
  first : rank b ≤ rank a
  others : (k : ℕ) (c : Break) → slice_get bs k ≡ Some c → rank b ≤ rank c

least : (bs : List Break) (a b : Break) → fold sooner (Some a) bs ≡ Some b → Least a bs b
least [] a b h =
    let same : a ≡ b = cc in
    record { among = inl (sym same); first = omega (arith, ap rank same); others = λ k c q. absurd cc }
least (x ∷ bs) a b h = by_test (comes_before x a) refl (λ d. least bs d b) h
  where
    by_test : (t : Bool) → comes_before x a ≡ t → ((d : Break) → fold sooner (Some d) bs ≡ Some b → Least d bs b)
        → fold sooner (cond t (Some x) (Some a)) bs ≡ Some b
        → Least a (x ∷ bs) b
    by_test true e more q =
        let l = more x q in
        let before : rank x < rank a = ranked x a true e in
        record { among = inr (put l.among); first = omega (arith, l.first, before); others = other l.first l.others }
      where
        put : (b ≡ x) ⊎ ((k : ℕ) × (slice_get bs k ≡ Some b)) → (k : ℕ) × (slice_get (x ∷ bs) k ≡ Some b)
        put (inl s) = (0, ap (λ (y : Break). Some y) (sym s))
        put (inr s) = (suc s.0, s.1)

        other : rank b ≤ rank x → ((k : ℕ) (c : Break) → slice_get bs k ≡ Some c → rank b ≤ rank c)
            → (k : ℕ) (c : Break) → slice_get (x ∷ bs) k ≡ Some c → rank b ≤ rank c
        other f o zero c s = let same : x ≡ c = cc in omega (arith, f, ap rank same)
        other f o (suc k) c s = o k c s
    by_test false e more q =
        let l = more a q in
        let after : rank a ≤ rank x = ranked x a false e in
        record { among = put l.among; first = l.first; others = other (omega (arith, l.first, after)) l.others }
      where
        put : (b ≡ a) ⊎ ((k : ℕ) × (slice_get bs k ≡ Some b)) → (b ≡ a) ⊎ ((k : ℕ) × (slice_get (x ∷ bs) k ≡ Some b))
        put (inl s) = inl s
        put (inr s) = inr (suc s.0, s.1)

        other : rank b ≤ rank x → ((k : ℕ) (c : Break) → slice_get bs k ≡ Some c → rank b ≤ rank c)
            → (k : ℕ) (c : Break) → slice_get (x ∷ bs) k ≡ Some c → rank b ≤ rank c
        other f o zero c s = let same : x ≡ c = cc in omega (arith, f, ap rank same)
        other f o (suc k) c s = o k c s

-- what has no lesser rank does not come before
not_before : (c b : Break) (t : Bool) → comes_before c b ≡ t → rank b ≤ rank c → t ≡ false
not_before c b true e h = let l : rank c < rank b = ranked c b true e in absurd (omega (arith, l, h))
not_before c b false e h = refl

is_first : (breaks : List Break) (b : Break) → first_of_all breaks ≡ Some b → IsFirst breaks b
is_first [] b h = absurd cc
is_first (a ∷ bs) b h = place (least bs a b h).among
  where
    l : Least a bs b
    l = least bs a b h

    others : (k : ℕ) (c : Break) → slice_get (a ∷ bs) k ≡ Some c → comes_before c b ≡ false
    others zero c s = let same : a ≡ c = cc in not_before c b (comes_before c b) refl (omega (arith, l.first, ap rank same))
    others (suc k) c s = not_before c b (comes_before c b) refl (l.others k c s)

    place : (b ≡ a) ⊎ ((k : ℕ) × (slice_get bs k ≡ Some b)) → IsFirst (a ∷ bs) b
    place (inl s) = record { number = 0; among = ap (λ (y : Break). Some y) (sym s); none_before = others }
    place (inr s) = record { number = suc s.0; among = s.1; none_before = others }

-- one broken rule stays one
stays_some : (bs : List Break) (a : Break) → fold sooner (Some a) bs ≡ None → ⊥
stays_some [] a h = absurd cc
stays_some (x ∷ bs) a h = by_test (comes_before x a) (λ d. stays_some bs d) h
  where
    by_test : (t : Bool) → ((d : Break) → fold sooner (Some d) bs ≡ None → ⊥) → fold sooner (cond t (Some x) (Some a)) bs ≡ None → ⊥
    by_test true more q = more x q
    by_test false more q = more a q

is_none : (breaks : List Break) → first_of_all breaks ≡ None → breaks ≡ []
is_none [] h = refl
is_none (a ∷ bs) h = absurd (stays_some bs a h)

pub first_of_all_is_first : FirstOfAll
first_of_all_is_first = record { some = is_first; none = is_none }

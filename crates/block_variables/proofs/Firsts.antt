-- The first of some broken rules and of some more.
use Rattle.std.proofs.Common.{◌≡◌, Bool, true, false, cond, List, [], ◌∷◌, ◌++◌, Option, Some, None, refl, sym, ap, ◌∙◌, arith}
use Rattle.std.specs.List.{fold}
use Rattle.std.proofs.lemmas.List.Sums.{fold-append}
use Rattle.s7_base.proofs.FirstBreak.{ranked}
use Rattle.s7_base.specs.Broken.{comes_before, first_of_all, sooner}
use Rattle.s7_base.specs.declared.rule_break.Break.{Break}
use Rattle.block_variables.specs.Firsts.{first_of_two, with_breaks}

-- the sooner of three, from either end
three : (a x y : Break) → sooner (sooner (Some a) x) y ≡ first_of_two (Some a) (sooner (Some x) y)
three a x y = by_tests (comes_before x a) (comes_before y x) (comes_before y a) refl refl refl
  where
    by_tests : (p q r : Bool) → comes_before x a ≡ p → comes_before y x ≡ q → comes_before y a ≡ r
        → sooner (cond p (Some x) (Some a)) y ≡ first_of_two (Some a) (cond q (Some y) (Some x))
    by_tests true true true f g h = ap (λ b. cond b (Some y) (Some x)) g ∙ sym (ap (λ b. cond b (Some y) (Some a)) h)
    by_tests true true false f g h =
        let i = ranked x a true f in
        let j = ranked y x true g in
        let k = ranked y a false h in
        absurd (omega (arith, i, j, k))
    by_tests true false r f g h = ap (λ b. cond b (Some y) (Some x)) g ∙ sym (ap (λ b. cond b (Some x) (Some a)) f)
    by_tests false true r f g h = refl
    by_tests false false true f g h =
        let i = ranked x a false f in
        let j = ranked y x false g in
        let k = ranked y a true h in
        absurd (omega (arith, i, j, k))
    by_tests false false false f g h = ap (λ b. cond b (Some y) (Some a)) h ∙ sym (ap (λ b. cond b (Some x) (Some a)) f)

joined_sooner : (a : Option Break) (x : Break) (o : Option Break) → first_of_two (sooner a x) o ≡ first_of_two a (first_of_two (Some x) o)
joined_sooner None x None = refl
joined_sooner None x (Some y) = by_test (comes_before y x)
  where
    by_test : (t : Bool) → cond t (Some y) (Some x) ≡ first_of_two None (cond t (Some y) (Some x))
    by_test true = refl
    by_test false = refl
joined_sooner (Some a) x None = refl
joined_sooner (Some a) x (Some y) = three a x y

-- one so far is the first of it and of the first of the others
folded : (a : Option Break) (xs : List Break) → fold sooner a xs ≡ first_of_two a (first_of_all xs)
folded None [] = refl
folded (Some a) [] = refl
folded a (x ∷ xs) =
    folded (sooner a x) xs ∙ joined_sooner a x (first_of_all xs) ∙ ap (first_of_two a) (sym (folded (Some x) xs))

pub joins : (a : Option Break) (xs : List Break) → first_of_two a (first_of_all xs) ≡ with_breaks a xs
unfolding with_breaks
joins a xs = sym (folded a xs)

pub none_more : (a : Option Break) → with_breaks a [] ≡ a
unfolding with_breaks
none_more a = refl

pub behind : (a : Option Break) (xs ys : List Break) → with_breaks a (xs ++ ys) ≡ with_breaks (with_breaks a xs) ys
unfolding with_breaks
behind a xs ys = fold-append sooner a xs ys

pub one_more : (a : Option Break) (x : Break) → with_breaks a (x ∷ []) ≡ sooner a x
unfolding with_breaks
one_more a x = refl

pub from_none : (xs : List Break) → with_breaks None xs ≡ first_of_all xs
unfolding with_breaks
from_none xs = refl

-- the first of two lists, and of four
pub of_two : (a b : Option Break) (xs ys : List Break) → a ≡ with_breaks None xs → b ≡ with_breaks a ys → b ≡ first_of_all (xs ++ ys)
of_two a b xs ys e f = f ∙ ap (λ o. with_breaks o ys) e ∙ sym (behind None xs ys) ∙ from_none (xs ++ ys)

pub of_four : (a b c d : Option Break) (ws xs ys zs : List Break) → a ≡ with_breaks None ws → b ≡ with_breaks a xs → c ≡ with_breaks b ys
    → d ≡ with_breaks c zs → d ≡ first_of_all (((ws ++ xs) ++ ys) ++ zs)
of_four a b c d ws xs ys zs e f g h =
    let two : b ≡ with_breaks None (ws ++ xs) = f ∙ ap (λ o. with_breaks o xs) e ∙ sym (behind None ws xs) in
    let three : c ≡ with_breaks None ((ws ++ xs) ++ ys) = g ∙ ap (λ o. with_breaks o ys) two ∙ sym (behind None (ws ++ xs) ys) in
    of_two c d ((ws ++ xs) ++ ys) zs three h

-- The rule of the least number of some lists of rules.
use Rattle.std.proofs.Common.{◌≡◌, ◌<◌, ◌+◌, ℕ, Bool, true, false, cond, nat_lt, List, [], ◌∷◌, ◌++◌, length, take, get_or, Option, Some, None, refl, sym, ap, ◌∙◌}
use Rattle.std.specs.List.{flat_map}
use Rattle.std.proofs.lemmas.Grind.{flat_map-append}
use Rattle.std.proofs.lemmas.List.{append-nil, take_more}
use Rattle.std.proofs.lemmas.List.Concat.{flat_map-cons}
use Rattle.std.proofs.lemmas.List.Sums.{fold-append}
use Rattle.call_operands.specs.inner.Rules.{on_line, with_rules}
use Rattle.s7_base.specs.Broken.{rule_number, sooner}
use Rattle.s7_base.specs.declared.reason.Reason.{Reason}
use Rattle.s7_base.specs.declared.rule_break.Break.{Break}
use Rattle.stl_rules.specs.Calls.{least_rule, lesser, with_rule}

-- Two rules

-- the sooner of two on one line has the lesser number
pub sooner_is_lesser : (a b : Reason) (first : Break) → Some first ≡ sooner (Some (on_line a)) (on_line b) → first.rule ≡ lesser a b
sooner_is_lesser a b first e = by (nat_lt (rule_number b) (rule_number a)) e
  where
    by : (t : Bool) → Some first ≡ cond t (Some (on_line b)) (Some (on_line a)) → first.rule ≡ cond t b a
    by true e = let same : first ≡ on_line b = cc in ap (λ (x : Break). x.rule) same
    by false e = let same : first ≡ on_line a = cc in ap (λ (x : Break). x.rule) same

pub one_is_sooner : (a b : Reason) → None ≡ sooner (Some (on_line a)) (on_line b) → b ≡ lesser a b
one_is_sooner a b e = by (nat_lt (rule_number b) (rule_number a)) e
  where
    by : (t : Bool) → None ≡ cond t (Some (on_line b)) (Some (on_line a)) → b ≡ lesser a b
    by true e = absurd cc
    by false e = absurd cc

pub ruleset line_laws = (sooner_is_lesser, one_is_sooner)

-- Lists of rules

pub no_more : (least : Option Reason) → with_rules least [] ≡ least
unfolding with_rules
no_more least = refl

pub one_more : (least : Option Reason) (rule : Reason) → with_rules least (rule ∷ []) ≡ with_rule least rule
unfolding with_rules
one_more least rule = refl

pub behind : (least : Option Reason) (xs ys : List Reason) → with_rules least (xs ++ ys) ≡ with_rules (with_rules least xs) ys
unfolding with_rules
behind least xs ys = fold-append with_rule least xs ys

pub first : (least : Option Reason) (rule : Reason) (rules : List Reason)
    → with_rules least (rule ∷ rules) ≡ with_rules (with_rules least (rule ∷ [])) rules
unfolding with_rules
first least rule rules = refl

pub from_none : (rules : List Reason) → with_rules None rules ≡ least_rule rules
unfolding with_rules
from_none rules = refl

pub ruleset rule_laws = (no_more, behind, first, from_none)

-- the rules of one more of a loop
flat_more : {X : Type 0} (f : X → List Reason) (xs : List X) (i : ℕ) (x : X) → i < length xs → x ≡ get_or xs i x
    → flat_map f (take i xs) ++ f x ≡ flat_map f (take (i + 1) xs)
flat_more f xs i x before is =
    ap (λ l. flat_map f (take i xs) ++ l) (sym (flat_map-cons f x [] ∙ append-nil (f x)))
    ∙ sym (flat_map-append f (take i xs) (x ∷ [])) ∙ ap (λ y. flat_map f (take i xs ++ y ∷ [])) is
    ∙ ap (flat_map f) (sym (take_more xs i x before))

pub rules_turn : {X : Type 0} (f : X → List Reason) (initial least next : Option Reason) (xs : List X) (i : ℕ) (x : X) → i < length xs → x ≡ get_or xs i x
    → least ≡ with_rules initial (flat_map f (take i xs)) → next ≡ with_rules least (f x) → next ≡ with_rules initial (flat_map f (take (i + 1) xs))
rules_turn f initial least next xs i x before is e step =
    step ∙ ap (λ o. with_rules o (f x)) e ∙ sym (behind initial (flat_map f (take i xs)) (f x))
    ∙ ap (with_rules initial) (flat_more f xs i x before is)

-- the rule of the least number of three lists
pub of_three : (a b c : Option Reason) (xs ys zs : List Reason) → a ≡ with_rules None xs → b ≡ with_rules a ys → c ≡ with_rules b zs
    → c ≡ least_rule ((xs ++ ys) ++ zs)
of_three a b c xs ys zs e f g =
    g ∙ ap (λ o. with_rules o zs) (f ∙ ap (λ o. with_rules o ys) e ∙ sym (behind None xs ys))
    ∙ sym (behind None (xs ++ ys) zs) ∙ from_none ((xs ++ ys) ++ zs)

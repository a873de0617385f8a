-- The position of a label, and the labels of one instruction more.
use Rattle.std.proofs.Common.{◌≡◌, ◌<◌, ◌^◌, ℕ, suc, ◌+◌, Bool, true, false, cond, not, if◌then◌else◌, nat_eq, List, [], ◌∷◌, ◌++◌, length, take, get_or, Option, Some, None, option_map, refl, sym, ap, subst, ◌∙◌, arith}
use Rattle.std.proofs.lemmas.List.{length-take-le, take_more}
use Rattle.std.specs.Cmp.Lexicographic.{pointwise}
use Rattle.std.specs.List.{position_or_len}
use Rattle.std.specs.Map.{lookup}
use Rattle.name_tables.proofs.Firsts.{name_sound, no_key, with_key}
use Rattle.name_tables.specs.Places.{first_place}
use Rattle.stl_rules.specs.Labels.{has_label, is_same_label, target_in}
use Rattle.body_labels.specs.inner.Positions.{AreLabelPlaces, with_label_place}
use Rattle.stl_tree.specs.declared.raw.RawInstr.{RawInstr}

-- a position, or the length where there is none
abbrev or_length : ℕ → Option ℕ → ℕ
or_length n None = n
or_length n (Some i) = i

is_first : {X : Type 0} (test : X → Bool) (xs : List X) → position_or_len test xs ≡ or_length (length xs) (first_place test xs)
is_first test [] = refl
is_first test (x ∷ xs) = by (test x) (first_place test xs) (is_first test xs)
  where
    by : (b : Bool) (o : Option ℕ) → position_or_len test xs ≡ or_length (length xs) o
        → (if not b then 1 + position_or_len test xs else 0) ≡ or_length (length (x ∷ xs)) (cond b (Some 0) (option_map (λ n. suc n) o))
    by true o e = refl
    by false None e = omega (arith, e)
    by false (Some i) e = omega (arith, e)

within_length : {X : Type 0} (test : X → Bool) (xs : List X) (i : ℕ) → first_place test xs ≡ Some i → i < length xs
within_length test [] i e = absurd cc
within_length test (x ∷ xs) i e = by (test x) (first_place test xs) (within_length test xs) e
  where
    some_is : (a b : ℕ) → Some a ≡ Some b → a ≡ b
    some_is a b h = cc

    by : (b : Bool) (o : Option ℕ) → ((j : ℕ) → o ≡ Some j → j < length xs) → cond b (Some 0) (option_map (λ n. suc n) o) ≡ Some i → i < length (x ∷ xs)
    by true o h f = let is : 0 ≡ i = some_is 0 i f in omega arith
    by false None h f = absurd cc
    by false (Some j) h f = let is : suc j ≡ i = some_is (suc j) i f in omega (arith, h j refl)

pub found : (body : List RawInstr) (table : List (List ℕ × ℕ)) (label : List ℕ) (i : ℕ) → AreLabelPlaces body table
    → Some i ≡ lookup (pointwise nat_eq label) table → i ≡ target_in body label
found body table label i h e =
    let at : first_place (has_label label) body ≡ Some i = sym (e ∙ h label) in
    sym (is_first (has_label label) body ∙ ap (or_length (length body)) at)

pub found_within : (body : List RawInstr) (table : List (List ℕ × ℕ)) (label : List ℕ) (i : ℕ) → AreLabelPlaces body table
    → length body < 2 ^ 32 → Some i ≡ lookup (pointwise nat_eq label) table → i < 2 ^ 32
found_within body table label i h few e =
    let inside : i < length body = within_length (has_label label) body i (sym (e ∙ h label)) in
    omega (arith, inside, few)

pub not_found : (body : List RawInstr) (table : List (List ℕ × ℕ)) (label : List ℕ) → AreLabelPlaces body table
    → None ≡ lookup (pointwise nat_eq label) table → length body ≡ target_in body label
not_found body table label h e =
    let at : first_place (has_label label) body ≡ None = sym (e ∙ h label) in
    sym (is_first (has_label label) body ∙ ap (or_length (length body)) at)

pub ruleset target_laws = (found, found_within, not_found)

-- one instruction more
label_step : (table : List (List ℕ × ℕ)) (raws : List RawInstr) (raw : RawInstr) → AreLabelPlaces raws table
    → AreLabelPlaces (raws ++ raw ∷ []) (with_label_place raw.label (length raws) table)
label_step table raws raw h = by raw.label refl
  where
    by : (o : Option (List ℕ)) → raw.label ≡ o → AreLabelPlaces (raws ++ raw ∷ []) (with_label_place o (length raws) table)
    by None none = no_key (pointwise nat_eq) name_sound has_label table raws raw (λ k. ap (is_same_label k) none) h
    by (Some label) own = with_key (pointwise nat_eq) name_sound has_label table raws raw label (λ k. ap (is_same_label k) own) h

-- one turn of a loop that keeps the positions of labels
pub label_turn : (body : List RawInstr) (i : ℕ) (d : RawInstr) (table : List (List ℕ × ℕ)) → i < length body
    → AreLabelPlaces (take i body) table → AreLabelPlaces (take (i + 1) body) (with_label_place (get_or body i d).label i table)
label_turn body i d table before h =
    let raw : RawInstr = get_or body i d in
    let taken : length (take i body) ≡ i = length-take-le i body (omega (arith, before)) in
    subst (λ l. AreLabelPlaces l (with_label_place raw.label i table)) (sym (take_more body i d before))
    (subst (λ n. AreLabelPlaces (take i body ++ raw ∷ []) (with_label_place raw.label n table)) taken (label_step table (take i body) raw h))

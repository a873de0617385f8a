-- The name NEXT differs from those of formals, temporaries and units.
use Rattle.std.proofs.Common.{◌≡◌, ℕ, Bool, true, false, not, ◌&&◌, ◌||◌, ◌==◌, if◌then◌else◌, List, [], ◌∷◌, ◌++◌, drop, take, map, refl, sym, ap, ◌∙◌, eqb-true}
use Rattle.digit_texts.specs.Digits.{are_digits}
use Rattle.std.specs.Char.{to_ascii_lowercase, to_ascii_uppercase}
use Rattle.std.specs.List.{list_any}
use Rattle.std.specs.Prelude.{All, codes, decimal}
use Rattle.std.specs.Str.{bytes_eq, str_to_ascii_lowercase}
use Rattle.std.proofs.lemmas.List.{append_assoc, map-append}
use Rattle.std.proofs.lemmas.List.Elements.{All-append, All-head, All-map, All-tail, All-weaker}
use Rattle.std.proofs.lemmas.List.Folds.{list_any-append}
use Rattle.std.proofs.lemmas.Slice.Eq.{bytes_eq-Decides}
use Rattle.std.proofs.lemmas.Str.Ascii.{lowercase-uppercase}
use Rattle.graph_rules.specs.Plain.{IsTemporary}
use Rattle.region_laws.specs.NextLocal.{next_local}
use Rattle.region_types.proofs.Still.{both_true}
use Rattle.st_tree.specs.Naming.{are_apart, is_free, is_new, is_next, is_register, is_same, is_unit_number, key_of, may_name_unit, names_block, without_zeros}
use Rattle.st_tree.specs.Proper.{IsFormal}
use Rattle.st_tree.specs.WellTyped.{keys_of}
use Rattle.st_tree.specs.declared.program.Local.{Local}
use Rattle.st_tree.proofs.Common.{and_parts}

abbrev next_key : List ℕ
next_key = codes "NEXT"

-- a name is not NEXT
abbrev IsOther : List ℕ → Type 0
IsOther name = is_next name ≡ false

-- Names

free_other : (name : List ℕ) → is_free name ≡ true → IsOther name
free_other name h = by (is_register name) (is_next name) (names_block name) (is_unit_number name) h
  where
    by : (a b c d : Bool) → (not a && not b && not c && not d) ≡ true → b ≡ false
    by a false c d q = refl
    by true true c d q = cc
    by false true c d q = cc

temporary_other : (n : ℕ) → IsOther (codes "T" ++ decimal n)
temporary_other n = refl

-- a name that begins as NEXT is not OB, FC or FB with a number
not_number : (c : ℕ) (name : List ℕ) → to_ascii_lowercase c ≡ 110 → is_unit_number (c ∷ name) ≡ false
not_number c name e = rw (begins 111 (codes "b") refl, begins 102 (codes "c") refl, begins 102 (codes "b") refl) refl
  where
    begins : (letter : ℕ) (more : List ℕ) → (110 == letter) ≡ false
        → (((to_ascii_lowercase c == letter) && bytes_eq (str_to_ascii_lowercase (take 1 name)) more) && are_digits (drop 1 name)) ≡ false
    begins letter more h = rw (e, h) refl

pub unit_other : (name : List ℕ) → may_name_unit name ≡ true → IsOther name
unit_other [] h = refl
unit_other (c ∷ name) h = by (to_ascii_lowercase c == 110) refl
  where
    free : (b : Bool) → is_unit_number (c ∷ name) ≡ b → b ≡ false → (b || is_free (c ∷ name)) ≡ true → is_free (c ∷ name) ≡ true
    free false e q k = k
    free true e q k = cc

    by : (b : Bool) → (to_ascii_lowercase c == 110) ≡ b → IsOther (c ∷ name)
    by false e = ap (λ (b : Bool). b && bytes_eq (str_to_ascii_lowercase name) (codes "ext")) e
    by true e =
        free_other (c ∷ name) (free (is_unit_number (c ∷ name)) refl (not_number c name (eqb-true (to_ascii_lowercase c) 110 e)) h)

-- Keys

lower_upper : (name : List ℕ) → str_to_ascii_lowercase (map to_ascii_uppercase name) ≡ str_to_ascii_lowercase name
lower_upper [] = refl
lower_upper (c ∷ name) = rw (lowercase-uppercase c, lower_upper name) refl

key_other : (name : List ℕ) → IsOther name → is_same (key_of name) next_key ≡ false
unfolding key_of
key_other name h = by (names_block (map to_ascii_uppercase name))
  where
    apart : (b : Bool) → is_same (map to_ascii_uppercase name) next_key ≡ b → b ≡ false
    apart false e = refl
    apart true e =
        let same : map to_ascii_uppercase name ≡ next_key = (bytes_eq-Decides (map to_ascii_uppercase name) next_key).0 e in
        let next : is_next name ≡ true =
        ap (λ (xs : List ℕ). bytes_eq xs (str_to_ascii_lowercase next_key)) (sym (lower_upper name) ∙ ap str_to_ascii_lowercase same) in
        cc

    by : (b : Bool) → is_same (if b then 68 ∷ 66 ∷ without_zeros (drop 2 (map to_ascii_uppercase name)) else map to_ascii_uppercase name) next_key ≡ false
    by true = refl
    by false = apart (is_same (map to_ascii_uppercase name) next_key) refl

-- one key more
new_still : (key last : List ℕ) (keys : List (List ℕ)) → is_same key last ≡ false → is_new key keys ≡ true → is_new key (keys ++ last ∷ []) ≡ true
new_still key last keys h k =
    ap not (list_any-append (λ (other : List ℕ). is_same key other) keys (last ∷ [])) ∙ by (list_any (λ (other : List ℕ). is_same key other) keys) k
  where
    by : (b : Bool) → not b ≡ true → not (b || (is_same key last || false)) ≡ true
    by true q = cc
    by false q = rw h refl

apart_still : (last : List ℕ) (keys : List (List ℕ)) → All (λ (key : List ℕ). is_same key last ≡ false) keys → are_apart keys ≡ true
    → are_apart (keys ++ last ∷ []) ≡ true
apart_still last [] h k = refl
apart_still last (x ∷ keys) h k =
    let parts = and_parts (is_new x keys) (are_apart keys) k in
    both_true _ _ (new_still x last keys (All-head (λ (key : List ℕ). is_same key last ≡ false) x keys h) parts.0)
    (apart_still last keys (All-tail (λ (key : List ℕ). is_same key last ≡ false) x keys h) parts.1)

-- Locals

next_is : key_of next_local.name ≡ next_key
unfolding key_of
next_is = refl

-- the keys of formals and locals, and of NEXT
more_keys : (formals locals : List Local) → keys_of formals ++ keys_of (locals ++ next_local ∷ []) ≡ (keys_of formals ++ keys_of locals) ++ next_key ∷ []
more_keys formals locals =
    ap (λ (keys : List (List ℕ)). keys_of formals ++ keys) (map-append (λ (x : Local). key_of x.name) locals (next_local ∷ []))
    ∙ sym (append_assoc (keys_of formals) (keys_of locals) (keys_of (next_local ∷ [])))
    ∙ ap (λ (key : List ℕ). (keys_of formals ++ keys_of locals) ++ key ∷ []) next_is

-- a unit that is seen is seen still where NEXT is a local
pub still_seen : (name : List ℕ) (formals locals : List Local) → may_name_unit name ≡ true
    → is_new (key_of name) (keys_of formals ++ keys_of locals) ≡ true → is_new (key_of name) (keys_of formals ++ keys_of (locals ++ next_local ∷ [])) ≡ true
still_seen name formals locals h seen =
    ap (is_new (key_of name)) (more_keys formals locals)
    ∙ new_still (key_of name) next_key (keys_of formals ++ keys_of locals) (key_other name (unit_other name h)) seen

-- formals, temporaries and NEXT have different names
pub names_apart : (formals locals : List Local) → All IsFormal formals → All IsTemporary locals → are_apart (keys_of formals ++ keys_of locals) ≡ true
    → are_apart (keys_of formals ++ keys_of (locals ++ next_local ∷ [])) ≡ true
names_apart formals locals f l h =
    ap are_apart (more_keys formals locals)
    ∙ apart_still next_key (keys_of formals ++ keys_of locals)
    (All-append Differs (keys_of formals) (keys_of locals)
    (All-map Differs key formals (All-weaker IsFormal (λ (x : Local). Differs (key x)) (λ x q. key_other x.name (free_other x.name q.free)) formals f))
    (All-map Differs key locals (All-weaker IsTemporary (λ (x : Local). Differs (key x)) (λ x q. key_other x.name (other x q)) locals l)))
    h
  where
    key : Local → List ℕ
    key x = key_of x.name

    Differs : List ℕ → Type 0
    Differs k = is_same k next_key ≡ false

    other : (x : Local) → IsTemporary x → IsOther x.name
    other x q = ap is_next q.name ∙ temporary_other q.number

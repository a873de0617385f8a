-- The temporaries of a unit: their names and their types, that a text may have them, and that none is called as a formal.
use Rattle.std.proofs.Common.{◌≡◌, ℕ, zero, suc, ◌+◌, ◌-◌, ◌*◌, ◌/◌, ◌%◌, ◌^◌, ◌<◌, ◌≤◌, ◌==◌, Bool, true, false, ◌&&◌, if◌then◌else◌, List, [], ◌∷◌, ◌++◌, drop, length, map, Some, refl, ap, ◌∙◌, sym, subst, arith}
use Rattle.std.specs.Prelude.{All, codes, decimal, slice_get}
use Rattle.std.specs.Char.{to_ascii_uppercase}
use Rattle.std.specs.List.{list_all}
use Rattle.std.proofs.lemmas.Bool.Decides.{nat_tests}
use Rattle.std.proofs.lemmas.Fmt.{decimal_by_steps}
use Rattle.std.proofs.lemmas.List.{append_assoc, append-nil}
use Rattle.std.proofs.lemmas.List.Elements.{All-cons, All-nil}
use Rattle.digit_texts.specs.Digits.{written_from}
use Rattle.graph_rules.specs.Plain.{IsTemporary}
use Rattle.instruction_lowering.proofs.Names.{decimal_stays, same_number}
use Rattle.instruction_lowering.proofs.NewNames.{apart_more, new_in_parts, none_over, one_fewer, over, over_few}
use Rattle.instruction_lowering.proofs.ProperNames.{Digits, decimal_digits, upper_digit}
use Rattle.instruction_lowering.specs.inner.Temporaries.{next_number, number_after, temporaries, temporary_name}
use Rattle.s7_base.specs.Tokens.{is_between}
use Rattle.st_tree.specs.Naming.{are_apart, is_name, is_new, is_same, is_unreserved, key_of, may_name_local}
use Rattle.st_tree.specs.Proper.{IsLocal}
use Rattle.st_tree.specs.WellTyped.{keys_of, type_inside}
use Rattle.st_tree.specs.declared.expr.StType.{StType}
use Rattle.st_tree.specs.declared.program.Local.{Local}

-- there is one for each type
pub so_many : (formals : List (List ℕ)) (n : ℕ) (types : List StType) → length (temporaries formals n types) ≡ length types
so_many formals n [] = refl
so_many formals n (ty ∷ types) = ap suc (so_many formals (number_after formals n) types)

-- the numbers grow
later_next : (most : ℕ) (formals : List (List ℕ)) (n : ℕ) → n < next_number most formals n
later_next zero formals n = omega arith
later_next (suc most) formals n = by (is_new (key_of (temporary_name (suc n))) formals) (later_next most formals (suc n))
  where
    by : (b : Bool) → suc n < next_number most formals (suc n) → n < (if b then suc n else next_number most formals (suc n))
    by true l = omega arith
    by false l = omega arith

pub later_number : (formals : List (List ℕ)) (n : ℕ) → n < number_after formals n
later_number formals n = later_next (length formals) formals n

-- one more temporary, before those that are left
pub one_more_temporary : (formals : List (List ℕ)) (n m : ℕ) (locals more whole : List Local) (name : List ℕ) (ty : StType) (rest behind : List StType)
    → rest ≡ ty ∷ behind → m ≡ number_after formals n → name ≡ temporary_name m → more ≡ locals ++ record { name = name; ty = ty } ∷ []
    → locals ++ temporaries formals n rest ≡ whole → more ++ temporaries formals m behind ≡ whole
one_more_temporary formals n m locals more whole name ty rest behind e number named pushed all =
    ap (λ (xs : List Local). xs ++ temporaries formals m behind) pushed
    ∙ append_assoc locals (record { name = name; ty = ty } ∷ []) (temporaries formals m behind)
    ∙ ap (λ (x : List ℕ). locals ++ record { name = x; ty = ty } ∷ temporaries formals m behind) named
    ∙ ap (λ (k : ℕ). locals ++ record { name = temporary_name k; ty = ty } ∷ temporaries formals k behind) number
    ∙ sym (ap (λ (ts : List StType). locals ++ temporaries formals n ts) e) ∙ all

-- each has its type
pub typed_local : (formals : List (List ℕ)) (n : ℕ) (types : List StType) (i : ℕ) (ty : StType) → slice_get types i ≡ Some ty
    → type_inside (slice_get (temporaries formals n types) i) ≡ Some ty
typed_local formals n [] i ty e = cc
typed_local formals n (t ∷ types) zero ty e = e
typed_local formals n (t ∷ types) (suc i) ty e = typed_local formals (number_after formals n) types i ty e

-- and is named as a temporary
pub are_named : (formals : List (List ℕ)) (n : ℕ) (types : List StType) → All IsTemporary (temporaries formals n types)
are_named formals n [] = All-nil IsTemporary
are_named formals n (ty ∷ types) =
    All-cons IsTemporary (record { name = temporary_name (number_after formals n); ty = ty }) (temporaries formals (number_after formals n) types)
    (record { number = number_after formals n; name = refl }) (are_named formals (number_after formals n) types)

-- Names

-- a digit is one of ten
pub of_ten : (P : ℕ → Type 0) → P 48 → P 49 → P 50 → P 51 → P 52 → P 53 → P 54 → P 55 → P 56 → P 57 → (k : ℕ) → k < 10 → P (48 + k)
of_ten P a b c d e f g h i j zero small = a
of_ten P a b c d e f g h i j (suc zero) small = b
of_ten P a b c d e f g h i j (suc (suc zero)) small = c
of_ten P a b c d e f g h i j (suc (suc (suc zero))) small = d
of_ten P a b c d e f g h i j (suc (suc (suc (suc zero)))) small = e
of_ten P a b c d e f g h i j (suc (suc (suc (suc (suc zero))))) small = f
of_ten P a b c d e f g h i j (suc (suc (suc (suc (suc (suc zero)))))) small = g
of_ten P a b c d e f g h i j (suc (suc (suc (suc (suc (suc (suc zero))))))) small = h
of_ten P a b c d e f g h i j (suc (suc (suc (suc (suc (suc (suc (suc zero)))))))) small = i
of_ten P a b c d e f g h i j (suc (suc (suc (suc (suc (suc (suc (suc (suc zero))))))))) small = j
of_ten P a b c d e f g h i j (suc (suc (suc (suc (suc (suc (suc (suc (suc (suc k)))))))))) small = absurd (omega arith)

-- T and a digit begin no reserved word
unreserved_digit : (more : List ℕ) (k : ℕ) → k < 10 → is_unreserved (84 ∷ (48 + k) ∷ more) ≡ true
unreserved_digit more = of_ten (λ d. is_unreserved (84 ∷ d ∷ more) ≡ true) refl refl refl refl refl refl refl refl refl refl

pub digit_at : (d : ℕ) → is_between 48 57 d ≡ true → (48 ≤ d) × (d ≤ 57)
digit_at d h = (grind (arith, nat_tests), grind (arith, nat_tests))

first_true : (a b : Bool) → (a && b) ≡ true → a ≡ true
first_true true b h = refl
first_true false b h = cc

unreserved : (ds : List ℕ) → Digits ds → is_unreserved (84 ∷ ds) ≡ true
unreserved [] h = let some : 0 < 0 = h.some in absurd (omega arith)
unreserved (d ∷ more) h =
    let at = digit_at d (first_true (is_between 48 57 d) (list_all (λ b. is_between 48 57 b) more) h.digits) in
    let low : 48 ≤ d = at.0 in
    let high : d ≤ 57 = at.1 in
    let e : 48 + (d - 48) ≡ d = omega arith in
    subst (λ c. is_unreserved (84 ∷ c ∷ more) ≡ true) e (unreserved_digit more (d - 48) (omega arith))

named : (n : ℕ) → n < 2 ^ 64 → is_name (temporary_name n) ≡ true
named n h = let d = decimal_digits n h in rw (d.bytes, unreserved (decimal n) d) refl

names_local : (n : ℕ) → may_name_local (temporary_name n) ≡ true
names_local n = refl

-- Numbers

-- the number that stands behind the first letter of a key
abbrev number_in : List ℕ → ℕ
number_in key = written_from 0 (drop 1 key)

one_more_digit : (before d : ℕ) (ds : List ℕ) → written_from before (ds ++ d ∷ []) ≡ written_from before ds * 10 + (d - 48)
one_more_digit before d [] = refl
one_more_digit before d (x ∷ ds) = one_more_digit (before * 10 + (x - 48)) d ds

written : (n : ℕ) → n < 2 ^ 64 → written_from 0 (decimal n) ≡ n
written =
    decimal_by_steps (λ n ds. written_from 0 ds ≡ n)
    (λ n h. let e : 0 * 10 + (48 + n - 48) ≡ n = omega arith in e)
    (λ n ds h e. let last : n / 10 * 10 + (48 + n % 10 - 48) ≡ n = omega arith in
    one_more_digit 0 (48 + n % 10) ds ∙ ap (λ (m : ℕ). m * 10 + (48 + n % 10 - 48)) e ∙ last)

number_of_key : (n : ℕ) → n < 2 ^ 64 → number_in (key_of (temporary_name n)) ≡ n
unfolding key_of
number_of_key n h = ap (written_from 0) (decimal_stays to_ascii_uppercase upper_digit n h) ∙ written n h

-- a number after one, whose temporary is called as no formal
record IsNext (formals : List (List ℕ)) (most n next : ℕ) : Type 0 where
  later : n < next
  near : next ≤ n + most + 1
  new : is_new (key_of (temporary_name next)) formals ≡ true

-- no more numbers are tried than there are keys with one as high
tried_next : (most : ℕ) (formals : List (List ℕ)) (n : ℕ) → n + most + 1 < 2 ^ 64 → over number_in (suc n) formals ≤ most
    → IsNext formals most n (next_number most formals n)
tried_next zero formals n small few =
    let key : List ℕ = key_of (temporary_name (suc n)) in
    let number : number_in key ≡ suc n = number_of_key (suc n) (omega arith) in
    let none : over number_in (number_in key) formals ≡ 0 = ap (λ (m : ℕ). over number_in m formals) number ∙ omega arith in
    record { later = omega arith; near = omega arith; new = none_over number_in key formals none }
tried_next (suc most) formals n small few =
    by (is_new (key_of (temporary_name (suc n))) formals) refl (λ fits. tried_next most formals (suc n) (omega arith) fits)
  where
    by : (b : Bool) → is_new (key_of (temporary_name (suc n))) formals ≡ b
        → (over number_in (suc (suc n)) formals ≤ most → IsNext formals most (suc n) (next_number most formals (suc n)))
        → IsNext formals (suc most) n (if b then suc n else next_number most formals (suc n))
    by true e others = record { later = omega arith; near = omega arith; new = e }
    by false e others =
        let key : List ℕ = key_of (temporary_name (suc n)) in
        let number : number_in key ≡ suc n = number_of_key (suc n) (omega arith) in
        let less : over number_in (suc (number_in key)) formals < over number_in (number_in key) formals = one_fewer number_in key formals e in
        let fewer : over number_in (suc (suc n)) formals < over number_in (suc n) formals =
        subst (λ (m : ℕ). over number_in (suc m) formals < over number_in m formals) number less in
        let next = others (omega arith) in
        record { later = omega (arith, next.later); near = omega (arith, next.near); new = next.new }

next_after : (formals : List (List ℕ)) (n : ℕ) → n + length formals + 1 < 2 ^ 64 → IsNext formals (length formals) n (number_after formals n)
next_after formals n small = tried_next (length formals) formals n small (over_few number_in (suc n) formals)

-- All of them

pub proper_locals : (formals : List (List ℕ)) (n : ℕ) (types : List StType) → length formals ≤ 64 → n + 65 * length types < 2 ^ 40
    → All IsLocal (temporaries formals n types)
proper_locals formals n [] few small = All-nil IsLocal
proper_locals formals n (ty ∷ types) few small =
    let next = next_after formals n (omega arith) in
    let near : number_after formals n ≤ n + length formals + 1 = next.near in
    let local : IsLocal (record { name = temporary_name (number_after formals n); ty = ty }) =
    record { name = named (number_after formals n) (omega arith); free = names_local (number_after formals n) } in
    All-cons IsLocal (record { name = temporary_name (number_after formals n); ty = ty }) (temporaries formals (number_after formals n) types) local
    (proper_locals formals (number_after formals n) types few (omega arith))

same_key : (m n : ℕ) → m < 2 ^ 64 → n < 2 ^ 64 → is_same (key_of (temporary_name m)) (key_of (temporary_name n)) ≡ m == n
unfolding key_of
same_key m n h k = same_number to_ascii_uppercase upper_digit m n h k

differ : (m n : ℕ) → n < m → (m == n) ≡ false
differ m n h = grind (arith, nat_tests)

-- no two names are the same, of other keys and of temporaries with higher numbers
pub locals_apart : (formals earlier : List (List ℕ)) (n : ℕ) (types : List StType) → length formals ≤ 64 → n + 65 * length types < 2 ^ 40
    → are_apart earlier ≡ true
    → ((m : ℕ) → n < m → m < 2 ^ 64 → is_new (key_of (temporary_name m)) formals ≡ true → is_new (key_of (temporary_name m)) earlier ≡ true)
    → are_apart (earlier ++ keys_of (temporaries formals n types)) ≡ true
locals_apart formals earlier n [] few small apart new = ap are_apart (append-nil earlier) ∙ apart
locals_apart formals earlier n (ty ∷ types) few small apart new =
    let number : ℕ = number_after formals n in
    let next = next_after formals n (omega arith) in
    let near : number ≤ n + length formals + 1 = next.near in
    let later : n < number = next.later in
    let key : List ℕ = key_of (temporary_name number) in
    ap are_apart (sym (append_assoc earlier (key ∷ []) (keys_of (temporaries formals number types))))
    ∙ locals_apart formals (earlier ++ key ∷ []) number types few (omega arith)
    (apart_more earlier key apart (new number later (omega arith) next.new))
    (λ m above less free.
    new_in_parts (key_of (temporary_name m)) earlier (key ∷ []) (new m (omega arith) less free)
    (rw (same_key m number less (omega arith), differ m number above) refl))

-- none is called as a unit
abbrev pub IsNoTemporary : List ℕ → Type 0
IsNoTemporary key = (n : ℕ) → is_same key (key_of (temporary_name n)) ≡ false

pub new_to_temporaries : (key : List ℕ) → IsNoTemporary key → (formals : List (List ℕ)) (n : ℕ) (types : List StType)
    → is_new key (keys_of (temporaries formals n types)) ≡ true
new_to_temporaries key h formals n [] = refl
new_to_temporaries key h formals n (ty ∷ types) =
    rw (h (number_after formals n)) (new_to_temporaries key h formals (number_after formals n) types)

-- Keys of data blocks with one number are the same; the name of a data block in plain form, `DB` and its number,
-- has that number, and its key is that of each name with the number.
use Rattle.st_tree.proofs.Common.{◌≡◌, ◌<◌, ◌≤◌, ◌+◌, ◌*◌, ◌-◌, ◌^◌, ℕ, zero, suc, min, Bool, true, false, cond, ◌==◌, nat_le, List, [], ◌∷◌, map, drop, length, refl, sym, ap, subst, ◌∙◌, arith, ◌/◌, ◌%◌, nat_lt, ◌++◌, get_or, length-append, list_all, to_ascii_uppercase, leb-true, and_parts, nat_tests, are_digits, is_digit, key_of, names_block, codes, decimal, decimal_by_steps, list_all-append}
use Rattle.st_rules.specs.Globals.{block_number, number_from, number_in}
use Rattle.digit_texts.proofs.SomeDigits.{each_digit, some_digits}
use Rattle.st_tree.specs.Naming.{without_zeros, zeros_before, with_plain_number}
use Rattle.std.proofs.lemmas.Fmt.{first_decimal}

digit : (b : ℕ) → is_digit b ≡ true → (48 ≤ b) × (b ≤ 57)
digit b h = let t = and_parts (nat_le 48 b) (nat_le b 57) h in (leb-true 48 b t.0, leb-true b 57 t.1)

-- Numbers from digits

-- the greatest number that is kept
abbrev most : ℕ
most = 2 ^ 32 - 1

-- a number with one digit more
abbrev with_digit : ℕ → ℕ → ℕ
with_digit v d = min (v * 10 + (d - 48)) (2 ^ 32 - 1)

kept : (v d : ℕ) → with_digit v d ≤ most
kept v d = omega arith

-- with more digits no number grows less
grows : (ds : List ℕ) (v : ℕ) → v ≤ most → v ≤ number_from v ds
grows [] v h = omega arith
grows (d ∷ ds) v h = omega (arith, grows ds (with_digit v d) (kept v d))

-- what a digit adds to a number is in it, where the number from it and more digits is below the greatest one
adds : (ds : List ℕ) (v d : ℕ) → number_from (with_digit v d) ds < most → with_digit v d ≡ v * 10 + (d - 48)
adds ds v d h = omega (arith, grows ds (with_digit v d) (kept v d))

-- as many digits of one number are the same, and so is what stands before them
aligned : (ds es : List ℕ) (v w : ℕ) → list_all is_digit ds ≡ true → list_all is_digit es ≡ true → length ds ≡ length es → number_from v ds ≡ number_from w es
    → number_from v ds < most → (v ≡ w) × (ds ≡ es)
aligned [] [] v w a b size same small = (same, refl)
aligned (d ∷ ds) (e ∷ es) v w a b size same small =
    let a = and_parts (is_digit d) (list_all is_digit ds) a in
    let b = and_parts (is_digit e) (list_all is_digit es) b in
    let rest = aligned ds es (with_digit v d) (with_digit w e) a.1 b.1 (omega (arith, size)) same small in
    let other : number_from (with_digit w e) es < most = subst (λ n. n < most) same small in
    let head : v * 10 + (d - 48) ≡ w * 10 + (e - 48) = sym (adds ds v d small) ∙ rest.0 ∙ adds es w e other in
    let p = digit d a.0 in
    let q = digit e b.0 in
    let first : d ≡ e = omega (arith, head, p.0, p.1, q.0, q.1) in
    (omega (arith, head, p.0, p.1, q.0, q.1), ap (λ x. x ∷ ds) first ∙ ap (λ xs. e ∷ xs) rest.1)
aligned ds es v w a b size same small = absurd (omega (arith, size))

-- digits of one number with more before them have zero before them
longer : (k : ℕ) (ds es : List ℕ) (v : ℕ) → list_all is_digit ds ≡ true
    → list_all is_digit es ≡ true → length ds ≡ k + length es → number_from v ds ≡ number_from 0 es
    → number_from v ds < most → v ≡ 0
longer zero ds es v a b size same small = (aligned ds es v 0 a b (omega (arith, size)) same small).0
longer (suc k) [] es v a b size same small = absurd (omega (arith, size))
longer (suc k) (d ∷ ds) es v a b size same small =
    let a = and_parts (is_digit d) (list_all is_digit ds) a in
    let rest : with_digit v d ≡ 0 = longer k ds es (with_digit v d) a.1 b (omega (arith, size)) same small in
    omega (arith, adds ds v d small, rest)

-- the digits of a number, without a zero before them
record AreDigits (n : ℕ) (ds : List ℕ) : Type 0 where
  digits : list_all is_digit ds ≡ true
  plain : (rest : List ℕ) → ds ≡ 48 ∷ rest → ⊥
  worth : number_from 0 ds ≡ n

no_longer : (n k : ℕ) (ds es : List ℕ) → n < most → AreDigits n ds → AreDigits n es → length ds ≡ suc k + length es → ⊥
no_longer n k [] es small a b size = omega (arith, size)
no_longer n k (d ∷ ds) es small a b size =
    let t = and_parts (is_digit d) (list_all is_digit ds) a.digits in
    let below : number_from (with_digit 0 d) ds < most = omega (arith, small, a.worth) in
    let zero_first : with_digit 0 d ≡ 0 = longer k ds es (with_digit 0 d) t.1 b.digits (omega (arith, size)) (a.worth ∙ sym b.worth) below in
    let p = digit d t.0 in
    let first : d ≡ 48 = omega (arith, adds ds 0 d below, zero_first, p.0) in
    a.plain ds (ap (λ x. x ∷ ds) first)

one_list : (n : ℕ) (ds es : List ℕ) → n < most → AreDigits n ds → AreDigits n es → ds ≡ es
one_list n ds es small a b =
    let no_more = no_longer n (length ds - length es - 1) ds es small a b in
    let no_less = no_longer n (length es - length ds - 1) es ds small b a in
    (aligned ds es 0 0 a.digits b.digits (omega (arith, no_more, no_less)) (a.worth ∙ sym b.worth) (omega (arith, small, a.worth))).1

-- Keys

-- the key of a data block of a number
record IsKey (n : ℕ) (key : List ℕ) : Type 0 where
  digits : List ℕ
  named : key ≡ 68 ∷ 66 ∷ digits
  sound : AreDigits n digits

one_key : (n : ℕ) (k l : List ℕ) → n ≤ 65535 → IsKey n k → IsKey n l → k ≡ l
one_key n k l small a b = a.named ∙ ap (λ ds. 68 ∷ 66 ∷ ds) (one_list n a.digits b.digits (omega (arith, small)) a.sound b.sound) ∙ sym b.named

-- zeros that stand before others are left out
left_out : (d e : ℕ) (ds : List ℕ) (z l k : ℕ) → l ≡ k + 1 → drop (min (1 + z) l) (d ∷ e ∷ ds) ≡ drop (min z k) (e ∷ ds)
left_out d e ds z l k h = let m : min (1 + z) l ≡ suc (min z k) = omega (arith, h) in ap (λ n. drop n (d ∷ e ∷ ds)) m

fewer : (d e : ℕ) (ds : List ℕ) → (d == 48) ≡ true → without_zeros (d ∷ e ∷ ds) ≡ without_zeros (e ∷ ds)
fewer d e ds h =
    ap (λ t. drop (min (cond t (1 + zeros_before (e ∷ ds)) 0) (length (d ∷ e ∷ ds) - 1)) (d ∷ e ∷ ds)) h
    ∙ left_out d e ds (zeros_before (e ∷ ds)) (length (d ∷ e ∷ ds) - 1) (length (e ∷ ds) - 1) (omega arith)

no_fewer : (d e : ℕ) (ds : List ℕ) → (d == 48) ≡ false → without_zeros (d ∷ e ∷ ds) ≡ d ∷ e ∷ ds
no_fewer d e ds h =
    let m : min 0 (length (d ∷ e ∷ ds) - 1) ≡ 0 = omega arith in
    ap (λ t. drop (min (cond t (1 + zeros_before (e ∷ ds)) 0) (length (d ∷ e ∷ ds) - 1)) (d ∷ e ∷ ds)) h ∙ ap (λ n. drop n (d ∷ e ∷ ds)) m

single : (d z : ℕ) → drop (min z 0) (d ∷ []) ≡ d ∷ []
single d z = let m : min z 0 ≡ 0 = omega arith in ap (λ n. drop n (d ∷ [])) m

-- one zero alone may stand first
zero_alone : (ds rest : List ℕ) → without_zeros ds ≡ 48 ∷ rest → rest ≡ []
zero_alone [] rest h = absurd cc
zero_alone (d ∷ []) rest h = sym (ap (drop 1) (sym (single d (zeros_before (d ∷ []))) ∙ h))
zero_alone (d ∷ e ∷ ds) rest h = grind (arith, nat_tests, fewer d e ds, no_fewer d e ds, zero_alone (e ∷ ds) rest)

-- a name that is the key of a data block has a plain number
has_plain : (n : ℕ) (capitals : List ℕ) (t : Bool) → names_block capitals ≡ t
    → number_in (cond t (68 ∷ 66 ∷ without_zeros (drop 2 capitals)) capitals) ≡ n → 1 ≤ n
    → IsKey n (cond t (68 ∷ 66 ∷ without_zeros (drop 2 capitals)) capitals)
has_plain n capitals false e h some =
    let none : number_in capitals ≡ 0 = ap (λ t. cond t (number_from 0 (drop 2 capitals)) 0) e in
    absurd (omega (arith, none, h, some))
has_plain n capitals true e h some =
    let ds = without_zeros (drop 2 capitals) in
    let digits : are_digits ds ≡ true = grind arith in
    let worth : number_from 0 ds ≡ n = grind arith in
    let plain : (rest : List ℕ) → ds ≡ 48 ∷ rest → ⊥ = λ rest q.
    let alone : ds ≡ 48 ∷ [] = q ∙ ap (λ xs. 48 ∷ xs) (zero_alone (drop 2 capitals) rest q) in
    let none : number_from 0 ds ≡ 0 = ap (number_from 0) alone in
    omega arith in
    record { digits = ds; named = refl; sound = record { digits = each_digit ds digits; plain = plain; worth = worth } }

-- the key of a name that has the number of a data block
is_key : (n : ℕ) (name : List ℕ) → block_number name ≡ n → 1 ≤ n → IsKey n (key_of name)
unfolding key_of
is_key n name h some = let capitals = map to_ascii_uppercase name in has_plain n capitals (names_block capitals) refl h some

-- Plain numbers

number_behind : (v : ℕ) (ds : List ℕ) (d : ℕ) → number_from v (ds ++ d ∷ []) ≡ min (number_from v ds * 10 + (d - 48)) (2 ^ 32 - 1)
number_behind v [] d = refl
number_behind v (b ∷ ds) d = number_behind (min (v * 10 + (b - 48)) (2 ^ 32 - 1)) ds d

-- the digits of a number
pub record Written (n : ℕ) (ds : List ℕ) : Type 0 where
  pub digits : list_all is_digit ds ≡ true
  pub some : 0 < length ds
  pub value : n < 2 ^ 32 → number_from 0 ds ≡ n

ten_ok : (n : ℕ) → n < 10 → is_digit (48 + n) ≡ true
ten_ok n h = grind (arith, nat_tests)

one : (n : ℕ) → n < 10 → Written n ((48 + n) ∷ [])
one n h = record {
  digits = rw (ten_ok n h) refl;
  some = omega arith;
  value = λ small. omega (arith, h);
}

more_digits : (n : ℕ) (ds : List ℕ) → 10 ≤ n → Written (n / 10) ds → Written n (ds ++ ((48 + n % 10) ∷ []))
more_digits n ds h d = record {
  digits = list_all-append is_digit ds ((48 + n % 10) ∷ []) ∙ rw (d.digits, ten_ok (n % 10) (omega arith)) refl;
  some = omega (arith, length-append ds ((48 + n % 10) ∷ []));
  value = λ small.
      let before : number_from 0 ds ≡ n / 10 = d.value (omega arith) in
      number_behind 0 ds (48 + n % 10) ∙ rw before (omega arith);
}

pub written : (n : ℕ) → n < 2 ^ 64 → Written n (decimal n)
written n small = decimal_by_steps Written one more_digits n small

-- digits have no capitals
no_capital : (b : ℕ) → is_digit b ≡ true → to_ascii_uppercase b ≡ b
no_capital b h = let d = digit b h in let small : nat_lt b 97 ≡ true = grind (arith, nat_tests) in ap (λ t. cond t b (cond (nat_lt b 123) (b - 32) b)) small

no_capitals : (ds : List ℕ) → list_all is_digit ds ≡ true → map to_ascii_uppercase ds ≡ ds
no_capitals [] h = refl
no_capitals (d ∷ ds) h =
    let t = and_parts (is_digit d) (list_all is_digit ds) h in
    rw (no_capital d t.0, no_capitals ds t.1) refl

-- where no zero stands first, none is left out
all_kept : (ds : List ℕ) → 48 < get_or ds 0 0 → without_zeros ds ≡ ds
all_kept [] h = absurd (omega (arith, h))
all_kept (d ∷ ds) h =
    let none : zeros_before (d ∷ ds) ≡ 0 = grind (arith, nat_tests) in
    let all : min (zeros_before (d ∷ ds)) (length (d ∷ ds) - 1) ≡ 0 = omega (arith, none) in
    ap (λ n. drop n (d ∷ ds)) all

-- a plain name is its own key
plain_is_key : (capitals ds : List ℕ) → capitals ≡ 68 ∷ 66 ∷ ds → are_digits ds ≡ true → without_zeros ds ≡ ds → with_plain_number capitals ≡ 68 ∷ 66 ∷ ds
plain_is_key capitals ds e number kept =
    ap with_plain_number e ∙ ap (λ t. cond t (68 ∷ 66 ∷ without_zeros ds) (68 ∷ 66 ∷ ds)) number ∙ ap (λ xs. 68 ∷ 66 ∷ xs) kept

plain_key : (n : ℕ) → 1 ≤ n → n ≤ 65535 → key_of (codes "DB" ++ decimal n) ≡ 68 ∷ 66 ∷ decimal n
unfolding key_of
plain_key n some small =
    let w = written n (omega (arith, small)) in
    let number : are_digits (decimal n) ≡ true = some_digits (decimal n) w.some w.digits in
    plain_is_key (map to_ascii_uppercase (68 ∷ 66 ∷ decimal n)) (decimal n) (ap (λ xs. 68 ∷ 66 ∷ xs) (no_capitals (decimal n) w.digits)) number
    (all_kept (decimal n) (first_decimal n (omega (arith, some)) (omega (arith, small))))

pub plain_number : (n : ℕ) → 1 ≤ n → n ≤ 65535 → block_number (codes "DB" ++ decimal n) ≡ n
plain_number n some small =
    let w = written n (omega (arith, small)) in
    let number : are_digits (decimal n) ≡ true = some_digits (decimal n) w.some w.digits in
    ap number_in (plain_key n some small) ∙ ap (λ t. cond t (number_from 0 (decimal n)) 0) number ∙ w.value (omega (arith, small))

-- each name of a number has the key of the plain one
pub key_by_number : (n : ℕ) (name : List ℕ) → block_number name ≡ n → 1 ≤ n → n ≤ 65535 → key_of name ≡ key_of (codes "DB" ++ decimal n)
key_by_number n name h some small =
    one_key n (key_of name) (key_of (codes "DB" ++ decimal n)) small (is_key n name h some)
    (is_key n (codes "DB" ++ decimal n) (plain_number n some small) some)

-- Digits to a base that stand for a number: those of a decimal, and hexadecimal ones.
use Rattle.st_tree.proofs.Common.{◌≡◌, ℕ, zero, suc, ◌+◌, ◌-◌, ◌*◌, ◌/◌, ◌%◌, ◌^◌, ◌<◌, ◌≤◌, Bool, true, false, not, ◌==◌, List, [], ◌∷◌, ◌++◌, length, take, refl, ap, ◌∙◌, arith, length-append, if◌then◌else◌, nat_lt, min, decimal, list_all, nat_tests, decimal_by_steps, list_all-append, take-append_seam, hex_digit, is_word_byte, hexadecimal}
use Rattle.st_lexer.proofs.Words.{and_both, not_true}
use Rattle.st_lexer.proofs.Common.{is_digit_to, begins_with_digit, digits_size, value_from, digits_behind, ends_word, Base}
use Rattle.st_lexer.specs.Literals.{digit_value, with_digit}
use Rattle.st_lexer.specs.declared.number.Base.TheVariants.{Two, Eight, Ten, Sixteen}

-- Digits to a base

-- digits that stand for a number
pub record Digits (base : Base) (n : ℕ) (ds : List ℕ) : Type 0 where
  pub digits : list_all (is_digit_to base) ds ≡ true
  pub some : 0 < length ds
  pub value : value_from base 0 ds ≡ n

value_snoc : (base : Base) (value : ℕ) (ds : List ℕ) (d : ℕ) → value_from base value (ds ++ d ∷ []) ≡ with_digit base (value_from base value ds) d
value_snoc base value [] d = refl
value_snoc base value (b ∷ ds) d = value_snoc base (with_digit base value b) ds d

-- no base has a digit above 15
digit_below : (base : Base) (b : ℕ) → is_digit_to base b ≡ true → digit_value b < 16
digit_below Two b h = grind (arith, nat_tests)
digit_below Eight b h = grind (arith, nat_tests)
digit_below Ten b h = grind (arith, nat_tests)
digit_below Sixteen b h = grind (arith, nat_tests)

-- a digit is a byte of words
pub digit_word : (base : Base) (b : ℕ) → is_digit_to base b ≡ true → is_word_byte b ≡ true
digit_word base b h = let below = digit_below base b h in grind (arith, nat_tests)

no_digit : (base : Base) (b : ℕ) → is_word_byte b ≡ false → is_digit_to base b ≡ false
no_digit base b h = by (is_digit_to base b) refl
  where
    by : (t : Bool) → is_digit_to base b ≡ t → t ≡ false
    by true e = absurd (let word = digit_word base b e in cc)
    by false e = refl

pub digits_word : (base : Base) (ds : List ℕ) → list_all (is_digit_to base) ds ≡ true → list_all is_word_byte ds ≡ true
digits_word base [] h = refl
digits_word base (d ∷ ds) h =
    let both = and_both (is_digit_to base d) (list_all (is_digit_to base) ds) h in
    rw (digit_word base d both.0, digits_word base ds both.1) refl

-- digits end where they are not gone on with
pub size_of_digits : (base : Base) (ds more : List ℕ) → list_all (is_digit_to base) ds ≡ true
    → ends_word more ≡ true → digits_size base (ds ++ more) ≡ length ds
size_of_digits base [] [] h e = refl
size_of_digits base [] (b ∷ more) h e =
    let word : is_word_byte b ≡ false = not_true (is_word_byte b) (and_both (not (is_word_byte b)) (not (b == 35)) e).0 in
    let line : (b == 95) ≡ false = grind (arith, nat_tests) in
    rw (no_digit base b word, line) refl
size_of_digits base (d ∷ ds) more h e =
    let both = and_both (is_digit_to base d) (list_all (is_digit_to base) ds) h in
    rw both.0 (rw (size_of_digits base ds more both.1 e) (omega arith))

pub begins_digit : (base : Base) (ds more : List ℕ) → list_all (is_digit_to base) ds ≡ true → 0 < length ds → begins_with_digit base (ds ++ more) ≡ true
begins_digit base [] more h some = absurd (omega arith)
begins_digit base (d ∷ ds) more h some = (and_both (is_digit_to base d) (list_all (is_digit_to base) ds) h).0

-- the number that digits stand for, whatever stands after them that does not go on with it
pub number_of_digits : (before : ℕ) (base : Base) (n : ℕ) (ds more : List ℕ) → Digits base n ds → ends_word more ≡ true
    → digits_behind before base (ds ++ more) ≡ record { value = n; size = before + length ds }
number_of_digits before base n ds more d ends =
    ap (λ (size : ℕ). record { value = value_from base 0 (take size (ds ++ more)); size = before + size }) (size_of_digits base ds more d.digits ends)
    ∙ ap (λ (text : List ℕ). record { value = value_from base 0 text; size = before + length ds }) (take-append_seam ds more)
    ∙ ap (λ (value : ℕ). record { value = value; size = before + length ds }) d.value

-- Decimals

ten_digit : (n : ℕ) → n < 10 → digit_value (48 + n) ≡ n
ten_digit n h = let test : nat_lt n 10 ≡ true = grind (arith, nat_tests) in grind (arith, nat_tests)

with_ten : (value n : ℕ) → n < 10 → with_digit Ten value (48 + n) ≡ min (value * 10 + n) (2 ^ 64 - 1)
with_ten value n h =
    let e : (48 + n == 95) ≡ false = grind (arith, nat_tests) in
    rw e (rw (ten_digit n h) refl)

ten_ok : (n : ℕ) → n < 10 → is_digit_to Ten (48 + n) ≡ true
ten_ok n h = rw (ten_digit n h) (grind (arith, nat_tests))

-- the digits of a decimal, if it is not too great to be kept
record Kept (n : ℕ) (ds : List ℕ) : Type 0 where
  digits : list_all (is_digit_to Ten) ds ≡ true
  some : 0 < length ds
  value : n < 2 ^ 64 → value_from Ten 0 ds ≡ n

one : (n : ℕ) → n < 10 → Kept n ((48 + n) ∷ [])
one n h = record {
  digits = rw (ten_ok n h) refl;
  some = omega arith;
  value = λ small. with_ten 0 n h ∙ omega arith;
}

more_digits : (n : ℕ) (ds : List ℕ) → 10 ≤ n → Kept (n / 10) ds → Kept n (ds ++ ((48 + n % 10) ∷ []))
more_digits n ds h d = record {
  digits = list_all-append (is_digit_to Ten) ds ((48 + n % 10) ∷ []) ∙ rw (d.digits, ten_ok (n % 10) (omega arith)) refl;
  some = omega (arith, length-append ds ((48 + n % 10) ∷ []));
  value = λ small.
      let before : value_from Ten 0 ds ≡ n / 10 = d.value (omega arith) in
      value_snoc Ten 0 ds (48 + n % 10) ∙ rw before (with_ten (n / 10) (n % 10) (omega arith) ∙ omega arith);
}

pub decimal_digits : (n : ℕ) → n < 2 ^ 64 → Digits Ten n (decimal n)
decimal_digits n small =
    let kept : Kept n (decimal n) = decimal_by_steps Kept one more_digits n small in
    record { digits = kept.digits; some = kept.some; value = kept.value small }

-- Hexadecimal digits

-- one more than the greatest number of so many digits
abbrev pub past : ℕ → ℕ
past zero = 1
past (suc count) = past count * 16

sixteen_digit : (d : ℕ) → d < 16 → digit_value (hex_digit d) ≡ d
sixteen_digit d h = by (nat_lt d 10) refl
  where
    by : (t : Bool) → nat_lt d 10 ≡ t → digit_value (if t then 48 + d else 55 + d) ≡ d
    by true e = ten_digit d (grind (arith, nat_tests))
    by false e = grind (arith, nat_tests)

no_line : (d : ℕ) → d < 16 → (hex_digit d == 95) ≡ false
no_line d h = by (nat_lt d 10)
  where
    by : (t : Bool) → ((if t then 48 + d else 55 + d) == 95) ≡ false
    by true = grind (arith, nat_tests)
    by false = grind (arith, nat_tests)

with_sixteen : (value d : ℕ) → d < 16 → with_digit Sixteen value (hex_digit d) ≡ min (value * 16 + d) (2 ^ 64 - 1)
with_sixteen value d h = rw (no_line d h) (rw (sixteen_digit d h) refl)

sixteen_ok : (d : ℕ) → d < 16 → is_digit_to Sixteen (hex_digit d) ≡ true
sixteen_ok d h = rw (sixteen_digit d h) (grind (arith, nat_tests))

pub length_of_hexadecimal : (count n : ℕ) → length (hexadecimal count n) ≡ count
unfolding hexadecimal
length_of_hexadecimal zero n = refl
length_of_hexadecimal (suc count) n = omega (arith, length-append (hexadecimal count (n / 16)) (hex_digit (n % 16) ∷ []), length_of_hexadecimal count (n / 16))

all_hexadecimal : (count n : ℕ) → list_all (is_digit_to Sixteen) (hexadecimal count n) ≡ true
unfolding hexadecimal
all_hexadecimal zero n = refl
all_hexadecimal (suc count) n =
    list_all-append (is_digit_to Sixteen) (hexadecimal count (n / 16)) (hex_digit (n % 16) ∷ [])
    ∙ rw (all_hexadecimal count (n / 16), sixteen_ok (n % 16) (omega arith)) refl

value_of_hexadecimal : (count n : ℕ) → n < past count → n < 2 ^ 64 → value_from Sixteen 0 (hexadecimal count n) ≡ n
unfolding hexadecimal
value_of_hexadecimal zero n h small = omega arith
value_of_hexadecimal (suc count) n h small =
    let before : value_from Sixteen 0 (hexadecimal count (n / 16)) ≡ n / 16 = value_of_hexadecimal count (n / 16) (omega arith) (omega arith) in
    value_snoc Sixteen 0 (hexadecimal count (n / 16)) (hex_digit (n % 16)) ∙ rw before (with_sixteen (n / 16) (n % 16) (omega arith) ∙ omega arith)

pub hexadecimal_digits : (count n : ℕ) → 0 < count → n < past count → n < 2 ^ 64 → Digits Sixteen n (hexadecimal count n)
hexadecimal_digits count n some below small = record {
  digits = all_hexadecimal count n;
  some = omega (arith, length_of_hexadecimal count n);
  value = value_of_hexadecimal count n below small;
}

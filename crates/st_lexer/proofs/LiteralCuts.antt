-- Literals of a canonical text, whatever stands after them that does not go on with them.
use Rattle.st_tree.proofs.Common.{◌≡◌, ℕ, suc, ◌+◌, ◌^◌, ◌<◌, Bool, true, false, ◌&&◌, List, [], ◌∷◌, ◌++◌, length, Option, Some, refl, sym, ap, ◌∙◌, arith, append_assoc, append-nil, length-append, ℤ, pos, unsigned_abs, int_lt, if◌then◌else◌, nat_le, decimal, codes, option_map, nat_tests, begins_with, byte_text, hexadecimal, integer_text, literal_text}
use Rattle.st_lexer.proofs.Digits.{Digits, past, digits_word, begins_digit, decimal_digits, hexadecimal_digits, length_of_hexadecimal}
use Rattle.st_lexer.proofs.NumberCuts.{decimal_to, decimal_at, marked_at}
use Rattle.st_lexer.proofs.Words.{and_both, if_true, if_false, no_type}
use Rattle.st_lexer.proofs.Common.{is_digit_to, type_of_base, begins_with_digit, base_at, number_at, greatest, is_signed, literal_of_number, number_behind, literal_behind, literal_at, ends_word, has_value, IsLiteral, is_blank, is_letter, token, ranged_piece, number_piece, piece_at, Literal, Base, StType}
use Rattle.st_lexer.specs.SpellingLaws.{LiteralsAreTokens, is_number}
use Rattle.st_lexer.specs.declared.number.Base.TheVariants as base
use Rattle.st_tree.specs.declared.token.StKind.TheVariants as sort
use Rattle.st_tree.specs.declared.expr.StType.TheVariants as type

abbrev literal : StType → Bool → ℕ → ℕ → Literal
literal ty minus n size = record { kind = ty; minus = minus; number = n; size = size }

-- a text is a literal where it is a piece and has this value, whatever stands after it
literal_is : (text : List ℕ) (ty : StType) (n : ℤ)
    → ((more : List ℕ) → ends_word more ≡ true → literal_at (text ++ more) ≡ Some (literal ty (int_lt n (pos 0)) (unsigned_abs n) (length text)))
    → ((more : List ℕ) → ends_word more ≡ true → piece_at (text ++ more) ≡ Some (token sort.Literal (length text))) → IsLiteral text ty n
literal_is text ty n at piece = record {
  is_token = λ more ends. record { found = piece more ends; size = refl };
  found = ap literal_at (sym (append-nil text)) ∙ at [] refl;
}

-- After a type

-- the word of a type and `#`
record IsType (ty : StType) (word : List ℕ) : Type 0 where
  at : (x : List ℕ) → literal_at (word ++ x) ≡ number_behind ty (length word) x
  piece : (x : List ℕ) → piece_at (word ++ x) ≡ ranged_piece (literal_at (word ++ x))

byte_word : IsType type.Byte (codes "BYTE#")
byte_word = record { at = λ x. refl; piece = λ x. refl }

word_word : IsType type.Word (codes "WORD#")
word_word = record { at = λ x. refl; piece = λ x. refl }

dword_word : IsType type.Dword (codes "DWORD#")
dword_word = record { at = λ x. refl; piece = λ x. refl }

int_word : IsType type.Int (codes "INT#")
int_word = record { at = λ x. refl; piece = λ x. refl }

dint_word : IsType type.Dint (codes "DINT#")
dint_word = record { at = λ x. refl; piece = λ x. refl }

lint_word : IsType type.Lint (codes "LINT#")
lint_word = record { at = λ x. refl; piece = λ x. refl }

-- a text after a type is a literal where its number is found
typed_is : (ty : StType) (word x : List ℕ) (n : ℤ) → IsType ty word → nat_le (unsigned_abs n) (greatest ty (int_lt n (pos 0))) ≡ true
    → ((more : List ℕ) → ends_word more ≡ true
    → number_behind ty (length word) (x ++ more) ≡ Some (literal ty (int_lt n (pos 0)) (unsigned_abs n) (length word + length x)))
    → IsLiteral (word ++ x) ty n
typed_is ty word x n is_type kept number = literal_is (word ++ x) ty n at (λ more ends. piece more ends)
  where
    at : (more : List ℕ) → ends_word more ≡ true → literal_at ((word ++ x) ++ more) ≡ Some (literal ty (int_lt n (pos 0)) (unsigned_abs n) (length (word ++ x)))
    at more ends =
        ap literal_at (append_assoc word x more) ∙ is_type.at (x ++ more) ∙ number more ends
        ∙ ap (λ (k : ℕ). Some (literal ty (int_lt n (pos 0)) (unsigned_abs n) k)) (sym (length-append word x))

    piece : (more : List ℕ) → ends_word more ≡ true → piece_at ((word ++ x) ++ more) ≡ Some (token sort.Literal (length (word ++ x)))
    piece more ends =
        ap piece_at (append_assoc word x more)
        ∙ is_type.piece (x ++ more)
        ∙ ap (λ (text : List ℕ). ranged_piece (literal_at text)) (sym (append_assoc word x more))
        ∙ ap ranged_piece (at more ends) ∙ if_true (nat_le (unsigned_abs n) (greatest ty (int_lt n (pos 0)))) _ _ kept

-- a pattern after its type
pattern_behind : (ty : StType) (before count m : ℕ) (more : List ℕ) → is_signed ty ≡ false → 0 < count → m < past count → m < 2 ^ 64 → ends_word more ≡ true
    → number_behind ty before ((codes "16#" ++ hexadecimal count m) ++ more) ≡ Some (literal ty false m (before + length (codes "16#" ++ hexadecimal count m)))
pattern_behind ty before count m more unsigned some below small ends =
    let size : 3 + length (hexadecimal count m) ≡ length (codes "16#" ++ hexadecimal count m) = omega arith in
    rw unsigned
    (ap (option_map (literal_of_number ty false before)) (marked_at m (hexadecimal count m) more (hexadecimal_digits count m some below small) ends).1
    ∙ ap (λ (k : ℕ). Some (literal ty false m (before + k))) size)

-- no decimal begins with `-`
no_sign : (m : ℕ) (more : List ℕ) → m < 2 ^ 64 → begins_with 45 (decimal m ++ more) ≡ false
no_sign m more small =
    let d : Digits base.Ten m (decimal m) = decimal_digits m small in
    by (decimal m ++ more) (begins_digit base.Ten (decimal m) more d.digits d.some)
  where
    by : (bytes : List ℕ) → begins_with_digit base.Ten bytes ≡ true → begins_with 45 bytes ≡ false
    by [] h = absurd cc
    by (b ∷ bytes) h = grind (arith, nat_tests)

abbrev with_sign : Bool → ℕ → List ℕ
with_sign minus m = if minus then codes "-" ++ decimal m else decimal m

-- an integer after its type
integer_behind : (ty : StType) (before m : ℕ) (minus : Bool) (more : List ℕ) → is_signed ty ≡ true → m < 2 ^ 64 → ends_word more ≡ true
    → number_behind ty before (with_sign minus m ++ more) ≡ Some (literal ty minus m (before + length (with_sign minus m)))
integer_behind ty before m true more is small ends =
    let size : before + 1 + length (decimal m) ≡ before + length (codes "-" ++ decimal m) = omega arith in
    rw is (ap (option_map (literal_of_number ty true (before + 1))) (decimal_to m more small ends) ∙ ap (λ (k : ℕ). Some (literal ty true m k)) size)
integer_behind ty before m false more is small ends =
    rw (is, no_sign m more small) (ap (option_map (literal_of_number ty false before)) (decimal_at m more small ends).1)

-- a type has a number after a `-` or without one
abbrev fits : StType → Bool → ℕ → Bool
fits ty minus m = if minus then is_signed ty && nat_le m (greatest ty true) else nat_le m (greatest ty false)

value_within : (ty : StType) (minus : Bool) (m : ℕ) → fits ty minus m ≡ true → nat_le m (greatest ty minus) ≡ true
value_within ty true m h = (and_both (is_signed ty) (nat_le m (greatest ty true)) h).1
value_within ty false m h = h

-- a pattern has no sign
no_minus : (ty : StType) (minus : Bool) (m : ℕ) → is_signed ty ≡ false → fits ty minus m ≡ true → minus ≡ false
no_minus ty true m unsigned h = absurd (let signed = (and_both (is_signed ty) (nat_le m (greatest ty true)) h).0 in cc)
no_minus ty false m unsigned h = refl

pattern_is : (ty : StType) (word : List ℕ) (count : ℕ) (n : ℤ) → IsType ty word
    → is_signed ty ≡ false → 0 < count → unsigned_abs n < past count → unsigned_abs n < 2 ^ 64
    → has_value ty n ≡ true → IsLiteral (word ++ (codes "16#" ++ hexadecimal count (unsigned_abs n))) ty n
pattern_is ty word count n is_type unsigned some below small h =
    let plus : int_lt n (pos 0) ≡ false = no_minus ty (int_lt n (pos 0)) (unsigned_abs n) unsigned h in
    typed_is ty word (codes "16#" ++ hexadecimal count (unsigned_abs n)) n is_type (value_within ty (int_lt n (pos 0)) (unsigned_abs n) h)
    (λ more ends. pattern_behind ty (length word) count (unsigned_abs n) more unsigned some below small ends
    ∙ ap (λ (minus : Bool). Some (literal ty minus (unsigned_abs n) (length word + length (codes "16#" ++ hexadecimal count (unsigned_abs n))))) (sym plus))

integer_is : (ty : StType) (word : List ℕ) (n : ℤ) → IsType ty word → is_signed ty ≡ true → unsigned_abs n < 2 ^ 64 → has_value ty n ≡ true
    → IsLiteral (word ++ integer_text n) ty n
integer_is ty word n is_type signed small h =
    typed_is ty word (integer_text n) n is_type (value_within ty (int_lt n (pos 0)) (unsigned_abs n) h)
    (λ more ends. integer_behind ty (length word) (unsigned_abs n) (int_lt n (pos 0)) more signed small ends)

-- Numbers without a type

-- a digit at the front begins a number
number_stands : (bytes : List ℕ) → begins_with_digit base.Ten bytes ≡ true → piece_at bytes ≡ number_piece (base_at bytes) (literal_at bytes)
number_stands [] h = absurd cc
number_stands (b ∷ rest) h =
    let no_blank : is_blank b ≡ false = grind (arith, nat_tests) in
    let no_letter : is_letter b ≡ false = grind (arith, nat_tests) in
    if_false (is_blank b) _ _ no_blank ∙ if_false (is_letter b) _ _ no_letter ∙ if_true (is_digit_to base.Ten b) _ _ h

decimal_literal : (m : ℕ) (more : List ℕ) → m < 2 ^ 64 → ends_word more ≡ true
    → literal_at (decimal m ++ more) ≡ Some (literal type.Dint false m (length (decimal m)))
decimal_literal m more small ends =
    let d : Digits base.Ten m (decimal m) = decimal_digits m small in
    let size : 0 + length (decimal m) ≡ length (decimal m) = omega arith in
    let found = decimal_at m more small ends in
    ap (λ (o : Option StType). literal_behind o (decimal m ++ more)) (no_type (decimal m) more (digits_word base.Ten (decimal m) d.digits) ends)
    ∙ ap (λ (b : Base). option_map (literal_of_number (type_of_base b) false 0) (number_at (decimal m ++ more))) found.0
    ∙ ap (option_map (literal_of_number type.Dint false 0)) found.1
    ∙ ap (λ (k : ℕ). Some (literal type.Dint false m k)) size

decimal_is : (n : ℤ) → int_lt n (pos 0) ≡ false → unsigned_abs n < 2 ^ 64 → IsLiteral (decimal (unsigned_abs n)) type.Dint n
decimal_is n plus small = literal_is (decimal (unsigned_abs n)) type.Dint n
    (λ more ends. decimal_literal (unsigned_abs n) more small ends
    ∙ ap (λ (minus : Bool). Some (literal type.Dint minus (unsigned_abs n) (length (decimal (unsigned_abs n))))) (sym plus))
    piece
  where
    piece : (more : List ℕ) → ends_word more ≡ true
        → piece_at (decimal (unsigned_abs n) ++ more) ≡ Some (token sort.Literal (length (decimal (unsigned_abs n))))
    piece more ends =
        let d : Digits base.Ten (unsigned_abs n) (decimal (unsigned_abs n)) = decimal_digits (unsigned_abs n) small in
        number_stands (decimal (unsigned_abs n) ++ more) (begins_digit base.Ten (decimal (unsigned_abs n)) more d.digits d.some)
        ∙ ap (λ (b : Base). number_piece b (literal_at (decimal (unsigned_abs n) ++ more))) (decimal_at (unsigned_abs n) more small ends).0
        ∙ ap (number_piece base.Ten) (decimal_literal (unsigned_abs n) more small ends)

not_below : (m : ℕ) → int_lt (pos m) (pos 0) ≡ false
not_below m = grind (arith, nat_tests)

byte_literal : (b : ℕ) (more : List ℕ) → b < 256 → ends_word more ≡ true
    → literal_at (byte_text b ++ more) ≡ Some (literal type.Dword false b (length (byte_text b)))
byte_literal b more small ends =
    let found = marked_at b (hexadecimal 2 b) more (hexadecimal_digits 2 b (omega arith) small (omega arith)) ends in
    let size : 0 + (3 + length (hexadecimal 2 b)) ≡ length (codes "16#" ++ hexadecimal 2 b) = omega arith in
    ap (λ (o : Base). option_map (literal_of_number (type_of_base o) false 0) (number_at (byte_text b ++ more))) found.0
    ∙ ap (option_map (literal_of_number type.Dword false 0)) found.1
    ∙ ap (λ (k : ℕ). Some (literal type.Dword false b k)) size

byte_is : (b : ℕ) → b < 256 → IsLiteral (byte_text b) type.Dword (pos b)
byte_is b small = literal_is (byte_text b) type.Dword (pos b)
    (λ more ends. byte_literal b more small ends ∙ ap (λ (minus : Bool). Some (literal type.Dword minus b (length (byte_text b)))) (sym (not_below b)))
    piece
  where
    piece : (more : List ℕ) → ends_word more ≡ true → piece_at (byte_text b ++ more) ≡ Some (token sort.Literal (length (byte_text b)))
    piece more ends =
        let kept : nat_le b 4294967295 ≡ true = grind (arith, nat_tests) in
        ap (λ (o : Base). number_piece o (literal_at (byte_text b ++ more)))
        (marked_at b (hexadecimal 2 b) more (hexadecimal_digits 2 b (omega arith) small (omega arith)) ends).0
        ∙ ap ranged_piece (byte_literal b more small ends) ∙ if_true (nat_le b 4294967295) _ _ kept

-- All literals

below : (m most : ℕ) → nat_le m most ≡ true → m < suc most
below m most h = grind (arith, nat_tests)

-- no type has a number of more than 64 bits
within_64 : (ty : StType) (minus : Bool) (m : ℕ) → nat_le m (greatest ty minus) ≡ true → m < 2 ^ 64
within_64 type.Bool minus m h = omega (arith, below m 1 h)
within_64 type.Byte minus m h = omega (arith, below m 255 h)
within_64 type.Word minus m h = omega (arith, below m 65535 h)
within_64 type.Dword minus m h = omega (arith, below m 4294967295 h)
within_64 type.Int true m h = omega (arith, below m 32768 h)
within_64 type.Int false m h = omega (arith, below m 32767 h)
within_64 type.Dint true m h = omega (arith, below m 2147483648 h)
within_64 type.Dint false m h = omega (arith, below m 2147483647 h)
within_64 type.Lint true m h = omega (arith, below m 9223372036854775808 h)
within_64 type.Lint false m h = omega (arith, below m 9223372036854775807 h)

-- a DINT is plain from 0 on
dint_is : (n : ℤ) (minus : Bool) → int_lt n (pos 0) ≡ minus → unsigned_abs n < 2 ^ 64 → has_value type.Dint n ≡ true
    → IsLiteral (if minus then codes "DINT#" ++ integer_text n else decimal (unsigned_abs n)) type.Dint n
dint_is n true e small h = integer_is type.Dint (codes "DINT#") n dint_word refl small h
dint_is n false e small h = decimal_is n e small

typed : (ty : StType) (n : ℤ) → is_number ty ≡ true → unsigned_abs n < 2 ^ 64
    → nat_le (unsigned_abs n) (greatest ty (int_lt n (pos 0))) ≡ true → has_value ty n ≡ true
    → IsLiteral (literal_text ty n) ty n
unfolding literal_text
typed type.Bool n is small kept h = absurd cc
typed type.Byte n is small kept h = pattern_is type.Byte (codes "BYTE#") 2 n byte_word refl (omega arith) (below (unsigned_abs n) 255 kept) small h
typed type.Word n is small kept h = pattern_is type.Word (codes "WORD#") 4 n word_word refl (omega arith) (below (unsigned_abs n) 65535 kept) small h
typed type.Dword n is small kept h = pattern_is type.Dword (codes "DWORD#") 8 n dword_word refl (omega arith) (below (unsigned_abs n) 4294967295 kept) small h
typed type.Int n is small kept h = integer_is type.Int (codes "INT#") n int_word refl small h
typed type.Dint n is small kept h = dint_is n (int_lt n (pos 0)) refl small h
typed type.Lint n is small kept h = integer_is type.Lint (codes "LINT#") n lint_word refl small h

pub literals_stand : LiteralsAreTokens
literals_stand = record {
  typed = λ ty n is h.
      let kept : nat_le (unsigned_abs n) (greatest ty (int_lt n (pos 0))) ≡ true = value_within ty (int_lt n (pos 0)) (unsigned_abs n) h in
      typed ty n is (within_64 ty (int_lt n (pos 0)) (unsigned_abs n) kept) kept h;
  plain = λ n h. decimal_is (pos n) (not_below n) (omega (arith, below n 2147483647 h));
  in_plain = λ n h.
      let small : n < 2 ^ 64 = omega (arith, below n 2147483647 h) in
      let d : Digits base.Ten n (decimal n) = decimal_digits n small in
      let alone : decimal n ++ [] ≡ decimal n = append-nil (decimal n) in (
        ap base_at (sym alone) ∙ (decimal_at n [] small refl).0,
        ap (begins_with_digit base.Ten) (sym alone) ∙ begins_digit base.Ten (decimal n) [] d.digits d.some,
      );
  byte = λ b h. byte_is b (below b 255 h);
  in_byte = λ b h.
      let small : b < 256 = below b 255 h in
      let alone : byte_text b ++ [] ≡ byte_text b = append-nil (byte_text b) in (
        ap base_at (sym alone) ∙ (marked_at b (hexadecimal 2 b) [] (hexadecimal_digits 2 b (omega arith) small (omega arith)) refl).0,
        length_of_hexadecimal 2 b,
      );
}

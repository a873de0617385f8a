-- The literals and variables of a canonical text, each before what is read after it.
use Rattle.st_tree.proofs.Common.{◌≡◌, ℕ, suc, zero, ◌+◌, ◌-◌, ◌/◌, ◌%◌, ◌^◌, ◌<◌, ◌≤◌, Bool, true, false, not, ◌&&◌, ◌==◌, ◌⊎◌, inl, inr, List, [], ◌∷◌, ◌++◌, length, drop, Option, Some, None, refl, ap, subst, ◌∙◌, arith, ℤ, pos, negsuc, neg_ℤ, unsigned_abs, int_lt, nat_lt, nat_le, min, if◌then◌else◌, codes, decimal, nat_tests, decimal_by_steps, list_all-append, hex_digit, AreaName, Line, Width, bit_text, byte_text, hexadecimal, integer_text, literal_text, place_text, var_text, Names, area_word, width_word}
use Rattle.memory_areas.specs.declared.place.AreaName.TheVariants as area
use Rattle.s7_base.specs.declared.word.Width.TheVariants as width
use Rattle.st_lexer.proofs.LiteralCuts.{literals_stand}
use Rattle.st_lexer.proofs.PlaceCuts.{places_stand}
use Rattle.st_lexer.proofs.Words.{and_both, if_true, if_false}
use Rattle.st_lexer.proofs.Common.{base_at, begins_with_digit, greatest, is_signed, literal_at, ends_word, has_value, is_bit_of, is_block_of, is_byte, is_decimal, IsLiteral, place_in, is_great, StType, Var}
use Rattle.st_lexer.specs.declared.literal.Literal.{Literal as LexedLiteral}
use Rattle.st_lexer.specs.declared.number.Base.{Base}
use Rattle.st_lexer.specs.declared.number.Base.TheVariants as base
use Rattle.st_tree.specs.declared.token.StKind.TheVariants as sort
use Rattle.st_text_laws.proofs.Cuts.{ReadsOn, has_no_line, reads_text, where_spelled}
use Rattle.st_text_laws.proofs.CutWords.{reads_keyword, reads_name}
use Rattle.st_text_laws.proofs.Common.{literal_form, on, raw_var, is_literal, GrammarKind}
use Rattle.st_grammar.specs.Kinds.{are_two_digits, decimal_kind, direct_kind, literal_kind, number_kind, text_kind, typed_kind, word_named, word_text}
use Rattle.st_grammar.specs.declared.kind.GrammarKind.TheVariants as kind
use Rattle.st_grammar.specs.declared.kind.Literal.TheVariants as lit
use Rattle.st_tree.specs.declared.expr.StType.TheVariants as type
use Rattle.st_tree.specs.declared.expr.Var.TheVariants as tree_var
use Rattle.st_tree.specs.declared.raw.RawVar.TheVariants as var

-- No end of a line

pub no_line_both : (a b : List ℕ) → has_no_line a ≡ true → has_no_line b ≡ true → has_no_line (a ++ b) ≡ true
no_line_both a b h k = list_all-append (λ x. not (x == 10)) a b ∙ rw (h, k) refl

one_digit : (n : ℕ) → n < 10 → has_no_line ((48 + n) ∷ []) ≡ true
one_digit n h = grind (arith, nat_tests)

more_digits : (n : ℕ) (ds : List ℕ) → 10 ≤ n → has_no_line ds ≡ true → has_no_line (ds ++ ((48 + n % 10) ∷ [])) ≡ true
more_digits n ds h d = no_line_both ds ((48 + n % 10) ∷ []) d (one_digit (n % 10) (omega arith))

decimal_no_line : (n : ℕ) → n < 2 ^ 64 → has_no_line (decimal n) ≡ true
decimal_no_line n small = decimal_by_steps (λ m ds. has_no_line ds ≡ true) one_digit more_digits n small

digit_no_line : (d : ℕ) → has_no_line (hex_digit d ∷ []) ≡ true
digit_no_line d = by (nat_lt d 10)
  where
    by : (t : Bool) → has_no_line ((if t then 48 + d else 55 + d) ∷ []) ≡ true
    by true = grind (arith, nat_tests)
    by false = grind (arith, nat_tests)

hexadecimal_no_line : (count n : ℕ) → has_no_line (hexadecimal count n) ≡ true
unfolding hexadecimal
hexadecimal_no_line zero n = refl
hexadecimal_no_line (suc count) n =
    no_line_both (hexadecimal count (n / 16)) (hex_digit (n % 16) ∷ []) (hexadecimal_no_line count (n / 16)) (digit_no_line (n % 16))

-- Literals

in_range : (ty : StType) (minus : Bool) (m : ℕ) → (if minus then is_signed ty && nat_le m (greatest ty true) else nat_le m (greatest ty false)) ≡ true
    → nat_le m (greatest ty minus) ≡ true
in_range ty true m h = (and_both (is_signed ty) (nat_le m (greatest ty true)) h).1
in_range ty false m h = h

below : (m most : ℕ) → nat_le m most ≡ true → m < suc most
below m most h = grind (arith, nat_tests)

greatest_small : (minus : Bool) (ty : StType) → greatest ty minus < 2 ^ 64
greatest_small true type.Bool = omega arith
greatest_small false type.Bool = omega arith
greatest_small minus ty = omega arith

within_64 : (ty : StType) (minus : Bool) (m : ℕ) → nat_le m (greatest ty minus) ≡ true → m < 2 ^ 64
within_64 ty minus m h = omega (arith, below m (greatest ty minus) h, greatest_small minus ty)

signed_same : (n : ℤ) → (if int_lt n (pos 0) then neg_ℤ (pos (unsigned_abs n)) else pos (unsigned_abs n)) ≡ n
signed_same (pos m) = let plus : int_lt (pos m) (pos 0) ≡ false = grind (arith, nat_tests) in if_false (int_lt (pos m) (pos 0)) (neg_ℤ (pos m)) (pos m) plus
signed_same (negsuc m) = refl

-- a token of a literal that its type has
record IsRead (text : List ℕ) (k : GrammarKind) : Type 0 where
  is_kind : (line : Line) → text_kind sort.Literal text line ≡ k
  small : is_great sort.Literal (literal_at text) ≡ false

-- what is found where a literal of a type stands
abbrev found_at : List ℕ → StType → ℤ → LexedLiteral
found_at text ty n = record { kind = ty; minus = int_lt n (pos 0); number = unsigned_abs n; size = length text }

of_literal : (text : List ℕ) (ty : StType) (n : ℤ) (to : Base) (k : GrammarKind) → IsLiteral text ty n → has_value ty n ≡ true → base_at text ≡ to
    → literal_kind to text (found_at text ty n) ≡ k → IsRead text k
of_literal text ty n to k is h based same = record {
  is_kind = λ line. ap (λ (o : Option LexedLiteral). number_kind o text) is.found ∙ ap (λ (b : Base). literal_kind b text (found_at text ty n)) based ∙ same;
  small = ap (λ (o : Option LexedLiteral). is_great sort.Literal o) is.found ∙ ap not (in_range ty (int_lt n (pos 0)) (unsigned_abs n) h);
}

typed_read : (text : List ℕ) (ty : StType) (n : ℤ) → IsLiteral text ty n
    → has_value ty n ≡ true → base_at text ≡ base.Ten → begins_with_digit base.Ten text ≡ false
    → IsRead text (kind.Literal (lit.Typed ty n))
typed_read text ty n is h ten plain =
    of_literal text ty n base.Ten _ is h ten (if_false (begins_with_digit base.Ten text) _ (typed_kind (found_at text ty n)) plain
    ∙ if_true (nat_le (unsigned_abs n) (greatest ty (int_lt n (pos 0)))) _ _ (in_range ty (int_lt n (pos 0)) (unsigned_abs n) h)
    ∙ ap (λ (m : ℤ). kind.Literal (lit.Typed ty m)) (signed_same n))

-- a number from 0 on has a value of a type that goes so far
plain_value : (ty : StType) (n : ℕ) → nat_le n (greatest ty false) ≡ true → has_value ty (pos n) ≡ true
plain_value ty n h = let plus : int_lt (pos n) (pos 0) ≡ false = grind (arith, nat_tests) in if_false (int_lt (pos n) (pos 0)) _ _ plus ∙ h

decimal_read : (n : ℕ) → is_decimal n ≡ true → IsRead (decimal n) (kind.Literal (lit.Decimal n))
decimal_read n h =
    let plain = literals_stand.in_plain n h in
    let kept : min n (2 ^ 32 - 1) ≡ n = omega (arith, below n 2147483647 h) in
    of_literal (decimal n) type.Dint (pos n) base.Ten _ (literals_stand.plain n h) (plain_value type.Dint n h) plain.0
    (if_true (begins_with_digit base.Ten (decimal n)) (decimal_kind n) _ plain.1 ∙ ap (λ (m : ℕ). kind.Literal (lit.Decimal m)) kept)

two_digits : (text : List ℕ) → length text ≡ 2 → are_two_digits text ≡ true
two_digits [] h = absurd (omega (arith, h))
two_digits (a ∷ []) h = absurd (omega (arith, h))
two_digits (a ∷ b ∷ []) h = refl
two_digits (a ∷ b ∷ c ∷ text) h = absurd (omega (arith, h))

byte_read : (b : ℕ) → is_byte b ≡ true → IsRead (byte_text b) (kind.Literal (lit.Byte b))
byte_read b h =
    let plain = literals_stand.in_byte b h in
    let kept : min b 255 ≡ b = omega (arith, below b 255 h) in
    let range : nat_le b 4294967295 ≡ true = grind (arith, nat_tests) in
    of_literal (byte_text b) type.Dword (pos b) base.Sixteen _ (literals_stand.byte b h) (plain_value type.Dword b range) plain.0
    (if_true (are_two_digits (drop 3 (byte_text b))) (kind.Literal (lit.Byte (min b 255))) _ (two_digits (drop 3 (byte_text b)) plain.1)
    ∙ ap (λ (m : ℕ). kind.Literal
    (lit.Byte m)) kept)

pub reads_decimal : {line : ℕ} {more : List ℕ} {ks : List GrammarKind} (n : ℕ) → ends_word more ≡ true → ReadsOn line more ks
    → ReadsOn line (decimal n ++ more) (kind.Literal (lit.Decimal n) ∷ ks)
reads_decimal {line} n ends r = where_spelled (λ h.
    let read = decimal_read n h in
    reads_text sort.Literal (decimal n) (literals_stand.plain n h).is_token ends
    (decimal_no_line n (omega (arith, below n 2147483647 h))) (read.is_kind (on line)) read.small r)

pub reads_byte : {line : ℕ} {more : List ℕ} {ks : List GrammarKind} (b : ℕ) → ends_word more ≡ true → ReadsOn line more ks
    → ReadsOn line (byte_text b ++ more) (kind.Literal (lit.Byte b) ∷ ks)
reads_byte {line} b ends r = where_spelled (λ h.
    let read = byte_read b h in
    reads_text sort.Literal (byte_text b) (literals_stand.byte b h).is_token ends
    (no_line_both (codes "16#") (hexadecimal 2 b) refl (hexadecimal_no_line 2 b)) (read.is_kind
    (on line)) read.small r)

-- a typed text, with what is known of its front and of what stands behind that
reads_typed : {line : ℕ} {more : List ℕ} {ks : List GrammarKind} (front back : List ℕ) (ty : StType) (n : ℤ)
    → IsLiteral (front ++ back) ty n → has_value ty n ≡ true
    → base_at (front ++ back) ≡ base.Ten → begins_with_digit base.Ten (front ++ back) ≡ false
    → has_no_line front ≡ true → has_no_line back ≡ true → ends_word more ≡ true
    → ReadsOn line more ks → ReadsOn line ((front ++ back) ++ more) (kind.Literal (lit.Typed ty n) ∷ ks)
reads_typed {line} front back ty n is h ten plain first last ends r =
    let read = typed_read (front ++ back) ty n is h ten plain in
    reads_text sort.Literal (front ++ back) is.is_token ends (no_line_both front back first last) (read.is_kind (on line)) read.small r

integer_no_line : (n : ℤ) → unsigned_abs n < 2 ^ 64 → has_no_line (integer_text n) ≡ true
integer_no_line n small = by (int_lt n (pos 0))
  where
    by : (t : Bool) → has_no_line (if t then codes "-" ++ decimal (unsigned_abs n) else decimal (unsigned_abs n)) ≡ true
    by true = decimal_no_line (unsigned_abs n) small
    by false = decimal_no_line (unsigned_abs n) small

value_cases : (n : ℤ) → has_value type.Bool n ≡ true → (n ≡ pos 0) ⊎ (n ≡ pos 1)
value_cases (pos zero) h = inl refl
value_cases (pos (suc zero)) h = inr refl
value_cases (pos (suc (suc m))) h = absurd (omega (arith, below (suc (suc m)) 1 (in_range type.Bool (int_lt (pos (suc (suc m))) (pos 0)) (suc (suc m)) h)))
value_cases (negsuc m) h = absurd cc

reads_truth : {line : ℕ} {more : List ℕ} {ks : List GrammarKind} (n : ℤ) → (n ≡ pos 0) ⊎ (n ≡ pos 1) → ends_word more ≡ true → ReadsOn line more ks
    → ReadsOn line (literal_text type.Bool n ++ more) (kind.Literal (lit.Typed type.Bool n) ∷ ks)
unfolding literal_text word_named word_text
reads_truth n (inl e) ends r = rw e (reads_keyword (codes "FALSE") refl ends refl r)
reads_truth n (inr e) ends r = rw e (reads_keyword (codes "TRUE") refl ends refl r)

small_value : (ty : StType) (n : ℤ) → has_value ty n ≡ true → unsigned_abs n < 2 ^ 64
small_value ty n h = within_64 ty (int_lt n (pos 0)) (unsigned_abs n) (in_range ty (int_lt n (pos 0)) (unsigned_abs n) h)

-- a DINT from 0 on is plain
reads_dint : {line : ℕ} {more : List ℕ} {ks : List GrammarKind} (n : ℤ) (minus : Bool) → int_lt n (pos 0) ≡ minus
    → is_literal (if minus then lit.Typed type.Dint n else lit.Decimal (unsigned_abs n)) ≡ true → ends_word more ≡ true → ReadsOn line more ks
    → ReadsOn line ((if minus then codes "DINT#" ++ integer_text n else decimal (unsigned_abs n)) ++ more)
    (kind.Literal (if minus then lit.Typed type.Dint n else lit.Decimal (unsigned_abs n)) ∷ ks)
unfolding literal_text
reads_dint n true e h ends r =
    let text : (if int_lt n (pos 0) then codes "DINT#" ++ integer_text n else decimal (unsigned_abs n)) ≡ codes "DINT#" ++ integer_text n =
    if_true (int_lt n (pos 0)) _ _ e in
    reads_typed (codes "DINT#") (integer_text n) type.Dint n
    (subst (λ (t : List ℕ). IsLiteral t type.Dint n) text (literals_stand.typed type.Dint n refl h)) h refl refl
    refl (integer_no_line n (small_value type.Dint n h)) ends r
reads_dint n false e h ends r = reads_decimal (unsigned_abs n) ends r

literal_reads : {line : ℕ} {more : List ℕ} {ks : List GrammarKind} (ty : StType) (n : ℤ)
    → is_literal (literal_form ty n) ≡ true → ends_word more ≡ true → ReadsOn line more ks
    → ReadsOn line (literal_text ty n ++ more) (kind.Literal (literal_form ty n) ∷ ks)
unfolding literal_text
literal_reads type.Bool n h ends r = reads_truth n (value_cases n h) ends r
literal_reads type.Dint n h ends r = reads_dint n (int_lt n (pos 0)) refl h ends r
literal_reads type.Byte n h ends r =
    reads_typed (codes "BYTE#16#") (hexadecimal 2 (unsigned_abs n)) type.Byte n
    (literals_stand.typed type.Byte n refl h) h refl refl refl (hexadecimal_no_line 2
    (unsigned_abs n)) ends r
literal_reads type.Word n h ends r =
    reads_typed (codes "WORD#16#") (hexadecimal 4 (unsigned_abs n)) type.Word n
    (literals_stand.typed type.Word n refl h) h refl refl refl (hexadecimal_no_line 4
    (unsigned_abs n)) ends r
literal_reads type.Dword n h ends r =
    reads_typed (codes "DWORD#16#") (hexadecimal 8 (unsigned_abs n)) type.Dword n
    (literals_stand.typed type.Dword n refl h) h refl refl refl (hexadecimal_no_line 8
    (unsigned_abs n)) ends r
literal_reads type.Int n h ends r =
    reads_typed (codes "INT#") (integer_text n) type.Int n
    (literals_stand.typed type.Int n refl h) h refl refl refl (integer_no_line n (small_value type.Int n h)) ends r
literal_reads type.Lint n h ends r =
    reads_typed (codes "LINT#") (integer_text n) type.Lint n
    (literals_stand.typed type.Lint n refl h) h refl refl refl (integer_no_line n (small_value type.Lint n h)) ends r

pub reads_literal : {line : ℕ} {more : List ℕ} {ks : List GrammarKind} (ty : StType) (n : ℤ) → ends_word more ≡ true → ReadsOn line more ks
    → ReadsOn line (literal_text ty n ++ more) (kind.Literal (literal_form ty n) ∷ ks)
reads_literal ty n ends r = where_spelled (λ h. literal_reads ty n h ends r)

-- Places

kept_small : (n : ℕ) → nat_lt n (2 ^ 32) ≡ true → n < 2 ^ 64
kept_small n h = grind (arith, nat_tests)

bit_no_line : (w : Width) (bit : ℕ) → bit < 2 ^ 64 → has_no_line (bit_text w bit) ≡ true
bit_no_line width.Bit bit small = decimal_no_line bit small
bit_no_line w bit small = refl

width_no_line : (w : Width) → has_no_line (width_word w) ≡ true
width_no_line width.Bit = refl
width_no_line other = refl

area_no_line : (a : AreaName) → has_no_line (area_word a) ≡ true
area_no_line area.I = refl
area_no_line other = refl

place_no_line : (w : Width) (byte bit : ℕ) → byte < 2 ^ 64 → bit < 2 ^ 64 → has_no_line (place_text w byte bit) ≡ true
place_no_line w byte bit h k =
    no_line_both (width_word w ++ decimal byte) (bit_text w bit)
    (no_line_both (width_word w) (decimal byte) (width_no_line w) (decimal_no_line byte h)) (bit_no_line w bit k)

bit_small : (w : Width) (bit : ℕ) → is_bit_of w bit ≡ true → bit < 2 ^ 64
bit_small width.Bit bit h = kept_small bit h
bit_small w bit h = grind (arith, nat_tests)

block_no_line : (a : AreaName) (block : Option ℕ) (w : Width) (byte bit : ℕ) → is_block_of a block ≡ true → byte < 2 ^ 64 → bit < 2 ^ 64
    → has_no_line (place_in a block w byte bit) ≡ true
block_no_line a None w byte bit h k l =
    no_line_both (codes "%" ++ area_word a) (place_text w byte bit)
    (no_line_both (codes "%") (area_word a) refl (area_no_line a)) (place_no_line w byte bit k l)
block_no_line area.Db (Some n) w byte bit h k l =
    no_line_both ((codes "%DB" ++ decimal n) ++ codes ".DB") (place_text w byte bit)
    (no_line_both (codes "%DB" ++ decimal n) (codes ".DB") (no_line_both (codes "%DB") (decimal n) refl (decimal_no_line n (kept_small n h))) refl)
    (place_no_line w byte bit k l)
block_no_line other (Some n) w byte bit h k l = absurd cc

pub reads_place : {line : ℕ} {more : List ℕ} {ks : List GrammarKind} (a : AreaName) (block : Option ℕ) (w : Width) (byte bit : ℕ) → ends_word more ≡ true
    → ReadsOn line more ks → ReadsOn line (place_in a block w byte bit ++ more) (kind.Variable (var.Direct a block w byte bit) (on line) ∷ ks)
reads_place {line} a block w byte bit ends r = where_spelled (λ h.
    let is = places_stand a block w byte bit h in
    let outer = and_both _ (is_bit_of w bit) h in
    let both = and_both (is_block_of a block) _ outer.0 in
    reads_text sort.Direct (place_in a block w byte bit) is.is_token ends
    (block_no_line a block w byte bit both.0 (kept_small byte both.1) (bit_small w bit outer.1)) (ap (λ o. direct_kind o (on line)) is.found) refl r)

-- a variable
pub reads_var : {line : ℕ} {more : List ℕ} {ks : List GrammarKind} (names : Names) (v : Var) → ends_word more ≡ true → ReadsOn line more ks
    → ReadsOn line (var_text names v ++ more) (kind.Variable (raw_var names v) (on line) ∷ ks)
reads_var names (tree_var.Direct a byte bit w) ends r = reads_place a None w byte bit ends r
reads_var names (tree_var.InBlock block byte bit w) ends r = reads_place area.Db (Some block) w byte bit ends r
reads_var names v ends r = reads_name _ ends r

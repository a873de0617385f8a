-- With what a place begins: no constant does, nor any other operand.
use Rattle.std.proofs.Common.{◌≡◌, ℕ, ◌+◌, ◌*◌, ◌-◌, ◌≤◌, Bool, true, false, not, cond, ◌&&◌, ◌||◌, List, [], ◌∷◌, ◌++◌, length, drop, take, None, refl, sym, ap, subst, ◌∙◌, arith}
use Rattle.std.proofs.Math.Seq.{drop-length, take-length}
use Rattle.std.proofs.lemmas.Bool.{and_left, and_parts, and_right, leb-true, not-true, or_left}
use Rattle.std.proofs.lemmas.Bool.Decides.{nat_tests}
use Rattle.std.proofs.lemmas.List.{append-nil, append_assoc, take-map}
use Rattle.std.proofs.lemmas.Slice.Eq.{bytes_eq-Decides}
use Rattle.std.proofs.lemmas.Str.Ascii.{lowercase_is}
use Rattle.std.specs.Char.{to_ascii_lowercase}
use Rattle.std.specs.List.{list_all, list_any, prefix_len}
use Rattle.std.specs.Prelude.{codes, nat_le}
use Rattle.std.specs.Str.{bytes_eq, str_to_ascii_lowercase}
use Rattle.s7_base.specs.Tokens.{is_between, is_same_word}
use Rattle.s7_base.specs.declared.token.Token.{Token}
use Rattle.s7_base.specs.declared.word.Width.{Width}
use Rattle.stl_statement_grammar.specs.ConstantForms.{IsAmong}
use Rattle.stl_statement_grammar.specs.Constants.{constant_at, plain, plain_at, prefixes, marked_at, text_at}
use Rattle.digit_texts.specs.Digits.{are_digits, number_up_to}
use Rattle.stl_statement_grammar.specs.PlaceForms.{IsBitBehind, IsNumbered, IsPlace, IsPlaceIn, alone, in_block, in_one, in_two, placed}
use Rattle.stl_statement_grammar.specs.PlaceForms as form
use Rattle.stl_statement_grammar.specs.Places.{PlaceWord, digits_of, is_no_digit, letters_of, place_words}
use Rattle.stl_statement_grammar.specs.Readers.{fitting, read_as}
use Rattle.stl_statement_grammar.specs.Words.{is_sign, is_word, is_word_kind}
use Rattle.stl_statement_grammar.specs.declared.mnemonic.Read.TheVariants.{No}
use Rattle.stl_tree.specs.declared.raw.RawPlace.{RawPlace}
use Rattle.stl_constants.proofs.ConstantLaws.{AreUnmarked, no_mark, unmarked_no_text, word_is}
use Rattle.stl_constants.proofs.ConstantLaws as are
use Rattle.stl_constants.proofs.Reading.{if_false, if_true, joined_sign, no_sign, or_no, other_sign, same_letters}
use Rattle.stl_constants.proofs.Tables.{any_at}

-- Letters

-- a byte is a digit in lower case where it is one
pub digit_low : (c : ℕ) → is_no_digit (to_ascii_lowercase c) ≡ is_no_digit c
digit_low c = grind (arith, nat_tests)

-- what stands before the first digit of a word, in lower case
pub letters_low : (text : List ℕ) → str_to_ascii_lowercase (letters_of text) ≡ letters_of (str_to_ascii_lowercase text)
letters_low text =
    sym (take-map to_ascii_lowercase (prefix_len is_no_digit text) text) ∙ ap (λ (n : ℕ). take n (str_to_ascii_lowercase text)) (sym (size text))
  where
    size : (text : List ℕ) → prefix_len is_no_digit (str_to_ascii_lowercase text) ≡ prefix_len is_no_digit text
    size [] = refl
    size (c ∷ cs) =
        ap (λ (b : Bool). cond b (1 + prefix_len is_no_digit (str_to_ascii_lowercase cs)) 0) (digit_low c)
        ∙ ap (λ (n : ℕ). cond (is_no_digit c) (1 + n) 0) (size cs)

-- letters, in lower case, with which a place begins
abbrev pub is_begin : List ℕ → Bool
is_begin low = list_any (λ (row : PlaceWord). bytes_eq low (str_to_ascii_lowercase row.word)) place_words || bytes_eq low (codes "db")

abbrev pub begins_place : List ℕ → Bool
begins_place letters = is_begin (str_to_ascii_lowercase letters)

-- a word without a digit with which no place begins
pub record IsNoPlace (word : List ℕ) : Type 0 where
  pub other : begins_place word ≡ false
  pub digits : list_all is_no_digit (str_to_ascii_lowercase word) ≡ true

-- the first token, and what all of them are not
record Begun (tokens : List Token) : Type 0 where
  first : Token
  rest : List Token
  is : first ∷ rest ≡ tokens
  kind : is_word_kind first.kind ≡ true
  known : begins_place (letters_of first.text) ≡ true
  unmarked : AreUnmarked (first ∷ rest)

-- nothing, or no hash
abbrev pub no_hash : List Token → Bool
no_hash [] = true
no_hash (first ∷ rest) = not (is_sign (codes "#") first)

hash_off : (first : Token) → not (is_sign (codes "#") first) ≡ true → is_sign (codes "#") first ≡ false
hash_off first h = not-true _ h

point_no_hash : (point : Token) (rest : List Token) → is_sign (codes ".") point ≡ true → no_hash (point ∷ rest) ≡ true
point_no_hash point rest at = ap not (other_sign (codes ".") (codes "#") point at refl)

-- the letters of a word are those of its text in lower case
pub register_letters : (first : Token) (word : List ℕ) → is_word word first ≡ true
    → is_begin (letters_of (str_to_ascii_lowercase word)) ≡ false → begins_place (letters_of first.text) ≡ false
register_letters first word is none =
    let p = and_parts (is_word_kind first.kind) (is_same_word first.text word) is in
    ap is_begin (letters_low first.text ∙ ap (λ (low : List ℕ). letters_of low) (same_letters first.text word p.1)) ∙ none

-- a word stands at the front
abbrev pub begins_with_word : List Token → Bool
begins_with_word [] = false
begins_with_word (first ∷ rest) = is_word_kind first.kind

-- letters of a place make no number
record Lettered (text : List ℕ) : Type 0 where
  no_digits : are_digits text ≡ false
  no_number : number_up_to 32767 text ≡ None

lettered : (text : List ℕ) → begins_place (letters_of text) ≡ true → Lettered text
lettered [] e = absurd cc
lettered (c ∷ cs) e = by (is_between 48 57 c) refl
  where
    by : (b : Bool) → is_between 48 57 c ≡ b → Lettered (c ∷ cs)
    by true t =
        let none : prefix_len is_no_digit (c ∷ cs) ≡ 0 = ap (λ (b : Bool). cond (not b) (1 + prefix_len is_no_digit cs) 0) t in
        let clash : begins_place [] ≡ true = sym (ap (λ (n : ℕ). begins_place (take n (c ∷ cs))) none) ∙ e in
        absurd cc
    by false t = record { no_digits = and_left _ _ t; no_number = if_false (is_between 48 57 c && nat_le (0 * 10 + (c - 48)) 32767) _ None (and_left _ _ t) }

begun : (front rest : List Token) (letters : List ℕ) (n : ℕ) → IsNumbered front letters n
    → begins_place letters ≡ true → no_hash rest ≡ true → Begun (front ++ rest)
begun front rest letters n (in_one word k kind number) known at =
    record { first = word; rest = rest; is = refl; kind = kind; known = known; unmarked = by rest at }
  where
    behind : (point : Token) (more : List Token) → is_sign (codes "#") point ≡ false
        → (b : Bool) → is_sign (codes ".") point ≡ b → AreUnmarked (word ∷ point ∷ more)
    behind point more hash true at = are.pointed word point more kind (lettered word.text known).no_digits at
    behind point more hash false at = are.stopped word point more kind hash at

    by : (rest : List Token) → no_hash rest ≡ true → AreUnmarked (word ∷ rest)
    by [] at = are.one word kind
    by (point ∷ more) at = behind point more (hash_off point at) (is_sign (codes ".") point) refl
begun front rest letters n (in_two word next k kind none digits number) known at =
    record { first = word; rest = next ∷ rest; is = refl; kind = kind; known = known; unmarked = are.two word next rest kind digits }

bit_points : (w : Width) (rest : List Token) (x : ℕ) → IsBitBehind w rest x → (behind : List Token) → no_hash behind ≡ true → no_hash (rest ++ behind) ≡ true
bit_points w rest x (form.bit point number k at word is) behind none = point_no_hash point (number ∷ behind) (joined_sign (codes ".") point at)
bit_points w rest x form.byte behind none = none
bit_points w rest x form.word behind none = none
bit_points w rest x form.dword behind none = none

pub itself : (xs : List ℕ) → bytes_eq xs xs ≡ true
itself xs = (bytes_eq-Decides xs xs).1 refl

word_known : (word : PlaceWord) → IsAmong word place_words → begins_place word.word ≡ true
word_known word among =
    or_left (list_any (λ (row : PlaceWord). bytes_eq (str_to_ascii_lowercase word.word) (str_to_ascii_lowercase row.word)) place_words) _
    (any_at (λ (row : PlaceWord). bytes_eq (str_to_ascii_lowercase word.word) (str_to_ascii_lowercase row.word)) place_words word among
    (itself (str_to_ascii_lowercase word.word)))

-- with other tokens behind it
placed_begun : (tokens : List Token) (place : RawPlace) → IsPlaceIn place_words None tokens place
    → (behind : List Token) → no_hash behind ≡ true → Begun (tokens ++ behind)
placed_begun tokens place (placed table b front rest letters word byte x is among same is_bit) behind none =
    subst (λ (ts : List Token). Begun ts) (sym (append_assoc front rest behind))
    (begun front (rest ++ behind) letters byte is (ap is_begin (same_letters letters word.word same) ∙ word_known word among)
    (bit_points word.width rest x is_bit behind none))

begun_before : (tokens : List Token) (place : RawPlace) → IsPlace tokens place → (behind : List Token) → no_hash behind ≡ true → Begun (tokens ++ behind)
begun_before tokens place (alone ts p is) behind none = placed_begun ts p is behind none
begun_before tokens place (in_block front letters n point rest p is db at glued in_db) behind none =
    subst (λ (ts : List Token). Begun ts) (sym (append_assoc front (point ∷ rest) behind))
    (begun front (point ∷ (rest ++ behind)) letters n is (ap is_begin (same_letters letters (codes "DB") db))
    (point_no_hash point (rest ++ behind) (joined_sign (codes ".") point at)))

place_begun : (tokens : List Token) (place : RawPlace) → IsPlace tokens place → Begun tokens
place_begun tokens place is = subst (λ (ts : List Token). Begun ts) (append-nil tokens) (begun_before tokens place is [] refl)

-- where no digit stands in lower case, none stands
pub all_letters : (text : List ℕ) → list_all is_no_digit (str_to_ascii_lowercase text) ≡ true → prefix_len is_no_digit text ≡ length text
all_letters [] h = refl
all_letters (c ∷ cs) h =
    let p = and_parts (is_no_digit (to_ascii_lowercase c)) (list_all is_no_digit (str_to_ascii_lowercase cs)) h in
    let more : 1 + prefix_len is_no_digit cs ≡ length (c ∷ cs) = omega (arith, all_letters cs p.1) in
    ap (λ (b : Bool). cond b (1 + prefix_len is_no_digit cs) 0) (by (is_between 48 57 c) refl p.0) ∙ more
  where
    by : (b : Bool) → is_between 48 57 c ≡ b → is_no_digit (to_ascii_lowercase c) ≡ true → not (is_between 48 57 c) ≡ true
    by true t q =
        let r = and_parts (nat_le 48 c) (nat_le c 57) t in
        let low : c ≤ 57 = leb-true c 57 r.1 in
        let same : to_ascii_lowercase c ≡ c = (lowercase_is c).1 (omega (arith, low)) in
        sym (ap is_no_digit same) ∙ q
    by false t q = ap not t

-- nor any rest of digits
pub no_digits : (text : List ℕ) → list_all is_no_digit (str_to_ascii_lowercase text) ≡ true → digits_of text ≡ []
no_digits text h = ap (λ (n : ℕ). drop n text) (all_letters text h) ∙ drop-length text

-- the text of a place's first word is not that word
other_text : (text word : List ℕ) → begins_place (letters_of text) ≡ true → IsNoPlace word → is_same_word text word ≡ false
other_text text word known none = by (is_same_word text word) refl
  where
    by : (b : Bool) → is_same_word text word ≡ b → b ≡ false
    by true s =
        let same : str_to_ascii_lowercase text ≡ str_to_ascii_lowercase word = same_letters text word s in
        let size : prefix_len is_no_digit text ≡ length text = all_letters text (ap (λ (low : List ℕ). list_all is_no_digit low) same ∙ none.digits) in
        let whole : letters_of text ≡ text = ap (λ (n : ℕ). take n text) size ∙ take-length text in
        let clash : true ≡ false = sym known ∙ ap begins_place whole ∙ ap is_begin same ∙ none.other in
        absurd cc
    by false s = refl

-- the first token has this text, in any case
abbrev pub text_is : List ℕ → List Token → Bool
text_is word [] = false
text_is word (first ∷ rest) = is_same_word first.text word

pub place_no_text : (tokens : List Token) (place : RawPlace) (word : List ℕ) → IsPlace tokens place → IsNoPlace word → text_is word tokens ≡ false
place_no_text tokens place word is none =
    let b = place_begun tokens place is in
    subst (λ (ts : List Token). text_is word ts ≡ false) b.is (other_text b.first.text word b.known none)

pub place_no_word : (tokens : List Token) (place : RawPlace) (word : List ℕ) → IsPlace tokens place → IsNoPlace word → word_is word tokens ≡ false
place_no_word tokens place word is none =
    let b = place_begun tokens place is in
    subst (λ (ts : List Token). word_is word ts ≡ false) b.is (and_right _ _ (other_text b.first.text word b.known none))

-- nor one whose letters are none of a place
pub place_no_register : (tokens : List Token) (place : RawPlace) (word : List ℕ) → IsPlace tokens place
    → is_begin (letters_of (str_to_ascii_lowercase word)) ≡ false → word_is word tokens ≡ false
place_no_register tokens place word is none =
    let b = place_begun tokens place is in
    subst (λ (ts : List Token). word_is word ts ≡ false) b.is (by b.first b.known (is_word word b.first) refl)
  where
    by : (first : Token) → begins_place (letters_of first.text) ≡ true → (b : Bool) → is_word word first ≡ b → b ≡ false
    by first known true e = let clash : true ≡ false = sym known ∙ register_letters first word e none in absurd cc
    by first known false e = refl

pub place_unmarked : (tokens : List Token) (place : RawPlace) → IsPlace tokens place → AreUnmarked tokens
place_unmarked tokens place is = let b = place_begun tokens place is in subst (λ (ts : List Token). AreUnmarked ts) b.is b.unmarked

-- a place begins with a word
pub place_kind : (tokens : List Token) (place : RawPlace) → IsPlace tokens place → begins_with_word tokens ≡ true
place_kind tokens place is = let b = place_begun tokens place is in subst (λ (ts : List Token). begins_with_word ts ≡ true) b.is b.kind

begun_no_constant : (tokens : List Token) → Begun tokens → constant_at tokens ≡ No
begun_no_constant tokens b =
    subst (λ (ts : List Token). constant_at ts ≡ No) b.is (by b.first b.rest b.kind (lettered b.first.text b.known).no_number b.unmarked)
  where
    by : (first : Token) (rest : List Token) → is_word_kind first.kind ≡ true
        → number_up_to 32767 first.text ≡ None → AreUnmarked (first ∷ rest) → constant_at (first ∷ rest) ≡ No
    by first rest kind none unmarked =
        let plain_is : plain_at (first ∷ rest) ≡ No =
        ap (read_as plain)
        (if_false (is_sign (codes "-") first) _ _ (no_sign (codes "-") first kind) ∙ ap (fitting 1) (if_true (is_word_kind first.kind) _ None kind ∙ none)) in
        or_no (text_at (first ∷ rest)) _ (unmarked_no_text (first ∷ rest) unmarked)
        ∙ or_no (marked_at prefixes (first ∷ rest)) _ (no_mark prefixes (first ∷ rest) unmarked)
        ∙ plain_is

pub place_no_constant : (tokens : List Token) (place : RawPlace) → IsPlace tokens place → constant_at tokens ≡ No
place_no_constant tokens place is = begun_no_constant tokens (place_begun tokens place is)

-- a place is made of some tokens
pub place_there : (tokens : List Token) (place : RawPlace) → IsPlace tokens place → tokens ≡ [] → ⊥
place_there tokens place is e =
    let b = place_begun tokens place is in
    let clash : b.first ∷ b.rest ≡ [] = b.is ∙ e in
    absurd cc

-- with other tokens behind it too
pub place_before_no_constant : (tokens : List Token) (place : RawPlace) → IsPlace tokens place
    → (behind : List Token) → no_hash behind ≡ true → constant_at (tokens ++ behind) ≡ No
place_before_no_constant tokens place is behind none = begun_no_constant (tokens ++ behind) (begun_before tokens place is behind none)

pub place_before_no_word : (tokens : List Token) (place : RawPlace) (word : List ℕ) → IsPlace tokens place
    → (behind : List Token) → IsNoPlace word → word_is word (tokens ++ behind) ≡ false
place_before_no_word [] place word is behind none = absurd (place_there [] place is refl)
place_before_no_word (first ∷ rest) place word is behind none = place_no_word (first ∷ rest) place word is none

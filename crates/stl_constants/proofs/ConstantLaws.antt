-- A constant is read exactly where one of its forms stands.
use Rattle.std.proofs.Common.{◌≡◌, ℕ, ◌≤◌, ◌+◌, ◌-◌, ◌*◌, ◌^◌, ◌⊎◌, inl, inr, Bool, true, false, not, cond, ◌&&◌, if◌then◌else◌, List, [], ◌∷◌, length, drop, Option, Some, None, refl, sym, ap, subst, ◌∙◌, arith}
use Rattle.std.proofs.lemmas.Bool.{and_from, and_left, and_parts, and_right, leb-true, not-true}
use Rattle.std.proofs.lemmas.Str.Ascii.{lowercase_is}
use Rattle.std.specs.Char.{to_ascii_lowercase}
use Rattle.std.specs.Str.{str_to_ascii_lowercase}
use Rattle.std.specs.List.{find, list_any}
use Rattle.std.specs.Prelude.{codes, nat_le, option_and_then, option_map}
use Rattle.s7_base.specs.declared.reason.Kind.TheVariants as kind
use Rattle.s7_base.specs.Tokens.{is_between, is_same_word}
use Rattle.s7_base.specs.declared.token.Token.{Token}
use Rattle.s7_base.specs.declared.word.Width.{Width}
use Rattle.s7_base.specs.declared.word.Width.TheVariants as width
use Rattle.memory_areas.specs.Access.{bits_wide}
use Rattle.stl_statement_grammar.specs.ConstantForms.{IsAddend, IsAmong, IsBehind, IsConstant, IsHex, IsNumberIn, IsPair, IsPrefixed, IsSigned, IsUpTo}
use Rattle.stl_statement_grammar.specs.ConstantForms as form
use Rattle.stl_statement_grammar.specs.Constants.{Prefixed, addend_at, addend_prefixes, begins_real, is_real, behind_prefix, binary, binary_behind, binary_of, constant, constant_at, four_behind, four_bytes, half, has_prefix, hex_behind, hex_of, left_out_prefixes, long_behind, marked_at, name_behind, negative, negative_behind, number_at, pair_of, plain, plain_at, prefixed_word, prefixed_at, prefixed_by, prefixes, real_at, signed_at, text_at, text_in, text_of, two_behind, two_bytes, up_to, with_byte, zero_behind}
use Rattle.digit_texts.specs.Digits.{are_digits, number_up_to}
use Rattle.stl_statement_grammar.specs.Numbers.{bits_of, hex_number}
use Rattle.stl_statement_grammar.specs.Readers.{fitting, number_in, read_as}
use Rattle.stl_statement_grammar.specs.Words.{is_joined, is_joined_word, is_sign, is_text_kind, is_word, is_word_kind}
use Rattle.stl_statement_grammar.specs.declared.mnemonic.Prefix.{Prefix}
use Rattle.stl_statement_grammar.specs.declared.mnemonic.Prefix.TheVariants as prefix
use Rattle.stl_statement_grammar.specs.declared.mnemonic.Read.TheVariants.{Fits, LeftOut, No}
use Rattle.stl_tree.specs.declared.raw.Constant.{Constant}
use Rattle.stl_constants.proofs.Reading.{AllOf, alike, as_all, chained, fitting_all, if_false, if_true, joined_sign, mapped, no_sign, no_word, or_all, or_no, or_this, other_sign, other_word, same_letters, sign_no_text, taken, text_no_word, weaker, word_no_text}
use Rattle.stl_constants.proofs.Tables.{found_among, found_passes, none_at, none_found}

-- From what is read to its form

number_is : (most : ℕ) (word : Token) (n : ℕ) → number_in most word ≡ Some n → IsNumberIn most word n
number_is most word n e = let t = taken (is_word_kind word.kind) (number_up_to most word.text) n e in record { kind = t.0; number = t.1 }

minus_is : (before n : ℕ) (w : Width) (sign : Token) (rest : List Token) → is_sign (codes "-") sign ≡ true → n ≡ before + length (sign ∷ rest) →
    (v : ℕ) → negative_behind w rest ≡ Some v → before + 2 ≡ n → IsSigned w (sign ∷ rest) v
minus_is before n w sign [] minus all v e size = absurd cc
minus_is before n w sign (word ∷ next ∷ rest) minus all v e size = absurd (omega (arith, all, size))
minus_is before n w sign (word ∷ []) minus all v e size =
    let g = taken word.glued (option_map (negative w) (number_in (half w) word)) v e in
    let m = mapped (negative w) (number_in (half w) word) v g.1 in
    subst (IsSigned w (sign ∷ word ∷ [])) m.made (form.minus w sign word m.a minus g.0 (number_is (half w) word m.a m.found))

positive_is : (before n : ℕ) (w : Width) (word : Token) (rest : List Token) → n ≡ before + length (word ∷ rest) →
    (v : ℕ) → number_in (half w - 1) word ≡ Some v → before + 1 ≡ n → IsSigned w (word ∷ rest) v
positive_is before n w word [] all v e size = form.positive w word v (number_is (half w - 1) word v e)
positive_is before n w word (next ∷ rest) all v e size = absurd (omega (arith, all, size))

-- the pattern of a number with its sign
signed_all : (before n : ℕ) (w : Width) (tokens : List Token) → n ≡ before + length tokens → AllOf n (IsSigned w tokens) (signed_at before w tokens)
signed_all before n w [] all = tt
signed_all before n w (first ∷ rest) all = by (is_sign (codes "-") first) refl
  where
    by : (b : Bool) → is_sign (codes "-") first ≡ b →
        AllOf n (IsSigned w (first ∷ rest)) (if b then fitting (before + 2) (negative_behind w rest) else fitting (before + 1) (number_in (half w - 1) first))
    by true t = fitting_all n (before + 2) (IsSigned w (first ∷ rest)) (negative_behind w rest) (minus_is before n w first rest t all)
    by false t = fitting_all n (before + 1) (IsSigned w (first ∷ rest)) (number_in (half w - 1) first) (positive_is before n w first rest all)

-- a hexadecimal number, which makes a form of its own
hex_is : (w : Width) (base hash digits : Token) (c : Constant) (P : Constant → Type 0) → ((value : ℕ) → IsHex w base hash digits value → P (constant w value)) →
    hex_of w base hash digits ≡ Some c → P c
hex_is w base hash digits c P make e =
    let t = taken (is_word (codes "16") base && base.glued && is_joined (codes "#") hash && is_joined_word digits) _ c e in
    let p = and_parts (is_word (codes "16") base && base.glued && is_joined (codes "#") hash) (is_joined_word digits) t.0 in
    let q = and_parts (is_word (codes "16") base && base.glued) (is_joined (codes "#") hash) p.0 in
    let r = and_parts (is_word (codes "16") base) base.glued q.0 in
    let m = mapped (constant w) (hex_number (2 ^ bits_wide w - 1) digits.text) c t.1 in
    subst P m.made (make m.a (record { base_is = r.0; base_glued = r.1; hash_is = q.1; word = p.1; number = m.found }))

hex_all : (n : ℕ) (w : Width) (what : Prefix)
    → ((base hash digits : Token) (value : ℕ) → IsHex w base hash digits value → IsBehind what (base ∷ hash ∷ digits ∷ []) (constant w value))
    → (tokens : List Token) → n ≡ 2 + length tokens → AllOf n (IsBehind what tokens) (hex_behind w tokens)
hex_all n w what make [] all = tt
hex_all n w what make (a ∷ []) all = tt
hex_all n w what make (a ∷ b ∷ []) all = tt
hex_all n w what make (base ∷ hash ∷ digits ∷ rest) all = by rest all
  where
    by : (rest : List Token) → n ≡ 2 + length (base ∷ hash ∷ digits ∷ rest)
        → AllOf n (IsBehind what (base ∷ hash ∷ digits ∷ rest)) (fitting 5 (hex_of w base hash digits))
    by [] all =
        fitting_all n 5 (IsBehind what (base ∷ hash ∷ digits ∷ [])) (hex_of w base hash digits)
        (λ c e size. hex_is w base hash digits c (IsBehind what (base ∷ hash ∷ digits ∷ [])) (make base hash digits) e)
    by (next ∷ rest) all =
        fitting_all n 5 (IsBehind what (base ∷ hash ∷ digits ∷ next ∷ rest)) (hex_of w base hash digits) (λ c e size. absurd (omega (arith, all, size)))

pair_is : (high comma low : Token) (value : ℕ) → pair_of high comma low ≡ Some value → IsPair high comma low value
pair_is high comma low value e =
    let t = taken (is_sign (codes ",") comma) _ value e in
    let c = chained (λ a. option_map (λ b. with_byte a b) (number_in 255 low)) (number_in 255 high) value t.1 in
    let m = mapped (λ b. with_byte c.a b) (number_in 255 low) value c.made in
    record { a = c.a; b = m.a; comma_is = t.0; high_is = number_is 255 high c.a c.found; low_is = number_is 255 low m.a m.found; value_is = m.made }

two_is : (before a comma b behind : Token) (c : Constant) → two_bytes before a comma b behind ≡ Some c
    → IsBehind prefix.Bytes (before ∷ a ∷ comma ∷ b ∷ behind ∷ []) c
two_is before a comma b behind c e =
    let t = taken (is_joined (codes "(") before && is_sign (codes ")") behind) _ c e in
    let p = and_parts (is_joined (codes "(") before) (is_sign (codes ")") behind) t.0 in
    let m = mapped (constant width.Word) (pair_of a comma b) c t.1 in
    subst (IsBehind prefix.Bytes (before ∷ a ∷ comma ∷ b ∷ behind ∷ [])) m.made
    (form.two_bytes before a comma b behind m.a p.0 (pair_is a comma b m.a m.found) p.1)

two_all : (n : ℕ) (tokens : List Token) → n ≡ 2 + length tokens → AllOf n (IsBehind prefix.Bytes tokens) (two_behind tokens)
two_all n (before ∷ a ∷ comma ∷ b ∷ behind ∷ rest) all = by rest all
  where
    by : (rest : List Token) → n ≡ 2 + length (before ∷ a ∷ comma ∷ b ∷ behind ∷ rest) →
        AllOf n (IsBehind prefix.Bytes (before ∷ a ∷ comma ∷ b ∷ behind ∷ rest)) (fitting 7 (two_bytes before a comma b behind))
    by [] all =
        fitting_all n 7 (IsBehind prefix.Bytes (before ∷ a ∷ comma ∷ b ∷ behind ∷ []))
        (two_bytes before a comma b behind) (λ c e size. two_is before a comma b behind c e)
    by (next ∷ rest) all =
        fitting_all n 7 (IsBehind prefix.Bytes (before ∷ a ∷ comma ∷ b ∷ behind ∷ next ∷ rest))
        (two_bytes before a comma b behind) (λ c e size. absurd (omega (arith, all, size)))
two_all n fewer all = tt

four_is : (before a first b comma c second d behind : Token) (k : Constant)
    → four_bytes before (pair_of a first b) comma (pair_of c second d) behind ≡ Some k
    → IsBehind prefix.Bytes (before ∷ a ∷ first ∷ b ∷ comma ∷ c ∷ second ∷ d ∷ behind ∷ []) k
four_is before a first b comma c second d behind k e =
    let t = taken (is_joined (codes "(") before && is_sign (codes ",") comma && is_sign (codes ")") behind) _ k e in
    let p = and_parts (is_joined (codes "(") before && is_sign (codes ",") comma) (is_sign (codes ")") behind) t.0 in
    let q = and_parts (is_joined (codes "(") before) (is_sign (codes ",") comma) p.0 in
    let h = chained (λ h. option_map (λ l. constant width.Dword (h * 2 ^ 16 + l)) (pair_of c second d)) (pair_of a first b) k t.1 in
    let l = mapped (λ l. constant width.Dword (h.a * 2 ^ 16 + l)) (pair_of c second d) k h.made in
    subst (IsBehind prefix.Bytes (before ∷ a ∷ first ∷ b ∷ comma ∷ c ∷ second ∷ d ∷ behind ∷ [])) l.made
    (form.four_bytes before a first b comma c second d behind h.a l.a q.0 (pair_is a first b h.a h.found) q.1 (pair_is c second d l.a l.found) p.1)

four_all : (n : ℕ) (tokens : List Token) → n ≡ 2 + length tokens → AllOf n (IsBehind prefix.Bytes tokens) (four_behind tokens)
four_all n (before ∷ a ∷ first ∷ b ∷ comma ∷ c ∷ second ∷ d ∷ behind ∷ rest) all = by rest all
  where
    found : Option Constant
    found = four_bytes before (pair_of a first b) comma (pair_of c second d) behind

    by : (rest : List Token) → n ≡ 2 + length (before ∷ a ∷ first ∷ b ∷ comma ∷ c ∷ second ∷ d ∷ behind ∷ rest) →
        AllOf n (IsBehind prefix.Bytes (before ∷ a ∷ first ∷ b ∷ comma ∷ c ∷ second ∷ d ∷ behind ∷ rest)) (fitting 11 found)
    by [] all =
        fitting_all n 11 (IsBehind prefix.Bytes (before ∷ a ∷ first ∷ b ∷ comma ∷ c ∷ second ∷ d ∷ behind ∷ [])) found
        (λ k e size. four_is before a first b comma c second d behind k e)
    by (next ∷ rest) all =
        fitting_all n 11 (IsBehind prefix.Bytes (before ∷ a ∷ first ∷ b ∷ comma ∷ c ∷ second ∷ d ∷ behind ∷ next ∷ rest)) found
        (λ k e size. absurd (omega (arith, all, size)))
four_all n fewer all = tt

binary_is : (digits : Token) (rest : List Token) (n : ℕ) → n ≡ 2 + length (digits ∷ rest)
    → (c : Constant) → binary_of digits ≡ Some c → 3 ≡ n → IsBehind prefix.Binary (digits ∷ rest) c
binary_is digits [] n all c e size =
    let t = taken (is_joined_word digits) (option_map binary (bits_of digits.text)) c e in
    let m = mapped binary (bits_of digits.text) c t.1 in
    subst (IsBehind prefix.Binary (digits ∷ [])) m.made (form.digits digits m.a t.0 m.found)
binary_is digits (next ∷ rest) n all c e size = absurd (omega (arith, all, size))

binary_all : (n : ℕ) (tokens : List Token) → n ≡ 2 + length tokens → AllOf n (IsBehind prefix.Binary tokens) (binary_behind tokens)
binary_all n [] all = tt
binary_all n (digits ∷ rest) all = fitting_all n 3 (IsBehind prefix.Binary (digits ∷ rest)) (binary_of digits) (binary_is digits rest n all)

long_all : (n : ℕ) (tokens : List Token) → n ≡ 2 + length tokens → AllOf n (IsBehind prefix.Long tokens) (long_behind tokens)
long_all n [] all = tt
long_all n (first ∷ rest) all = by first.glued refl
  where
    by : (b : Bool) → first.glued ≡ b →
        AllOf n (IsBehind prefix.Long (first ∷ rest)) (if b then read_as (constant width.Dword) (signed_at 2 width.Dword (first ∷ rest)) else No)
    by true glued =
        as_all n (constant width.Dword) (IsSigned width.Dword (first ∷ rest)) (IsBehind prefix.Long (first ∷ rest)) (λ v is. form.long first rest v glued is)
        (signed_at 2 width.Dword (first ∷ rest)) (signed_all 2 n width.Dword (first ∷ rest) all)
    by false glued = tt

name_all : (n : ℕ) (P : Constant → Type 0) (tokens : List Token) → AllOf n P (name_behind tokens)
name_all n P [] = tt
name_all n P (hash ∷ rest) = by (is_joined (codes "#") hash)
  where
    by : (b : Bool) → AllOf n P (if b then LeftOut kind.NamePointer else No)
    by true = tt
    by false = tt

behind_all : (n : ℕ) (what : Prefix) (tokens : List Token) → n ≡ 2 + length tokens → AllOf n (IsBehind what tokens) (behind_prefix what tokens)
behind_all n prefix.Long tokens all = long_all n tokens all
behind_all n (prefix.Hex w) tokens all = hex_all n w (prefix.Hex w) (λ base hash digits v is. form.hex w base hash digits v is) tokens all
behind_all n prefix.Bytes tokens all =
    or_all n (IsBehind prefix.Bytes tokens) (hex_behind width.Byte tokens) _
    (hex_all n width.Byte prefix.Bytes (λ base hash digits v is. form.one_byte base hash digits v is) tokens all)
    (or_all n (IsBehind prefix.Bytes tokens) (two_behind tokens) (four_behind tokens) (two_all n tokens all) (four_all n tokens all))
behind_all n prefix.Binary tokens all = binary_all n tokens all
behind_all n prefix.Pointer tokens all = name_all n (IsBehind prefix.Pointer tokens) tokens
behind_all n (prefix.LeftOut kind) tokens all = tt

prefixed_all : (table : List Prefixed) (tokens : List Token) → AllOf (length tokens) (IsPrefixed table tokens) (prefixed_at table tokens)
prefixed_all table tokens = by (find (has_prefix tokens) table) refl
  where
    row_at : (row : Prefixed) (tokens : List Token) → IsAmong row table → has_prefix tokens row ≡ true
        → AllOf (length tokens) (IsPrefixed table tokens) (behind_prefix row.what (drop 2 tokens))
    row_at row [] among e = absurd cc
    row_at row (first ∷ []) among e = absurd cc
    row_at row (first ∷ hash ∷ rest) among e =
        let p = and_parts (is_word row.word first) (is_joined (codes "#") hash) e in
        weaker (length (first ∷ hash ∷ rest)) (IsBehind row.what rest) (IsPrefixed table (first ∷ hash ∷ rest))
        (λ c is. form.behind table row first hash rest c among p.0 p.1 is) (behind_prefix row.what rest)
        (behind_all (length (first ∷ hash ∷ rest)) row.what rest (omega arith))

    by : (o : Option Prefixed) → find (has_prefix tokens) table ≡ o → AllOf (length tokens) (IsPrefixed table tokens) (prefixed_by o tokens)
    by None e = tt
    by (Some row) e = row_at row tokens (found_among (has_prefix tokens) table row e) (found_passes (has_prefix tokens) table row e)

real_all : (n : ℕ) (P : Constant → Type 0) (tokens : List Token) → AllOf n P (real_at tokens)
real_all n P tokens = by (begins_real tokens)
  where
    by : (b : Bool) → AllOf n P (if b then LeftOut kind.Real else No)
    by true = tt
    by false = tt

marked_all : (table : List Prefixed) (tokens : List Token) → AllOf (length tokens) (IsPrefixed table tokens) (marked_at table tokens)
marked_all table tokens =
    or_all (length tokens) (IsPrefixed table tokens) (prefixed_at table tokens) (real_at tokens)
    (prefixed_all table tokens) (real_all (length tokens) (IsPrefixed table tokens) tokens)

plain_all : (tokens : List Token) (P : Constant → Type 0) → ((v : ℕ) → IsSigned width.Word tokens v → P (plain v)) → AllOf (length tokens) P (plain_at tokens)
plain_all tokens P make =
    as_all (length tokens) plain (IsSigned width.Word tokens) P make
    (signed_at 0 width.Word tokens) (signed_all 0 (length tokens) width.Word tokens (omega arith))

text_is : (token : Token) (rest : List Token) (c : Constant) → text_in token ≡ Some c → 1 ≡ length (token ∷ rest) → IsConstant (token ∷ rest) c
text_is token [] c e size = let t = taken (is_text_kind token.kind) (text_of token.text) c e in form.text token c t.0 t.1
text_is token (next ∷ rest) c e size = absurd (omega (arith, size))

text_all : (tokens : List Token) → AllOf (length tokens) (IsConstant tokens) (text_at tokens)
text_all [] = tt
text_all (first ∷ rest) = fitting_all (length (first ∷ rest)) 1 (IsConstant (first ∷ rest)) (text_in first) (text_is first rest)

pub constant_all : (tokens : List Token) → AllOf (length tokens) (IsConstant tokens) (constant_at tokens)
constant_all tokens =
    or_all (length tokens) (IsConstant tokens) (text_at tokens) _ (text_all tokens)
    (or_all (length tokens) (IsConstant tokens) (marked_at prefixes tokens) (plain_at tokens)
    (weaker (length tokens) (IsPrefixed prefixes tokens) (IsConstant tokens)
    (λ c is. form.prefixed_word tokens c is) (marked_at prefixes tokens) (marked_all prefixes tokens))
    (plain_all tokens (IsConstant tokens) (λ v is. form.number tokens v is)))

pub addend_all : (tokens : List Token) → AllOf (length tokens) (IsAddend tokens) (addend_at tokens)
addend_all tokens =
    or_all (length tokens) (IsAddend tokens) (marked_at addend_prefixes tokens) (plain_at tokens)
    (weaker (length tokens) (IsPrefixed addend_prefixes tokens) (IsAddend tokens)
    (λ c is. form.dword tokens c is) (marked_at addend_prefixes tokens) (marked_all addend_prefixes tokens))
    (plain_all tokens (IsAddend tokens) (λ v is. form.word tokens v is))

-- a constant with a prefix of those that are left out has no form
abbrev is_empty : Prefix → Bool
is_empty prefix.Pointer = true
is_empty (prefix.LeftOut kind) = true
is_empty other = false

no_form : (what : Prefix) (rest : List Token) (c : Constant) → IsBehind what rest c → not (is_empty what) ≡ true
no_form what rest c (form.long first more value glued is) = refl
no_form what rest c (form.hex w base hash digits value is) = refl
no_form what rest c (form.one_byte base hash digits value is) = refl
no_form what rest c (form.two_bytes before a comma b behind value opens pair closes) = refl
no_form what rest c (form.four_bytes before a first b comma k second d behind high low opens left between right closes) = refl
no_form what rest c (form.digits word bits joined is) = refl

none_prefixed : (tokens : List Token) (c : Constant) → IsPrefixed left_out_prefixes tokens c → ⊥
none_prefixed tokens c (form.behind table row first hash rest k among word joined is) =
    let none : not (is_empty row.what) ≡ false = none_at (λ (r : Prefixed). not (is_empty r.what)) left_out_prefixes row among refl in
    let clash : true ≡ false = sym (no_form row.what rest k is) ∙ none in
    absurd cc

-- a constant that is left out has no form
pub left_out_marked_all : (tokens : List Token) (P : Constant → Type 0) → AllOf (length tokens) P (marked_at left_out_prefixes tokens)
left_out_marked_all tokens P =
    weaker (length tokens) (IsPrefixed left_out_prefixes tokens) P (λ c is. absurd (none_prefixed tokens c is))
    (marked_at left_out_prefixes tokens) (marked_all left_out_prefixes tokens)

up_to_is : (most : ℕ) (sign : Token) (rest : List Token) → is_sign (codes "-") sign ≡ true
    → (n : ℕ) → zero_behind rest ≡ Some n → 2 ≡ length (sign ∷ rest) → IsUpTo most (sign ∷ rest) n
up_to_is most sign [] minus n e size = absurd cc
up_to_is most sign (zero ∷ next ∷ rest) minus n e size = absurd (omega (arith, size))
up_to_is most sign (zero ∷ []) minus n e size =
    let g = taken zero.glued (number_in 0 zero) n e in form.minus_zero most sign zero n minus g.0 (number_is 0 zero n g.1)

unsigned_is : (most : ℕ) (word : Token) (rest : List Token) (n : ℕ) → number_in most word ≡ Some n → 1 ≡ length (word ∷ rest) → IsUpTo most (word ∷ rest) n
unsigned_is most word (next ∷ rest) n e size = absurd (omega (arith, size))
unsigned_is most word [] n e size = form.unsigned most word n (number_is most word n e)

up_to_all : (most : ℕ) (tokens : List Token) → AllOf (length tokens) (IsUpTo most tokens) (up_to most tokens)
up_to_all most [] = tt
up_to_all most (first ∷ rest) = by (is_sign (codes "-") first) refl
  where
    by : (b : Bool) → is_sign (codes "-") first ≡ b →
        AllOf (length (first ∷ rest)) (IsUpTo most (first ∷ rest)) (if b then fitting 2 (zero_behind rest) else fitting 1 (number_in most first))
    by true t = fitting_all (length (first ∷ rest)) 2 (IsUpTo most (first ∷ rest)) (zero_behind rest) (up_to_is most first rest t)
    by false t = fitting_all (length (first ∷ rest)) 1 (IsUpTo most (first ∷ rest)) (number_in most first) (unsigned_is most first rest)

pub number_all : (most : ℕ) (tokens : List Token) (P : Constant → Type 0)
    → ((n : ℕ) → IsUpTo most tokens n → P (plain n)) → AllOf (length tokens) P (number_at most tokens)
number_all most tokens P make =
    or_all (length tokens) P (marked_at left_out_prefixes tokens) _
    (left_out_marked_all tokens P)
    (as_all (length tokens) plain (IsUpTo most tokens) P make (up_to most tokens) (up_to_all most tokens))

-- From a form to what is read of it

number_read : (most : ℕ) (word : Token) (n : ℕ) → IsNumberIn most word n → number_in most word ≡ Some n
number_read most word n is = if_true (is_word_kind word.kind) (number_up_to most word.text) None is.kind ∙ is.number

signed_read : (before : ℕ) (w : Width) (tokens : List Token) (v : ℕ) → IsSigned w tokens v → signed_at before w tokens ≡ Fits v (before + length tokens)
signed_read before w tokens v (form.positive u word n is) =
    if_false (is_sign (codes "-") word) _ _ (no_sign (codes "-") word is.kind) ∙ ap (fitting (before + 1)) (number_read (half u - 1) word n is)
signed_read before w tokens v (form.minus u sign word n minus glued is) =
    if_true (is_sign (codes "-") sign) _ _ minus
    ∙ ap (fitting (before + 2)) (if_true word.glued _ None glued ∙ ap (option_map (negative u)) (number_read (half u) word n is))

hex_read : (w : Width) (base hash digits : Token) (value : ℕ) → IsHex w base hash digits value
    → hex_behind w (base ∷ hash ∷ digits ∷ []) ≡ Fits (constant w value) 5
hex_read w base hash digits value is =
    ap (fitting 5)
    (if_true (is_word (codes "16") base && base.glued && is_joined (codes "#") hash && is_joined_word digits) _ None
    (and_from _ _ (and_from _ _ (and_from _ _ is.base_is is.base_glued) is.hash_is) is.word)
    ∙ ap (option_map (constant w)) is.number)

-- behind a bracket no hexadecimal number stands
no_hex : (w : Width) (base hash digits : Token) (rest : List Token) → is_joined (codes "(") base ≡ true → hex_behind w (base ∷ hash ∷ digits ∷ rest) ≡ No
no_hex w base hash digits rest h =
    let word : is_word (codes "16") base ≡ false = and_left _ _ (no_word (codes "(") base (joined_sign (codes "(") base h)) in
    ap (fitting 5)
    (if_false (is_word (codes "16") base && base.glued && is_joined (codes "#") hash && is_joined_word digits) _ None
    (and_left _ _ (and_left _ _ (and_left _ _ word))))

pair_read : (high comma low : Token) (value : ℕ) → IsPair high comma low value → pair_of high comma low ≡ Some value
pair_read high comma low value is =
    if_true (is_sign (codes ",") comma) _ None is.comma_is
    ∙ ap (λ (o : Option ℕ). option_and_then (λ a. option_map (λ b. with_byte a b) (number_in 255 low)) o) (number_read 255 high is.a is.high_is)
    ∙ ap (λ (o : Option ℕ). option_map (λ b. with_byte is.a b) o) (number_read 255 low is.b is.low_is)
    ∙ ap Some is.value_is

two_read : (before a comma b behind : Token) (value : ℕ) → is_joined (codes "(") before ≡ true → IsPair a comma b value → is_sign (codes ")") behind ≡ true →
    two_behind (before ∷ a ∷ comma ∷ b ∷ behind ∷ []) ≡ Fits (constant width.Word value) 7
two_read before a comma b behind value opens is closes =
    ap (fitting 7)
    (if_true (is_joined (codes "(") before && is_sign (codes ")") behind) _ None (and_from _ _ opens closes)
    ∙ ap (option_map (constant width.Word)) (pair_read a comma b value is))

no_two : (before a comma b behind : Token) (rest : List Token) → is_sign (codes ")") behind ≡ false → two_behind (before ∷ a ∷ comma ∷ b ∷ behind ∷ rest) ≡ No
no_two before a comma b behind rest h = ap (fitting 7) (if_false (is_joined (codes "(") before && is_sign (codes ")") behind) _ None (and_right _ _ h))

four_read : (before a first b comma c second d behind : Token) (high low : ℕ)
    → is_joined (codes "(") before ≡ true → IsPair a first b high → is_sign (codes ",") comma ≡ true
    → IsPair c second d low → is_sign (codes ")") behind ≡ true
    → four_behind (before ∷ a ∷ first ∷ b ∷ comma ∷ c ∷ second ∷ d ∷ behind ∷ []) ≡ Fits (constant width.Dword (high * 2 ^ 16 + low)) 11
four_read before a first b comma c second d behind high low opens left between right closes =
    ap (fitting 11)
    (ap (λ (h : Option ℕ). four_bytes before h comma (pair_of c second d) behind) (pair_read a first b high left)
    ∙ ap (λ (l : Option ℕ). four_bytes before (Some high) comma l behind) (pair_read c second d low right)
    ∙ if_true (is_joined (codes "(") before && is_sign (codes ",") comma && is_sign (codes ")") behind) _ None
    (and_from _ _ (and_from _ _ opens between) closes))

behind_read : (what : Prefix) (tokens : List Token) (c : Constant) → IsBehind what tokens c → behind_prefix what tokens ≡ Fits c (2 + length tokens)
behind_read what tokens c (form.long first rest value glued is) =
    if_true first.glued _ No glued ∙ ap (read_as (constant width.Dword)) (signed_read 2 width.Dword (first ∷ rest) value is)
behind_read what tokens c (form.hex w base hash digits value is) = hex_read w base hash digits value is
behind_read what tokens c (form.one_byte base hash digits value is) =
    or_this (hex_behind width.Byte (base ∷ hash ∷ digits ∷ [])) _ (constant width.Byte value) 5 (hex_read width.Byte base hash digits value is)
behind_read what tokens c (form.two_bytes before a comma b behind value opens is closes) =
    or_no (hex_behind width.Byte (before ∷ a ∷ comma ∷ b ∷ behind ∷ [])) _ (no_hex width.Byte before a comma (b ∷ behind ∷ []) opens)
    ∙ or_this (two_behind (before ∷ a ∷ comma ∷ b ∷ behind ∷ [])) _ (constant width.Word value) 7 (two_read before a comma b behind value opens is closes)
behind_read what tokens c (form.four_bytes before a first b comma k second d behind high low opens left between right closes) =
    let all = before ∷ a ∷ first ∷ b ∷ comma ∷ k ∷ second ∷ d ∷ behind ∷ [] in
    or_no (hex_behind width.Byte all) _ (no_hex width.Byte before a first (b ∷ comma ∷ k ∷ second ∷ d ∷ behind ∷ []) opens)
    ∙ or_no (two_behind all) _ (no_two before a first b comma (k ∷ second ∷ d ∷ behind ∷ []) (other_sign (codes ",") (codes ")") comma between refl))
    ∙ four_read before a first b comma k second d behind high low opens left between right closes
behind_read what tokens c (form.digits word bits joined is) =
    ap (fitting 3) (if_true (is_joined_word word) _ None joined ∙ ap (option_map binary) is)

-- no prefix of a table is another
abbrev are_apart : List Prefixed → Bool
are_apart [] = true
are_apart (row ∷ rest) = not (list_any (λ (other : Prefixed). is_same_word other.word row.word) rest) && are_apart rest

row_found : (table : List Prefixed) (row : Prefixed) (tokens : List Token) → are_apart table ≡ true
    → IsAmong row table → has_prefix tokens row ≡ true → find (has_prefix tokens) table ≡ Some row
row_found [] row tokens apart among passes = elim among [ ]
row_found (x ∷ xs) row tokens apart among passes =
    let p = and_parts (not (list_any (λ (other : Prefixed). is_same_word other.word x.word) xs)) (are_apart xs) apart in
    by (has_prefix tokens x) refl among (not-true _ p.0) (λ more. row_found xs row tokens p.1 more passes)
  where
    words : (tokens : List Token) → has_prefix tokens x ≡ true → has_prefix tokens row ≡ true → is_same_word row.word x.word ≡ true
    words [] a b = absurd cc
    words (first ∷ []) a b = absurd cc
    words (first ∷ hash ∷ rest) a b =
        let p = and_parts (is_word x.word first) (is_joined (codes "#") hash) a in
        let q = and_parts (is_word row.word first) (is_joined (codes "#") hash) b in
        alike first.text x.word row.word (and_parts (is_word_kind first.kind) (is_same_word first.text x.word) p.0).1
        (and_parts (is_word_kind first.kind) (is_same_word first.text row.word) q.0).1

    by : (b : Bool) → has_prefix tokens x ≡ b → (row ≡ x) ⊎ IsAmong row xs → list_any (λ (other : Prefixed). is_same_word other.word x.word) xs ≡ false →
        (IsAmong row xs → find (has_prefix tokens) xs ≡ Some row) → cond b (Some x) (find (has_prefix tokens) xs) ≡ Some row
    by true t (inl same) none next = ap Some (sym same)
    by true t (inr more) none next =
        let clash : true ≡ false = sym (words tokens t passes) ∙ none_at (λ (other : Prefixed). is_same_word other.word x.word) xs row more none in absurd cc
    by false t (inl same) none next = let clash : true ≡ false = sym passes ∙ ap (has_prefix tokens) same ∙ t in absurd cc
    by false t (inr more) none next = next more

prefixed_read : (table : List Prefixed) (tokens : List Token) (c : Constant) → are_apart table ≡ true
    → IsPrefixed table tokens c → prefixed_at table tokens ≡ Fits c (length tokens)
prefixed_read table tokens c apart (form.behind t row first hash rest k among word joined is) =
    let size : 2 + length rest ≡ length (first ∷ hash ∷ rest) = omega arith in
    ap (λ (o : Option Prefixed). prefixed_by o (first ∷ hash ∷ rest)) (row_found t row (first ∷ hash ∷ rest) apart among (and_from _ _ word joined))
    ∙ behind_read row.what rest k is ∙ ap (λ n. Fits k n) size

marked_read : (table : List Prefixed) (tokens : List Token) (c : Constant) → are_apart table ≡ true
    → IsPrefixed table tokens c → marked_at table tokens ≡ Fits c (length tokens)
marked_read table tokens c apart is = or_this (prefixed_at table tokens) (real_at tokens) c (length tokens) (prefixed_read table tokens c apart is)

-- tokens of a number, of a place or of an operand with a bracket, on which no mark is: one word, a sign and a word, two
-- words, a word that is no number before a point, a word before another sign, a bracket, or a word before one
pub data AreUnmarked : List Token → Type 0 where
  one : (word : Token) → is_word_kind word.kind ≡ true → AreUnmarked (word ∷ [])
  signed : (sign word : Token) → is_sign (codes "-") sign ≡ true → is_word_kind word.kind ≡ true → AreUnmarked (sign ∷ word ∷ [])
  two : (first word : Token) (rest : List Token) → is_word_kind first.kind ≡ true → is_word_kind word.kind ≡ true → AreUnmarked (first ∷ word ∷ rest)
  pointed : (first point : Token) (rest : List Token) → is_word_kind first.kind ≡ true → are_digits first.text ≡ false → is_sign (codes ".") point ≡ true →
      AreUnmarked (first ∷ point ∷ rest)
  stopped : (first stop : Token) (rest : List Token) → is_word_kind first.kind ≡ true
      → is_sign (codes "#") stop ≡ false → is_sign (codes ".") stop ≡ false → AreUnmarked (first ∷ stop ∷ rest)
  bracket : (first : Token) (rest : List Token) → is_sign (codes "[") first ≡ true → AreUnmarked (first ∷ rest)
  before_bracket : (first before : Token) (rest : List Token) → is_word_kind first.kind ≡ true
      → is_sign (codes "[") before ≡ true → AreUnmarked (first ∷ before ∷ rest)

no_prefix : (tokens : List Token) → AreUnmarked tokens → (row : Prefixed) → has_prefix tokens row ≡ false
no_prefix tokens (one word w) row = refl
no_prefix tokens (signed sign word minus w) row = and_right _ _ (and_left _ _ (no_sign (codes "#") word w))
no_prefix tokens (two first word rest f w) row = and_right _ _ (and_left _ _ (no_sign (codes "#") word w))
no_prefix tokens (pointed first point rest f d at) row = and_right _ _ (and_left _ _ (other_sign (codes ".") (codes "#") point at refl))
no_prefix tokens (stopped first stop rest f hash point) row = and_right _ _ (and_left _ _ hash)
no_prefix tokens (bracket first [] sign) row = refl
no_prefix tokens (bracket first (hash ∷ rest) sign) row = and_left _ _ (and_left _ _ (no_word (codes "[") first sign))
no_prefix tokens (before_bracket first before rest w sign) row = and_right _ _ (and_left _ _ (other_sign (codes "[") (codes "#") before sign refl))

-- two words are no number before a point, nor is a word that is no number
no_whole : (first point : Token) (rest : List Token)
    → (is_word_kind first.kind && are_digits first.text && is_joined (codes ".") point) ≡ false → is_real (first ∷ point ∷ rest) ≡ false
no_whole first point [] h = refl
no_whole first point (part ∷ rest) h = and_left _ _ (and_left _ _ h)

no_real : (tokens : List Token) → AreUnmarked tokens → begins_real tokens ≡ false
no_real tokens (one word w) = if_false (is_sign (codes "-") word) _ _ (no_sign (codes "-") word w)
no_real tokens (signed sign word minus w) = if_true (is_sign (codes "-") sign) _ _ minus ∙ and_right _ _ refl
no_real tokens (two first word rest f w) =
    if_false (is_sign (codes "-") first) _ _ (no_sign (codes "-") first f)
    ∙ no_whole first word rest (and_right _ _ (and_left _ _ (no_sign (codes ".") word w)))
no_real tokens (pointed first point rest f d at) =
    if_false (is_sign (codes "-") first) _ _ (no_sign (codes "-") first f) ∙ no_whole first point rest (and_left _ _ (and_right _ _ d))
no_real tokens (stopped first stop rest f hash point) =
    if_false (is_sign (codes "-") first) _ _ (no_sign (codes "-") first f)
    ∙ no_whole first stop rest (and_right _ _ (and_left _ _ point))
no_real tokens (bracket first [] sign) = if_false (is_sign (codes "-") first) _ _ (other_sign (codes "[") (codes "-") first sign refl)
no_real tokens (bracket first (point ∷ rest) sign) =
    if_false (is_sign (codes "-") first) _ _ (other_sign (codes "[") (codes "-") first sign refl)
    ∙ no_whole first point rest (and_left _ _ (and_left _ _ (no_word (codes "[") first sign)))
no_real tokens (before_bracket first before rest w sign) =
    if_false (is_sign (codes "-") first) _ _ (no_sign (codes "-") first w)
    ∙ no_whole first before rest (and_right _ _ (and_left _ _ (other_sign (codes "[") (codes ".") before sign refl)))

pub no_mark : (table : List Prefixed) (tokens : List Token) → AreUnmarked tokens → marked_at table tokens ≡ No
no_mark table tokens are =
    or_no (prefixed_at table tokens) (real_at tokens)
    (ap (λ (o : Option Prefixed). prefixed_by o tokens) (none_found (has_prefix tokens) table (no_prefix tokens are)))
    ∙ if_false (begins_real tokens) _ _ (no_real tokens are)

no_text : (first : Token) (rest : List Token) → is_text_kind first.kind ≡ false → text_at (first ∷ rest) ≡ No
no_text first rest h = ap (fitting 1) (if_false (is_text_kind first.kind) _ None h)

pub unmarked_no_text : (tokens : List Token) → AreUnmarked tokens → text_at tokens ≡ No
unmarked_no_text tokens (one word w) = no_text word [] (word_no_text word w)
unmarked_no_text tokens (signed sign word minus w) = no_text sign (word ∷ []) (sign_no_text (codes "-") sign minus)
unmarked_no_text tokens (two first word rest f w) = no_text first (word ∷ rest) (word_no_text first f)
unmarked_no_text tokens (pointed first point rest f d at) = no_text first (point ∷ rest) (word_no_text first f)
unmarked_no_text tokens (stopped first stop rest f hash point) = no_text first (stop ∷ rest) (word_no_text first f)
unmarked_no_text tokens (bracket first rest sign) = no_text first rest (sign_no_text (codes "[") first sign)
unmarked_no_text tokens (before_bracket first before rest w sign) = no_text first (before ∷ rest) (word_no_text first w)

signed_unmarked : (w : Width) (tokens : List Token) (v : ℕ) → IsSigned w tokens v → AreUnmarked tokens
signed_unmarked w tokens v (form.positive u word n is) = one word is.kind
signed_unmarked w tokens v (form.minus u sign word n minus glued is) = signed sign word minus is.kind

plain_read : (tokens : List Token) (v : ℕ) → IsSigned width.Word tokens v → plain_at tokens ≡ Fits (plain v) (length tokens)
plain_read tokens v is =
    let size : 0 + length tokens ≡ length tokens = omega arith in
    ap (read_as plain) (signed_read 0 width.Word tokens v is) ∙ ap (λ n. Fits (plain v) n) size

prefixed_no_text : (table : List Prefixed) (tokens : List Token) (c : Constant) → IsPrefixed table tokens c → text_at tokens ≡ No
prefixed_no_text table tokens c (form.behind t row first hash rest k among word joined is) =
    no_text first (hash ∷ rest) (word_no_text first (and_parts (is_word_kind first.kind) (is_same_word first.text row.word) word).0)

pub constant_read : (tokens : List Token) (c : Constant) → IsConstant tokens c → constant_at tokens ≡ Fits c (length tokens)
constant_read tokens c (form.number ts v is) =
    let are = signed_unmarked width.Word ts v is in
    or_no (text_at ts) _ (unmarked_no_text ts are) ∙ or_no (marked_at prefixes ts) _ (no_mark prefixes ts are) ∙ plain_read ts v is
constant_read tokens c (form.prefixed_word ts k is) =
    or_no (text_at ts) _ (prefixed_no_text prefixes ts k is) ∙ or_this (marked_at prefixes ts) _ k (length ts) (marked_read prefixes ts k refl is)
constant_read tokens c (form.text token k kind is) =
    or_this (text_at (token ∷ [])) _ k 1 (ap (fitting 1) (if_true (is_text_kind token.kind) _ None kind ∙ is))

pub addend_read : (tokens : List Token) (c : Constant) → IsAddend tokens c → addend_at tokens ≡ Fits c (length tokens)
addend_read tokens c (form.word ts v is) =
    or_no (marked_at addend_prefixes ts) _ (no_mark addend_prefixes ts (signed_unmarked width.Word ts v is)) ∙ plain_read ts v is
addend_read tokens c (form.dword ts k is) = or_this (marked_at addend_prefixes ts) _ k (length ts) (marked_read addend_prefixes ts k refl is)

up_to_unmarked : (most : ℕ) (tokens : List Token) (n : ℕ) → IsUpTo most tokens n → AreUnmarked tokens
up_to_unmarked most tokens n (form.unsigned m word k is) = one word is.kind
up_to_unmarked most tokens n (form.minus_zero m sign zero k minus glued is) = signed sign zero minus is.kind

up_to_read : (most : ℕ) (tokens : List Token) (n : ℕ) → IsUpTo most tokens n → up_to most tokens ≡ Fits n (length tokens)
up_to_read most tokens n (form.unsigned m word k is) =
    if_false (is_sign (codes "-") word) _ _ (no_sign (codes "-") word is.kind) ∙ ap (fitting 1) (number_read m word k is)
up_to_read most tokens n (form.minus_zero m sign zero k minus glued is) =
    if_true (is_sign (codes "-") sign) _ _ minus ∙ ap (fitting 2) (if_true zero.glued _ None glued ∙ number_read 0 zero k is)

pub number_at_read : (most : ℕ) (tokens : List Token) (n : ℕ) → IsUpTo most tokens n → number_at most tokens ≡ Fits (plain n) (length tokens)
number_at_read most tokens n is =
    or_no (marked_at left_out_prefixes tokens) _ (no_mark left_out_prefixes tokens (up_to_unmarked most tokens n is))
    ∙ ap (read_as plain) (up_to_read most tokens n is)

-- no constant begins with a word of another operand

-- the first token is this word
abbrev pub word_is : List ℕ → List Token → Bool
word_is word [] = false
word_is word (first ∷ rest) = is_word word first

-- the first byte comes behind the digits
abbrev pub starts_late : List ℕ → Bool
starts_late [] = false
starts_late (c ∷ cs) = nat_le 58 c

-- a word that begins with a letter, and is no prefix
pub record IsNoConstant (word : List ℕ) : Type 0 where
  pub letter : starts_late (str_to_ascii_lowercase word) ≡ true
  pub other : list_any (λ (r : Prefixed). is_same_word word r.word) prefixes ≡ false

-- a number begins with a digit

late_no_digit : (c : ℕ) → nat_le 58 (to_ascii_lowercase c) ≡ true → is_between 48 57 c ≡ false
late_no_digit c late = by (is_between 48 57 c) refl
  where
    by : (b : Bool) → is_between 48 57 c ≡ b → b ≡ false
    by true t =
        let p = and_parts (nat_le 48 c) (nat_le c 57) t in
        let low : c ≤ 57 = leb-true c 57 p.1 in
        let same : to_ascii_lowercase c ≡ c = (lowercase_is c).1 (omega (arith, low)) in
        let high : 58 ≤ c = leb-true 58 c (ap (λ (d : ℕ). nat_le 58 d) (sym same) ∙ late) in
        absurd (omega (arith, low, high))
    by false t = refl

pub late_no_number : (most : ℕ) (text : List ℕ) → starts_late (str_to_ascii_lowercase text) ≡ true → number_up_to most text ≡ None
late_no_number most [] late = absurd cc
late_no_number most (c ∷ cs) late = if_false (is_between 48 57 c && nat_le (0 * 10 + (c - 48)) most) _ None (and_left _ _ (late_no_digit c late))

digit_no_word : (most : ℕ) (text : List ℕ) (n : ℕ) (word : List ℕ) → number_up_to most text ≡ Some n
    → starts_late (str_to_ascii_lowercase word) ≡ true → is_same_word text word ≡ false
digit_no_word most text n word e letter = by (is_same_word text word) refl
  where
    by : (b : Bool) → is_same_word text word ≡ b → b ≡ false
    by true s =
        let none : number_up_to most text ≡ None = late_no_number most text (ap starts_late (same_letters text word s) ∙ letter) in
        let clash : Some n ≡ None = sym e ∙ none in
        absurd cc
    by false s = refl

signed_no_word : (w : Width) (tokens : List Token) (v : ℕ) (word : List ℕ) → IsSigned w tokens v
    → starts_late (str_to_ascii_lowercase word) ≡ true → word_is word tokens ≡ false
signed_no_word w tokens v word (form.positive u first n is) letter = and_right _ _ (digit_no_word (half u - 1) first.text n word is.number letter)
signed_no_word w tokens v word (form.minus u sign first n minus glued is) letter = and_left _ _ (no_word (codes "-") sign minus)

pub constant_no_word : (tokens : List Token) (c : Constant) (word : List ℕ) → IsConstant tokens c → IsNoConstant word → word_is word tokens ≡ false
constant_no_word tokens c word (form.number ts v is) none = signed_no_word width.Word ts v word is none.letter
constant_no_word tokens c word (form.prefixed_word ts k is) none = by ts k is none.other
  where
    by : (ts : List Token) (k : Constant) → IsPrefixed prefixes ts k
        → list_any (λ (r : Prefixed). is_same_word word r.word) prefixes ≡ false → word_is word ts ≡ false
    by ts k (form.behind t row first hash rest m among there joined is) other =
        other_word row.word word first there (none_at (λ (r : Prefixed). is_same_word word r.word) t row among other)
constant_no_word tokens c word (form.text token k kind is) none = and_left _ _ (text_no_word token kind)

-- a form is made of some tokens

pub constant_there : (tokens : List Token) (c : Constant) → IsConstant tokens c → tokens ≡ [] → ⊥
constant_there tokens c is e = by tokens e (constant_read tokens c is)
  where
    by : (ts : List Token) → ts ≡ [] → constant_at ts ≡ Fits c (length ts) → ⊥
    by [] e h = absurd cc
    by (first ∷ rest) e h = absurd cc

pub up_to_there : (most : ℕ) (tokens : List Token) (n : ℕ) → IsUpTo most tokens n → tokens ≡ [] → ⊥
up_to_there most tokens n (form.unsigned m word k is) e = absurd cc
up_to_there most tokens n (form.minus_zero m sign zero k minus glued is) e = absurd cc

-- a pointer constant is no other constant

-- a word that begins with a letter is no plain number
pub plain_none : (first : Token) (rest : List Token) → is_sign (codes "-") first ≡ false
    → (is_word_kind first.kind ≡ true → starts_late (str_to_ascii_lowercase first.text) ≡ true)
    → plain_at (first ∷ rest) ≡ No
plain_none first rest no_minus letter =
    ap (read_as plain) (if_false (is_sign (codes "-") first) _ _ no_minus ∙ ap (fitting 1) (by (is_word_kind first.kind) refl))
  where
    by : (b : Bool) → is_word_kind first.kind ≡ b → (if b then number_up_to 32767 first.text else None) ≡ None
    by true kind = late_no_number 32767 first.text (letter kind)
    by false kind = refl

-- behind `P#` only another `#` is left out
pub pointer_no_mark : (table : List Prefixed) (word hash : Token) (rest : List Token)
    → are_apart table ≡ true → IsAmong (prefixed_word prefix.Pointer (codes "P")) table
    → is_word (codes "P") word ≡ true → is_joined (codes "#") hash ≡ true → name_behind rest ≡ No → marked_at table (word ∷ hash ∷ rest) ≡ No
pointer_no_mark table word hash rest apart among is joined none =
    let kind = (and_parts (is_word_kind word.kind) (is_same_word word.text (codes "P")) is).0 in
    let no_point : is_joined (codes ".") hash ≡ false = and_left _ _ (other_sign (codes "#") (codes ".") hash (joined_sign (codes "#") hash joined) refl) in
    or_no (prefixed_at table (word ∷ hash ∷ rest)) (real_at (word ∷ hash ∷ rest))
    (ap (λ (o : Option Prefixed). prefixed_by o (word ∷ hash ∷ rest))
    (row_found table (prefixed_word prefix.Pointer (codes "P")) (word ∷ hash ∷ rest) apart among (and_from _ _ is joined))
    ∙ none)
    ∙ if_false (begins_real (word ∷ hash ∷ rest)) _ No
    (if_false (is_sign (codes "-") word) _ _ (no_sign (codes "-") word kind) ∙ no_whole word hash rest (and_right _ _ no_point))

pub pointer_no_constant : (word hash : Token) (rest : List Token) → is_word (codes "P") word ≡ true → is_joined (codes "#") hash ≡ true → name_behind rest ≡ No
    → constant_at (word ∷ hash ∷ rest) ≡ No
pointer_no_constant word hash rest is joined none =
    let p = and_parts (is_word_kind word.kind) (is_same_word word.text (codes "P")) is in
    or_no (text_at (word ∷ hash ∷ rest)) _ (no_text word (hash ∷ rest) (word_no_text word p.0))
    ∙ or_no (marked_at prefixes (word ∷ hash ∷ rest)) _
    (pointer_no_mark prefixes word hash rest refl (inr (inr (inr (inr (inr (inr (inl refl))))))) is joined none)
    ∙ plain_none word (hash ∷ rest) (no_sign (codes "-") word p.0) (λ kind. ap starts_late (same_letters word.text (codes "P") p.1))

pub pointer_no_left_out : (word hash : Token) (rest : List Token) → is_word (codes "P") word ≡ true → is_joined (codes "#") hash ≡ true → name_behind rest ≡ No
    → marked_at left_out_prefixes (word ∷ hash ∷ rest) ≡ No
pointer_no_left_out word hash rest is joined none = pointer_no_mark left_out_prefixes word hash rest refl (inr (inl refl)) is joined none

-- Values that are left out.
use Rattle.std.proofs.Common.{◌≡◌, ℕ, ◌+◌, ◌-◌, ◌≤◌, Bool, true, false, ◌&&◌, if◌then◌else◌, List, [], ◌∷◌, Option, Some, None, refl, sym, ap, subst, ◌∙◌, arith}
use Rattle.std.proofs.lemmas.Bool.{and_from, and_left, and_parts, and_right, leb-true}
use Rattle.std.proofs.lemmas.Str.Ascii.{lowercase_is}
use Rattle.std.specs.Char.{to_ascii_lowercase}
use Rattle.std.specs.List.{find}
use Rattle.std.specs.Prelude.{codes, nat_le}
use Rattle.std.specs.Str.{str_to_ascii_lowercase}
use Rattle.digit_texts.specs.Digits.{are_digits}
use Rattle.s7_base.specs.Tokens.{is_between, is_same_word}
use Rattle.s7_base.specs.declared.reason.Kind.{Kind}
use Rattle.s7_base.specs.declared.reason.Kind.TheVariants as kind
use Rattle.s7_base.specs.declared.token.Token.{Token}
use Rattle.s7_base.specs.declared.word.Width.{Width}
use Rattle.s7_base.specs.declared.word.Width.TheVariants as width
use Rattle.stl_constants.proofs.ConstantLaws.{IsNoConstant, starts_late, word_is}
use Rattle.stl_constants.proofs.Reading.{alike, if_true, joined_sign, no_sign, no_word, or_no, other_sign, other_word, same_letters, sign_no_text, word_no_text}
use Rattle.stl_constants.proofs.Tables.{found_among, found_apart, found_passes, none_at, none_found}
use Rattle.stl_places.proofs.Outs.{OutOf, as_out, fitting_out, or_left, or_out, weaker_out}
use Rattle.stl_statement_grammar.specs.Lists.{begins_with_sign}
use Rattle.stl_grammar.specs.InitialForms.{LeavesOutBehind, LeavesOutValue, always, name, with_prefix, real}
use Rattle.stl_statement_grammar.specs.ConstantForms.{IsAmong}
use Rattle.stl_statement_grammar.specs.Constants.{Prefixed, begins_glued, begins_real, behind_prefix, binary_behind, binary_of, constant, constant_at, four_behind, four_bytes, half, has_prefix, hex_behind, hex_of, is_real, long_behind, marked_at, name_behind, negative_behind, pair_of, plain, plain_at, prefixed_at, prefixed_by, prefixes, real_at, signed_at, text_at, text_in, two_behind, two_bytes}
use Rattle.stl_statement_grammar.specs.Readers.{fitting, number_in, read_as}
use Rattle.stl_statement_grammar.specs.Words.{is_joined, is_sign, is_word, is_word_kind}
use Rattle.stl_statement_grammar.specs.declared.mnemonic.Prefix.{Prefix}
use Rattle.stl_statement_grammar.specs.declared.mnemonic.Prefix.TheVariants as prefix
use Rattle.stl_statement_grammar.specs.declared.mnemonic.Read.TheVariants.{LeftOut, No}
use Rattle.stl_tree.specs.declared.raw.Constant.{Constant}
use Rattle.stl_places.proofs.ConstantFronts.{no_text, word_kind}

-- What is left out

signed_out : (Q : Kind → Type 0) (w : Width) (before : ℕ) (tokens : List Token) → OutOf Q (signed_at before w tokens)
signed_out Q w before [] = tt
signed_out Q w before (first ∷ rest) = by (is_sign (codes "-") first)
  where
    by : (b : Bool) → OutOf Q (if b then fitting (before + 2) (negative_behind w rest) else fitting (before + 1) (number_in (half w - 1) first))
    by true = fitting_out Q (before + 2) (negative_behind w rest)
    by false = fitting_out Q (before + 1) (number_in (half w - 1) first)

long_out : (Q : Kind → Type 0) (rest : List Token) → OutOf Q (long_behind rest)
long_out Q [] = tt
long_out Q (first ∷ rest) = by first.glued
  where
    by : (b : Bool) → OutOf Q (if b then read_as (constant width.Dword) (signed_at 2 width.Dword (first ∷ rest)) else No)
    by true = as_out Q (constant width.Dword) (signed_at 2 width.Dword (first ∷ rest)) (signed_out Q width.Dword 2 (first ∷ rest))
    by false = tt

hex_out : (Q : Kind → Type 0) (w : Width) (rest : List Token) → OutOf Q (hex_behind w rest)
hex_out Q w [] = tt
hex_out Q w (a ∷ []) = tt
hex_out Q w (a ∷ b ∷ []) = tt
hex_out Q w (base ∷ hash ∷ digits ∷ rest) = fitting_out Q 5 (hex_of w base hash digits)

two_out : (Q : Kind → Type 0) (rest : List Token) → OutOf Q (two_behind rest)
two_out Q (before ∷ a ∷ comma ∷ b ∷ behind ∷ rest) = fitting_out Q 7 (two_bytes before a comma b behind)
two_out Q fewer = tt

four_out : (Q : Kind → Type 0) (rest : List Token) → OutOf Q (four_behind rest)
four_out Q (before ∷ a ∷ comma ∷ b ∷ second ∷ c ∷ third ∷ d ∷ behind ∷ rest) =
    fitting_out Q 11 (four_bytes before (pair_of a comma b) second (pair_of c third d) behind)
four_out Q fewer = tt

name_out : (rest : List Token) → OutOf (λ k. LeavesOutBehind prefix.Pointer rest k) (name_behind rest)
name_out [] = tt
name_out (hash ∷ rest) = by (is_joined (codes "#") hash) refl
  where
    by : (b : Bool) → is_joined (codes "#") hash ≡ b
        → OutOf {A = Constant} (λ k. LeavesOutBehind prefix.Pointer (hash ∷ rest) k) (if b then LeftOut kind.NamePointer else No)
    by true joined = name hash rest joined
    by false joined = tt

binary_out : (Q : Kind → Type 0) (rest : List Token) → OutOf Q (binary_behind rest)
binary_out Q [] = tt
binary_out Q (digits ∷ rest) = fitting_out Q 3 (binary_of digits)

behind_out : (what : Prefix) (rest : List Token) → OutOf (λ k. LeavesOutBehind what rest k) (behind_prefix what rest)
behind_out prefix.Long rest = long_out _ rest
behind_out (prefix.Hex w) rest = hex_out _ w rest
behind_out prefix.Bytes rest =
    let Q : Kind → Type 0 = λ k. LeavesOutBehind prefix.Bytes rest k in
    or_out Q (hex_behind width.Byte rest) _ (hex_out Q width.Byte rest) (or_out Q (two_behind rest) (four_behind rest) (two_out Q rest) (four_out Q rest))
behind_out prefix.Binary rest = binary_out _ rest
behind_out prefix.Pointer rest = name_out rest
behind_out (prefix.LeftOut k) rest = always k rest

prefixed_out : (tokens : List Token) → OutOf (λ k. LeavesOutValue tokens k) (prefixed_at prefixes tokens)
prefixed_out [] = tt
prefixed_out (first ∷ []) = tt
prefixed_out (first ∷ hash ∷ rest) = by (find (has_prefix (first ∷ hash ∷ rest)) prefixes) refl
  where
    by : (o : Option Prefixed) → find (has_prefix (first ∷ hash ∷ rest)) prefixes ≡ o
        → OutOf (λ k. LeavesOutValue (first ∷ hash ∷ rest) k) (prefixed_by o (first ∷ hash ∷ rest))
    by None found = tt
    by (Some row) found =
        let p = and_parts (is_word row.word first) (is_joined (codes "#") hash) (found_passes (has_prefix (first ∷ hash ∷ rest)) prefixes row found) in
        let among = found_among (has_prefix (first ∷ hash ∷ rest)) prefixes row found in
        weaker_out (λ k. LeavesOutBehind row.what rest k) (λ k. LeavesOutValue (first ∷ hash ∷ rest) k)
        (λ k is. with_prefix row first hash rest k among p.0 p.1 is)
        (behind_prefix row.what rest) (behind_out row.what rest)

real_out : (tokens : List Token) → OutOf (λ k. LeavesOutValue tokens k) (real_at tokens)
real_out tokens = by (begins_real tokens) refl
  where
    by : (b : Bool) → begins_real tokens ≡ b → OutOf {A = Constant} (λ k. LeavesOutValue tokens k) (if b then LeftOut kind.Real else No)
    by true is = real tokens is
    by false is = tt

text_out : (Q : Kind → Type 0) (tokens : List Token) → OutOf Q (text_at tokens)
text_out Q [] = tt
text_out Q (first ∷ rest) = fitting_out Q 1 (text_in first)

pub constant_out : (tokens : List Token) → OutOf (λ k. LeavesOutValue tokens k) (constant_at tokens)
constant_out tokens =
    let Q : Kind → Type 0 = λ k. LeavesOutValue tokens k in
    or_out Q (text_at tokens) _ (text_out Q tokens)
    (or_out Q (marked_at prefixes tokens) (plain_at tokens) (or_out Q (prefixed_at prefixes tokens) (real_at tokens) (prefixed_out tokens) (real_out tokens))
    (as_out Q plain (signed_at 0 width.Word tokens) (signed_out Q width.Word 0 tokens)))

-- no prefix is another

abbrev clash : Prefixed → Prefixed → Bool
clash a b = is_same_word b.word a.word

both_there : (first hash : Token) (rest : List Token) (a b : Prefixed)
    → has_prefix (first ∷ hash ∷ rest) a ≡ true → has_prefix (first ∷ hash ∷ rest) b ≡ true → clash a b ≡ true
both_there first hash rest a b p q =
    let one = and_parts (is_word a.word first) (is_joined (codes "#") hash) p in
    let two = and_parts (is_word b.word first) (is_joined (codes "#") hash) q in
    alike first.text a.word b.word (and_parts (is_word_kind first.kind) (is_same_word first.text a.word) one.0).1
    (and_parts (is_word_kind first.kind) (is_same_word first.text b.word) two.0).1

row_found : (first hash : Token) (rest : List Token) (row : Prefixed) → IsAmong row prefixes → is_word row.word first ≡ true → is_joined (codes "#") hash ≡ true
    → find (has_prefix (first ∷ hash ∷ rest)) prefixes ≡ Some row
row_found first hash rest row among word joined =
    found_apart (has_prefix (first ∷ hash ∷ rest)) clash prefixes row refl (both_there first hash rest) among (and_from _ _ word joined)

behind_left : (what : Prefix) (rest : List Token) (k : Kind) → LeavesOutBehind what rest k → behind_prefix what rest ≡ LeftOut k
behind_left what rest k (always its more) = refl
behind_left what rest k (name hash more joined) = if_true (is_joined (codes "#") hash) _ _ joined

-- the tokens of a real number: a sign or a word of digits, and no `#` behind it

pub record RealDigits (first : Token) (rest : List Token) : Type 0 where
  pub word : is_word_kind first.kind ≡ true
  pub digits : are_digits first.text ≡ true
  pub point : Token
  pub more : List Token
  pub behind : rest ≡ point ∷ more
  pub joined : is_joined (codes ".") point ≡ true

pub real_digits : (first : Token) (rest : List Token) → is_real (first ∷ rest) ≡ true → RealDigits first rest
real_digits first [] h = absurd cc
real_digits first (point ∷ []) h = absurd cc
real_digits first (point ∷ part ∷ more) h =
    let a = and_parts _ _ h in
    let b = and_parts _ _ a.0 in
    let c = and_parts (is_word_kind first.kind && are_digits first.text) (is_joined (codes ".") point) b.0 in
    let d = and_parts (is_word_kind first.kind) (are_digits first.text) c.0 in
    record { word = d.0; digits = d.1; point = point; more = part ∷ more; behind = refl; joined = c.1 }

-- what a real number begins with
pub data BeginsReal (first : Token) (rest : List Token) : Type 0 where
  after_minus : is_sign (codes "-") first ≡ true → is_real rest ≡ true → BeginsReal first rest
  at_digits : is_sign (codes "-") first ≡ false → RealDigits first rest → BeginsReal first rest

pub real_begins : (first : Token) (rest : List Token) → begins_real (first ∷ rest) ≡ true → BeginsReal first rest
real_begins first rest h = by (is_sign (codes "-") first) refl h
  where
    by : (b : Bool) → is_sign (codes "-") first ≡ b → (if b then begins_glued rest && is_real rest else is_real (first ∷ rest)) ≡ true → BeginsReal first rest
    by true sign h = after_minus sign (and_parts (begins_glued rest) (is_real rest) h).1
    by false sign h = at_digits sign (real_digits first rest h)

-- a number begins with a digit

late_no_digit : (c : ℕ) → nat_le 58 (to_ascii_lowercase c) ≡ true → is_between 48 57 c ≡ false
late_no_digit c late = by (is_between 48 57 c) refl
  where
    by : (b : Bool) → is_between 48 57 c ≡ b → b ≡ false
    by true t =
        let p = and_parts (nat_le 48 c) (nat_le c 57) t in
        let low : c ≤ 57 = leb-true c 57 p.1 in
        let same : to_ascii_lowercase c ≡ c = (lowercase_is c).1 (omega (arith, low)) in
        let high : 58 ≤ c = leb-true 58 c (ap (λ (d : ℕ). nat_le 58 d) (sym same) ∙ late) in
        absurd (omega (arith, low, high))
    by false t = refl

late_no_digits : (text : List ℕ) → starts_late (str_to_ascii_lowercase text) ≡ true → are_digits text ≡ false
late_no_digits [] late = absurd cc
late_no_digits (c ∷ cs) late = and_left _ _ (late_no_digit c late)

digits_no_word : (first : Token) (word : List ℕ) → are_digits first.text ≡ true → starts_late (str_to_ascii_lowercase word) ≡ true → is_word word first ≡ false
digits_no_word first word digits late = and_right _ _ (by (is_same_word first.text word) refl)
  where
    by : (b : Bool) → is_same_word first.text word ≡ b → b ≡ false
    by true s = let clashes : true ≡ false = sym digits ∙ late_no_digits first.text (ap starts_late (same_letters first.text word s) ∙ late) in absurd cc
    by false s = refl

-- a value that is left out begins with no other word, and no bracket stands behind its first token

begins_no_word : (first : Token) (rest : List Token) (word : List ℕ) → BeginsReal first rest
    → starts_late (str_to_ascii_lowercase word) ≡ true → is_word word first ≡ false
begins_no_word first rest word (after_minus sign is) late = and_left _ _ (no_word (codes "-") first sign)
begins_no_word first rest word (at_digits sign is) late = digits_no_word first word is.digits late

pub left_no_word : (tokens : List Token) (k : Kind) (word : List ℕ) → LeavesOutValue tokens k → IsNoConstant word → word_is word tokens ≡ false
left_no_word tokens k word (with_prefix row first hash rest its among is joined behind) none =
    other_word row.word word first is (none_at (λ (r : Prefixed). is_same_word word r.word) prefixes row among none.other)
left_no_word tokens k word (real [] is) none = absurd cc
left_no_word tokens k word (real (first ∷ rest) is) none = begins_no_word first rest word (real_begins first rest is) none.letter

begins_no_bracket : (first : Token) (rest : List Token) → BeginsReal first rest → begins_with_sign (codes "(") rest ≡ false
begins_no_bracket first [] is = refl
begins_no_bracket first (next ∷ rest) (after_minus sign is) = no_sign (codes "(") next (real_digits next rest is).word
begins_no_bracket first (next ∷ rest) (at_digits sign is) = by is.behind
  where
    by : next ∷ rest ≡ is.point ∷ is.more → is_sign (codes "(") next ≡ false
    by e =
        let same : next ≡ is.point = cc in
        subst (λ (t : Token). is_sign (codes "(") t ≡ false) (sym same)
        (other_sign (codes ".") (codes "(") is.point (joined_sign (codes ".") is.point is.joined) refl)

pub left_no_bracket : (first : Token) (rest : List Token) (k : Kind) → LeavesOutValue (first ∷ rest) k → begins_with_sign (codes "(") rest ≡ false
left_no_bracket first rest k (with_prefix row its hash more kind among is joined behind) =
    other_sign (codes "#") (codes "(") hash (joined_sign (codes "#") hash joined) refl
left_no_bracket first rest k (real tokens is) = begins_no_bracket first rest (real_begins first rest is)

-- From what is left out to what is read of it

begins_no_text : (first : Token) (rest : List Token) → BeginsReal first rest → text_at (first ∷ rest) ≡ No
begins_no_text first rest (after_minus sign is) = no_text first rest (sign_no_text (codes "-") first sign)
begins_no_text first rest (at_digits sign is) = no_text first rest (word_no_text first is.word)

begins_no_prefix : (first : Token) (rest : List Token) → BeginsReal first rest → (row : Prefixed) → has_prefix (first ∷ rest) row ≡ false
begins_no_prefix first [] is row = refl
begins_no_prefix first (next ∷ rest) (after_minus sign is) row = and_left _ _ (and_left _ _ (no_word (codes "-") first sign))
begins_no_prefix first (next ∷ rest) (at_digits sign is) row = and_right _ _ (by is.behind)
  where
    by : next ∷ rest ≡ is.point ∷ is.more → is_joined (codes "#") next ≡ false
    by e =
        let same : next ≡ is.point = cc in
        subst (λ (t : Token). is_joined (codes "#") t ≡ false) (sym same)
        (and_left _ _ (other_sign (codes ".") (codes "#") is.point (joined_sign (codes ".") is.point is.joined) refl))

real_left : (first : Token) (rest : List Token) → begins_real (first ∷ rest) ≡ true → constant_at (first ∷ rest) ≡ LeftOut kind.Real
real_left first rest is =
    let all = first ∷ rest in
    let begins = real_begins first rest is in
    or_no (text_at all) _ (begins_no_text first rest begins)
    ∙ or_left (marked_at prefixes all) (plain_at all) kind.Real
    (or_no (prefixed_at prefixes all) (real_at all)
    (ap (λ (o : Option Prefixed). prefixed_by o all) (none_found (has_prefix all) prefixes (begins_no_prefix first rest begins)))
    ∙ if_true (begins_real all) _ No is)

pub constant_left : (tokens : List Token) (k : Kind) → LeavesOutValue tokens k → constant_at tokens ≡ LeftOut k
constant_left tokens k (with_prefix row first hash rest its among is joined behind) =
    let all = first ∷ hash ∷ rest in
    or_no (text_at all) _ (no_text first (hash ∷ rest) (word_no_text first (word_kind row.word first is)))
    ∙ or_left (marked_at prefixes all) (plain_at all) k
    (or_left (prefixed_at prefixes all) (real_at all) k
    (ap (λ (o : Option Prefixed). prefixed_by o all) (row_found first hash rest row among is joined) ∙ behind_left row.what rest k behind))
constant_left tokens k (real [] is) = absurd cc
constant_left tokens k (real (first ∷ rest) is) = real_left first rest is

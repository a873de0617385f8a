-- Constants at the front of tokens, before what ends a value.
use Rattle.std.proofs.Common.{◌≡◌, ℕ, ◌+◌, ◌-◌, Bool, true, false, if◌then◌else◌, List, [], ◌∷◌, ◌++◌, length, Option, Some, None, refl, sym, ap, subst, ◌∙◌, arith}
use Rattle.std.proofs.lemmas.Bool.{and_left, and_parts, and_right}
use Rattle.std.specs.List.{find}
use Rattle.std.specs.Prelude.{codes, option_map}
use Rattle.digit_texts.specs.Digits.{number_up_to}
use Rattle.s7_base.specs.Tokens.{is_same_word}
use Rattle.s7_base.specs.declared.reason.Kind.TheVariants as kind
use Rattle.s7_base.specs.declared.token.Token.{Token}
use Rattle.s7_base.specs.declared.word.Width.{Width}
use Rattle.s7_base.specs.declared.word.Width.TheVariants as width
use Rattle.stl_constants.proofs.ConstantLaws.{constant_all, constant_read}
use Rattle.stl_constants.proofs.Reading.{AllOf, if_false, if_true, mapped, no_sign, no_word, or_no, or_this, other_sign, sign_no_text, taken, word_no_text}
use Rattle.stl_constants.proofs.Tables.{found_passes, none_found}
use Rattle.stl_places.proofs.Fronts.{FrontOf, as_front, fitting_front, or_front}
use Rattle.stl_statement_grammar.specs.ConstantForms.{IsConstant, IsNumberIn, IsPrefixed, IsSigned}
use Rattle.stl_statement_grammar.specs.ConstantForms as form
use Rattle.stl_statement_grammar.specs.Constants.{Prefixed, begins_real, behind_prefix, binary_behind, binary_of, constant, constant_at, four_behind, four_bytes, half, has_prefix, hex_behind, hex_of, is_real, long_behind, marked_at, name_behind, negative, negative_behind, pair_of, plain, plain_at, prefixed_at, prefixed_by, prefixes, real_at, signed_at, text_at, text_in, text_of, two_behind, two_bytes}
use Rattle.stl_statement_grammar.specs.Readers.{fitting, number_in, or_else, read_as}
use Rattle.stl_statement_grammar.specs.Words.{is_joined, is_sign, is_text_kind, is_word, is_word_kind}
use Rattle.stl_statement_grammar.specs.declared.mnemonic.Prefix.{Prefix}
use Rattle.stl_statement_grammar.specs.declared.mnemonic.Prefix.TheVariants as prefix
use Rattle.stl_statement_grammar.specs.declared.mnemonic.Read.{Read}
use Rattle.stl_statement_grammar.specs.declared.mnemonic.Read.TheVariants.{Fits, LeftOut, No}
use Rattle.stl_tree.specs.declared.raw.Constant.{Constant}

-- What ends a value

-- a sign behind a value, with which the value does not go on
pub record IsStop (sign : Token) : Type 0 where
  pub hash : is_sign (codes "#") sign ≡ false
  pub point : is_sign (codes ".") sign ≡ false
  pub bracket : is_sign (codes "(") sign ≡ false
  pub square : is_sign (codes "[") sign ≡ false

abbrev pub Stops : List Token → Type 0
Stops [] = ⊥
Stops (sign ∷ rest) = IsStop sign

pub stop_by : (text : List ℕ) (sign : Token) → is_sign text sign ≡ true → is_same_word (codes "#") text ≡ false → is_same_word (codes ".") text ≡ false →
    is_same_word (codes "(") text ≡ false → is_same_word (codes "[") text ≡ false → IsStop sign
stop_by text sign is hash point bracket square =
    record {
      hash = other_sign text (codes "#") sign is hash;
      point = other_sign text (codes ".") sign is point;
      bracket = other_sign text (codes "(") sign is bracket;
      square = other_sign text (codes "[") sign is square;
    }

-- From what is read to its form

pub fits_same : {A : Type 0} (a b : A) (m n : ℕ) → Fits a m ≡ Fits b n → (a ≡ b) × (m ≡ n)
fits_same a b m n e = (cc, cc)

number_is : (most : ℕ) (word : Token) (n : ℕ) → number_in most word ≡ Some n → IsNumberIn most word n
number_is most word n e = let t = taken (is_word_kind word.kind) (number_up_to most word.text) n e in record { kind = t.0; number = t.1 }

signed_front : (w : Width) (tokens : List Token) → FrontOf tokens (IsSigned w) (signed_at 0 w tokens)
signed_front w [] = tt
signed_front w (first ∷ rest) = by rest (is_sign (codes "-") first) refl
  where
    by : (rest : List Token) (b : Bool) → is_sign (codes "-") first ≡ b →
        FrontOf (first ∷ rest) (IsSigned w) (if b then fitting 2 (negative_behind w rest) else fitting 1 (number_in (half w - 1) first))
    by [] true minus = tt
    by (word ∷ left) true minus =
        fitting_front (first ∷ word ∷ left) 2 (IsSigned w) (negative_behind w (word ∷ left))
        (λ v e.
        let g = taken word.glued (option_map (negative w) (number_in (half w) word)) v e in
        let m = mapped (negative w) (number_in (half w) word) v g.1 in
        record {
          front = first ∷ word ∷ [];
          rest = left;
          is = refl;
          size_is = refl;
          holds = subst (IsSigned w (first ∷ word ∷ [])) m.made (form.minus w first word m.a minus g.0 (number_is (half w) word m.a m.found));
        })
    by rest false none =
        fitting_front (first ∷ rest) 1 (IsSigned w) (number_in (half w - 1) first)
        (λ v e. record { front = first ∷ []; rest = rest; is = refl; size_is = refl; holds = form.positive w first v (number_is (half w - 1) first v e) })

plain_front : (tokens : List Token) → FrontOf tokens IsConstant (plain_at tokens)
plain_front tokens =
    as_front tokens plain (IsSigned width.Word) IsConstant (λ front rest v at is. form.number front v is)
    (signed_at 0 width.Word tokens) (signed_front width.Word tokens)

text_front : (tokens : List Token) → FrontOf tokens IsConstant (text_at tokens)
text_front [] = tt
text_front (first ∷ rest) =
    fitting_front (first ∷ rest) 1 IsConstant (text_in first)
    (λ c e.
    let t = taken (is_text_kind first.kind) (text_of first.text) c e in
    record { front = first ∷ []; rest = rest; is = refl; size_is = refl; holds = form.text first c t.0 t.1 })

-- what was read behind a prefix is read so without the tokens behind it
record Cut (what : Prefix) (more : List Token) (c : Constant) (size : ℕ) : Type 0 where
  front : List Token
  rest : List Token
  is : front ++ rest ≡ more
  size_is : 2 + length front ≡ size
  holds : behind_prefix what front ≡ Fits c size

abbrev CutOf : Prefix → List Token → Read Constant → Type 0
CutOf what more No = Unit {0}
CutOf what more (LeftOut kind) = Unit {0}
CutOf what more (Fits c size) = Cut what more c size

fitting_cut : (what : Prefix) (more : List Token) (size : ℕ) (o : Option Constant)
    → ((c : Constant) → o ≡ Some c → Cut what more c size) → CutOf what more (fitting size o)
fitting_cut what more size None make = tt
fitting_cut what more size (Some c) make = make c refl

as_cut : (what : Prefix) (more : List Token) (size : ℕ) (make : ℕ → Constant) (o : Option ℕ) → ((v : ℕ) → o ≡ Some v → Cut what more (make v) size) →
    CutOf what more (read_as make (fitting size o))
as_cut what more size make None cut = tt
as_cut what more size make (Some v) cut = cut v refl

long_cut : (more : List Token) → CutOf prefix.Long more (long_behind more)
long_cut [] = tt
long_cut (first ∷ rest) = by rest first.glued refl (is_sign (codes "-") first) refl
  where
    long : ℕ → Constant
    long v = constant width.Dword v

    by : (rest : List Token) (g : Bool) → first.glued ≡ g → (m : Bool) → is_sign (codes "-") first ≡ m →
        CutOf prefix.Long (first ∷ rest)
        (if g
        then read_as (constant width.Dword) (if m then fitting 4 (negative_behind width.Dword rest) else fitting 3 (number_in (half width.Dword - 1) first))
        else No)
    by rest false glued m sign = tt
    by [] true glued true sign = tt
    by (word ∷ left) true glued true sign =
        as_cut prefix.Long (first ∷ word ∷ left) 4 (constant width.Dword) (negative_behind width.Dword (word ∷ left))
        (λ v e.
        record {
          front = first ∷ word ∷ [];
          rest = left;
          is = refl;
          size_is = refl;
          holds = if_true first.glued _ No glued ∙ ap (read_as (constant width.Dword)) (if_true (is_sign (codes "-") first) _ _ sign ∙ ap (fitting 4) e);
        })
    by rest true glued false sign =
        as_cut prefix.Long (first ∷ rest) 3 (constant width.Dword) (number_in (half width.Dword - 1) first)
        (λ v e.
        record {
          front = first ∷ [];
          rest = rest;
          is = refl;
          size_is = refl;
          holds = if_true first.glued _ No glued ∙ ap (read_as (constant width.Dword)) (if_false (is_sign (codes "-") first) _ _ sign ∙ ap (fitting 3) e);
        })

hex_cut : (w : Width) (more : List Token) → CutOf (prefix.Hex w) more (hex_behind w more)
hex_cut w [] = tt
hex_cut w (a ∷ []) = tt
hex_cut w (a ∷ b ∷ []) = tt
hex_cut w (base ∷ hash ∷ digits ∷ rest) =
    fitting_cut (prefix.Hex w) (base ∷ hash ∷ digits ∷ rest) 5 (hex_of w base hash digits)
    (λ c e. record { front = base ∷ hash ∷ digits ∷ []; rest = rest; is = refl; size_is = refl; holds = ap (fitting 5) e })

binary_cut : (more : List Token) → CutOf prefix.Binary more (binary_behind more)
binary_cut [] = tt
binary_cut (digits ∷ rest) =
    fitting_cut prefix.Binary (digits ∷ rest) 3 (binary_of digits)
    (λ c e. record { front = digits ∷ []; rest = rest; is = refl; size_is = refl; holds = ap (fitting 3) e })

-- one, two or four bytes, by what is read as each
bytes_by : Option Constant → Option Constant → Option Constant → Read Constant
bytes_by one two four = or_else (fitting 5 one) (or_else (fitting 7 two) (fitting 11 four))

one_cut : (a b c : Token) (rest : List Token) (k : Constant) → hex_of width.Byte a b c ≡ Some k → Cut prefix.Bytes (a ∷ b ∷ c ∷ rest) k 5
one_cut a b c rest k e =
    record {
      front = a ∷ b ∷ c ∷ [];
      rest = rest;
      is = refl;
      size_is = refl;
      holds = or_this (hex_behind width.Byte (a ∷ b ∷ c ∷ [])) _ k 5 (ap (fitting 5) e);
    }

two_cut : (a b c d f : Token) (rest : List Token) (k : Constant) → hex_of width.Byte a b c ≡ None
    → two_bytes a b c d f ≡ Some k → Cut prefix.Bytes (a ∷ b ∷ c ∷ d ∷ f ∷ rest) k 7
two_cut a b c d f rest k no_one e =
    record {
      front = a ∷ b ∷ c ∷ d ∷ f ∷ [];
      rest = rest;
      is = refl;
      size_is = refl;
      holds =
          or_no (hex_behind width.Byte (a ∷ b ∷ c ∷ d ∷ f ∷ [])) _ (ap (fitting 5) no_one)
          ∙ or_this (two_behind (a ∷ b ∷ c ∷ d ∷ f ∷ [])) _ k 7 (ap (fitting 7) e);
    }

four_cut : (a b c d f g h i j : Token) (rest : List Token) (k : Constant) → hex_of width.Byte a b c ≡ None → two_bytes a b c d f ≡ None →
    four_bytes a (pair_of b c d) f (pair_of g h i) j ≡ Some k → Cut prefix.Bytes (a ∷ b ∷ c ∷ d ∷ f ∷ g ∷ h ∷ i ∷ j ∷ rest) k 11
four_cut a b c d f g h i j rest k no_one no_two e =
    let all = a ∷ b ∷ c ∷ d ∷ f ∷ g ∷ h ∷ i ∷ j ∷ [] in
    record {
      front = all;
      rest = rest;
      is = refl;
      size_is = refl;
      holds = or_no (hex_behind width.Byte all) _ (ap (fitting 5) no_one) ∙ or_no (two_behind all) _ (ap (fitting 7) no_two) ∙ ap (fitting 11) e;
    }

bytes_cut : (more : List Token) → CutOf prefix.Bytes more (behind_prefix prefix.Bytes more)
bytes_cut [] = tt
bytes_cut (a ∷ []) = tt
bytes_cut (a ∷ b ∷ []) = tt
bytes_cut (a ∷ b ∷ c ∷ rest) = by rest (hex_of width.Byte a b c) refl
  where
    four : (d f : Token) (rest : List Token) → hex_of width.Byte a b c ≡ None → two_bytes a b c d f ≡ None →
        CutOf prefix.Bytes (a ∷ b ∷ c ∷ d ∷ f ∷ rest) (four_behind (a ∷ b ∷ c ∷ d ∷ f ∷ rest))
    four d f [] no_one no_two = tt
    four d f (g ∷ []) no_one no_two = tt
    four d f (g ∷ h ∷ []) no_one no_two = tt
    four d f (g ∷ h ∷ i ∷ []) no_one no_two = tt
    four d f (g ∷ h ∷ i ∷ j ∷ rest) no_one no_two =
        fitting_cut prefix.Bytes (a ∷ b ∷ c ∷ d ∷ f ∷ g ∷ h ∷ i ∷ j ∷ rest) 11 (four_bytes a (pair_of b c d) f (pair_of g h i) j)
        (λ k e. four_cut a b c d f g h i j rest k no_one no_two e)

    two : (d f : Token) (rest : List Token) (o : Option Constant) → hex_of width.Byte a b c ≡ None → two_bytes a b c d f ≡ o →
        CutOf prefix.Bytes (a ∷ b ∷ c ∷ d ∷ f ∷ rest) (or_else (fitting 7 o) (four_behind (a ∷ b ∷ c ∷ d ∷ f ∷ rest)))
    two d f rest (Some k) no_one e = two_cut a b c d f rest k no_one e
    two d f rest None no_one e = four d f rest no_one e

    by : (rest : List Token) (o : Option Constant) → hex_of width.Byte a b c ≡ o →
        CutOf prefix.Bytes (a ∷ b ∷ c ∷ rest) (or_else (fitting 5 o) (or_else (two_behind (a ∷ b ∷ c ∷ rest)) (four_behind (a ∷ b ∷ c ∷ rest))))
    by rest (Some k) e = one_cut a b c rest k e
    by [] None e = tt
    by (d ∷ []) None e = tt
    by (d ∷ f ∷ rest) None e = two d f rest (two_bytes a b c d f) e refl

name_cut : (more : List Token) → CutOf prefix.Pointer more (name_behind more)
name_cut [] = tt
name_cut (hash ∷ rest) = by (is_joined (codes "#") hash)
  where
    by : (b : Bool) → CutOf prefix.Pointer (hash ∷ rest) (if b then LeftOut kind.NamePointer else No)
    by true = tt
    by false = tt

behind_cut : (what : Prefix) (more : List Token) → CutOf what more (behind_prefix what more)
behind_cut prefix.Long more = long_cut more
behind_cut (prefix.Hex w) more = hex_cut w more
behind_cut prefix.Bytes more = bytes_cut more
behind_cut prefix.Binary more = binary_cut more
behind_cut prefix.Pointer more = name_cut more
behind_cut (prefix.LeftOut kind) more = tt

is_constant : (front : List Token) (c : Constant) → constant_at front ≡ Fits c (length front) → IsConstant front c
is_constant front c e = by (constant_at front) (constant_all front) e
  where
    by : (r : Read Constant) → AllOf (length front) (IsConstant front) r → r ≡ Fits c (length front) → IsConstant front c
    by No all e = absurd cc
    by (LeftOut kind) all e = absurd cc
    by (Fits k size) all e = let same = fits_same k c size (length front) e in subst (IsConstant front) same.0 (all same.1)

pub no_text : (first : Token) (rest : List Token) → is_text_kind first.kind ≡ false → text_at (first ∷ rest) ≡ No
no_text first rest h = ap (fitting 1) (if_false (is_text_kind first.kind) _ None h)

pub word_kind : (word : List ℕ) (token : Token) → is_word word token ≡ true → is_word_kind token.kind ≡ true
word_kind word token h = (and_parts (is_word_kind token.kind) (is_same_word token.text word) h).0

-- a constant with a prefix, by what is read behind the prefix
prefix_read : (first hash : Token) (rest : List Token) (o : Option Prefixed) (c : Constant) (size : ℕ)
    → is_word_kind first.kind ≡ true → find (has_prefix (first ∷ hash ∷ rest)) prefixes ≡ o
    → prefixed_by o (first ∷ hash ∷ rest) ≡ Fits c size → constant_at (first ∷ hash ∷ rest) ≡ Fits c size
prefix_read first hash rest o c size word found e =
    let all = first ∷ hash ∷ rest in
    or_no (text_at all) _ (no_text first (hash ∷ rest) (word_no_text first word))
    ∙ or_this (marked_at prefixes all) (plain_at all) c size
    (or_this (prefixed_at prefixes all) (real_at all) c size (ap (λ (p : Option Prefixed). prefixed_by p all) found ∙ e))

prefixed_front : (tokens : List Token) → FrontOf tokens IsConstant (prefixed_at prefixes tokens)
prefixed_front [] = tt
prefixed_front (first ∷ []) = tt
prefixed_front (first ∷ hash ∷ more) = by (find (has_prefix (first ∷ hash ∷ more)) prefixes) refl
  where
    at : (row : Prefixed) → find (has_prefix (first ∷ hash ∷ more)) prefixes ≡ Some row
        → (r : Read Constant) → CutOf row.what more r → FrontOf (first ∷ hash ∷ more) IsConstant r
    at row found No cut = tt
    at row found (LeftOut kind) cut = tt
    at row found (Fits c size) cut =
        let passes = and_parts (is_word row.word first) (is_joined (codes "#") hash) (found_passes (has_prefix (first ∷ hash ∷ more)) prefixes row found) in
        let whole : length (first ∷ hash ∷ cut.front) ≡ size = omega (arith, cut.size_is) in
        record {
          front = first ∷ hash ∷ cut.front;
          rest = cut.rest;
          is = ap (λ (ts : List Token). first ∷ hash ∷ ts) cut.is;
          size_is = whole;
          holds = is_constant (first ∷ hash ∷ cut.front) c
              (prefix_read first hash cut.front (Some row) c (length (first ∷ hash ∷ cut.front)) (word_kind row.word first passes.0) found
              (cut.holds ∙ ap (λ (n : ℕ). Fits c n) (sym whole)));
        }

    by : (o : Option Prefixed) → find (has_prefix (first ∷ hash ∷ more)) prefixes ≡ o
        → FrontOf (first ∷ hash ∷ more) IsConstant (prefixed_by o (first ∷ hash ∷ more))
    by None found = tt
    by (Some row) found = at row found (behind_prefix row.what more) (behind_cut row.what more)

real_front : (P : List Token → Constant → Type 0) (tokens : List Token) → FrontOf tokens P (real_at tokens)
real_front P tokens = by (begins_real tokens)
  where
    by : (b : Bool) → FrontOf tokens P (if b then LeftOut kind.Real else No)
    by true = tt
    by false = tt

pub constant_front : (tokens : List Token) → FrontOf tokens IsConstant (constant_at tokens)
constant_front tokens =
    or_front tokens IsConstant (text_at tokens) _ (text_front tokens)
    (or_front tokens IsConstant (marked_at prefixes tokens) (plain_at tokens)
    (or_front tokens IsConstant (prefixed_at prefixes tokens) (real_at tokens) (prefixed_front tokens) (real_front IsConstant tokens)) (plain_front tokens))

-- From a form to what is read of it, before what ends it

number_read : (most : ℕ) (word : Token) (n : ℕ) → IsNumberIn most word n → number_in most word ≡ Some n
number_read most word n is = if_true (is_word_kind word.kind) (number_up_to most word.text) None is.kind ∙ is.number

signed_read : (w : Width) (tokens : List Token) (v : ℕ) → IsSigned w tokens v → (rest : List Token) → signed_at 0 w (tokens ++ rest) ≡ Fits v (length tokens)
signed_read w tokens v (form.positive u word n is) rest =
    if_false (is_sign (codes "-") word) _ _ (no_sign (codes "-") word is.kind) ∙ ap (fitting 1) (number_read (half u - 1) word n is)
signed_read w tokens v (form.minus u sign word n minus glued is) rest =
    if_true (is_sign (codes "-") sign) _ _ minus
    ∙ ap (fitting 2) (if_true word.glued _ None glued ∙ ap (option_map (negative u)) (number_read (half u) word n is))

-- a number before something else than a point is no real one
no_point : (word stop : Token) (more : List Token) → is_sign (codes ".") stop ≡ false → is_real (word ∷ stop ∷ more) ≡ false
no_point word stop [] h = refl
no_point word stop (part ∷ more) h = and_left _ _ (and_left _ _ (and_right _ _ (and_left _ _ h)))

no_mark : (tokens : List Token) → ((row : Prefixed) → has_prefix tokens row ≡ false) → begins_real tokens ≡ false → marked_at prefixes tokens ≡ No
no_mark tokens no_prefix no_real =
    or_no (prefixed_at prefixes tokens) (real_at tokens)
    (ap (λ (o : Option Prefixed). prefixed_by o tokens) (none_found (has_prefix tokens) prefixes no_prefix))
    ∙ if_false (begins_real tokens) _ _ no_real

signed_unmarked : (w : Width) (tokens : List Token) (v : ℕ) → IsSigned w tokens v → (rest : List Token) → Stops rest → marked_at prefixes (tokens ++ rest) ≡ No
signed_unmarked w tokens v (form.positive u word n is) [] stop = absurd stop
signed_unmarked w tokens v (form.positive u word n is) (sign ∷ rest) stop =
    no_mark (word ∷ sign ∷ rest) (λ row. and_right _ _ (and_left _ _ stop.hash))
    (if_false (is_sign (codes "-") word) _ _ (no_sign (codes "-") word is.kind) ∙ no_point word sign rest stop.point)
signed_unmarked w tokens v (form.minus u minus word n is_minus glued is) [] stop = absurd stop
signed_unmarked w tokens v (form.minus u minus word n is_minus glued is) (sign ∷ rest) stop =
    no_mark (minus ∷ word ∷ sign ∷ rest) (λ row. and_left _ _ (and_left _ _ (no_word (codes "-") minus is_minus)))
    (if_true (is_sign (codes "-") minus) _ _ is_minus ∙ and_right _ _ (no_point word sign rest stop.point))

signed_no_text : (w : Width) (tokens : List Token) (v : ℕ) → IsSigned w tokens v → (rest : List Token) → text_at (tokens ++ rest) ≡ No
signed_no_text w tokens v (form.positive u word n is) rest = no_text word rest (word_no_text word is.kind)
signed_no_text w tokens v (form.minus u sign word n minus glued is) rest = no_text sign (word ∷ rest) (sign_no_text (codes "-") sign minus)

-- what is read behind a prefix is read so with other tokens behind it

or_grown : (a b more : Read Constant) (c : Constant) (n : ℕ) → (b ≡ Fits c n → more ≡ Fits c n) → or_else a b ≡ Fits c n → or_else a more ≡ Fits c n
or_grown No b more c n grow e = grow e
or_grown (LeftOut kind) b more c n grow e = e
or_grown (Fits k size) b more c n grow e = e

grown : (what : Prefix) (rest more : List Token) (c : Constant) (n : ℕ) → behind_prefix what rest ≡ Fits c n → behind_prefix what (rest ++ more) ≡ Fits c n
grown prefix.Long [] more c n e = absurd cc
grown prefix.Long (first ∷ []) more c n e = by first.glued (is_sign (codes "-") first) e
  where
    by : (g m : Bool)
        → (if g then read_as (constant width.Dword) (if m then fitting 4 None else fitting 3 (number_in (half width.Dword - 1) first)) else No) ≡ Fits c n
        → (if g
        then read_as (constant width.Dword) (if m then fitting 4 (negative_behind width.Dword more) else fitting 3 (number_in (half width.Dword - 1) first))
        else No) ≡ Fits c n
    by false m e = absurd cc
    by true true e = absurd cc
    by true false e = e
grown prefix.Long (first ∷ word ∷ rest) more c n e = e
grown (prefix.Hex w) [] more c n e = absurd cc
grown (prefix.Hex w) (a ∷ []) more c n e = absurd cc
grown (prefix.Hex w) (a ∷ b ∷ []) more c n e = absurd cc
grown (prefix.Hex w) (base ∷ hash ∷ digits ∷ rest) more c n e = e
grown prefix.Bytes [] more c n e = absurd cc
grown prefix.Bytes (a ∷ []) more c n e = absurd cc
grown prefix.Bytes (a ∷ b ∷ []) more c n e = absurd cc
grown prefix.Bytes (a ∷ b ∷ d ∷ []) more c n e = or_grown (hex_behind width.Byte (a ∷ b ∷ d ∷ [])) No _ c n (λ none. absurd cc) e
grown prefix.Bytes (a ∷ b ∷ d ∷ f ∷ []) more c n e = or_grown (hex_behind width.Byte (a ∷ b ∷ d ∷ f ∷ [])) No _ c n (λ none. absurd cc) e
grown prefix.Bytes (a ∷ b ∷ d ∷ f ∷ g ∷ rest) more c n e =
    or_grown (hex_behind width.Byte (a ∷ b ∷ d ∷ f ∷ g ∷ rest)) _ _ c n
    (λ two. or_grown (two_behind (a ∷ b ∷ d ∷ f ∷ g ∷ rest)) _ _ c n (λ four. last rest four) two) e
  where
    last : (rest : List Token) → four_behind (a ∷ b ∷ d ∷ f ∷ g ∷ rest) ≡ Fits c n → four_behind (a ∷ b ∷ d ∷ f ∷ g ∷ (rest ++ more)) ≡ Fits c n
    last [] four = absurd cc
    last (h ∷ []) four = absurd cc
    last (h ∷ i ∷ []) four = absurd cc
    last (h ∷ i ∷ j ∷ []) four = absurd cc
    last (h ∷ i ∷ j ∷ k ∷ rest) four = four
grown prefix.Binary [] more c n e = absurd cc
grown prefix.Binary (digits ∷ rest) more c n e = e
grown prefix.Pointer [] more c n e = absurd cc
grown prefix.Pointer (hash ∷ rest) more c n e = e
grown (prefix.LeftOut kind) rest more c n e = e

-- a constant that begins with a word and a second token, both of it, has a prefix
prefix_there : (first hash : Token) (rest : List Token) (c : Constant) → is_word_kind first.kind ≡ true
    → constant_at (first ∷ hash ∷ rest) ≡ Fits c (length (first ∷ hash ∷ rest))
    → prefixed_at prefixes (first ∷ hash ∷ rest) ≡ Fits c (length (first ∷ hash ∷ rest))
prefix_there first hash rest c word e =
    by (prefixed_at prefixes all) (begins_real all) (number_in (half width.Word - 1) first)
    (sym (or_no (text_at all) _ (no_text first (hash ∷ rest) (word_no_text first word))
    ∙ ap (λ (r : Read Constant). or_else (marked_at prefixes all) r)
    (ap (read_as plain) (if_false (is_sign (codes "-") first) _ _ (no_sign (codes "-") first word)))) ∙ e)
  where
    all : List Token
    all = first ∷ hash ∷ rest

    by : (r : Read Constant) (b : Bool) (o : Option ℕ) →
        or_else (or_else r (if b then LeftOut kind.Real else No)) (read_as plain (fitting 1 o)) ≡ Fits c (length all) → r ≡ Fits c (length all)
    by (Fits k size) b o h = h
    by (LeftOut kind) b o h = absurd cc
    by No true o h = absurd cc
    by No false None h = absurd cc
    by No false (Some v) h = let size = (fits_same (plain v) c 1 (length all) h).1 in absurd (omega (arith, size))

prefixed_before : (tokens : List Token) (c : Constant) → IsPrefixed prefixes tokens c → constant_at tokens ≡ Fits c (length tokens) → (more : List Token) →
    constant_at (tokens ++ more) ≡ Fits c (length tokens)
prefixed_before tokens c (form.behind t row first hash rest k among is joined behind) e more =
    by (find (has_prefix (first ∷ hash ∷ rest)) prefixes) refl (prefix_there first hash rest k word e)
  where
    word : is_word_kind first.kind ≡ true
    word = word_kind row.word first is

    by : (o : Option Prefixed) → find (has_prefix (first ∷ hash ∷ rest)) prefixes ≡ o
        → prefixed_by o (first ∷ hash ∷ rest) ≡ Fits k (length (first ∷ hash ∷ rest))
        → constant_at (first ∷ hash ∷ (rest ++ more)) ≡ Fits k (length (first ∷ hash ∷ rest))
    by None found h = absurd cc
    by (Some other) found h =
        prefix_read first hash (rest ++ more) (Some other) k (length (first ∷ hash ∷ rest)) word found
        (grown other.what rest more k (length (first ∷ hash ∷ rest)) h)

pub constant_before : (tokens : List Token) (c : Constant) → IsConstant tokens c
    → (rest : List Token) → Stops rest → constant_at (tokens ++ rest) ≡ Fits c (length tokens)
constant_before tokens c (form.number ts v is) rest stop =
    or_no (text_at (ts ++ rest)) _ (signed_no_text width.Word ts v is rest)
    ∙ or_no (marked_at prefixes (ts ++ rest)) _ (signed_unmarked width.Word ts v is rest stop)
    ∙ ap (read_as plain) (signed_read width.Word ts v is rest)
constant_before tokens c (form.prefixed_word ts k is) rest stop = prefixed_before ts k is (constant_read ts k (form.prefixed_word ts k is)) rest
constant_before tokens c (form.text token k is of) rest stop =
    or_this (text_at (token ∷ rest)) _ k 1 (ap (fitting 1) (if_true (is_text_kind token.kind) _ None is ∙ of))

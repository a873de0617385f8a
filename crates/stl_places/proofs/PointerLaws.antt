-- A pointer, an offset and what stands in a bracket are read exactly where one of their forms stands.
use Rattle.std.proofs.Common.{◌≡◌, ℕ, ◌+◌, Bool, true, false, cond, not, ◌&&◌, if◌then◌else◌, List, [], ◌∷◌, ◌++◌, length, take, Option, Some, None, refl, ap, subst, ◌∙◌, arith}
use Rattle.std.proofs.lemmas.Bool.{and_from, and_left, and_parts}
use Rattle.std.proofs.lemmas.List.{append-nil}
use Rattle.std.specs.List.{find, prefix_len}
use Rattle.std.specs.Prelude.{codes}
use Rattle.s7_base.specs.Tokens.{is_between}
use Rattle.s7_base.specs.declared.token.Token.{Token}
use Rattle.s7_base.specs.declared.word.Width.{Width}
use Rattle.s7_base.specs.declared.word.Width.TheVariants as width
use Rattle.stl_statement_grammar.specs.ConstantForms.{IsAmong}
use Rattle.stl_statement_grammar.specs.Constants.{begins_glued, name_behind}
use Rattle.digit_texts.specs.Digits.{are_digits, kept_number}
use Rattle.stl_statement_grammar.specs.Paths.{number_word}
use Rattle.stl_statement_grammar.specs.PlaceForms.{IsBitBehind, IsPlace}
use Rattle.stl_statement_grammar.specs.Places.{PlaceWord, bit_at, is_no_digit, letters_of, place_at, place_words}
use Rattle.stl_statement_grammar.specs.PointerForms.{IsBehindHash, IsCrossing, IsIndirect, IsMemory, IsOffset, IsOffsetConstant, IsPointer, IsPointerConstant, IsRegister}
use Rattle.stl_statement_grammar.specs.PointerForms as form
use Rattle.stl_statement_grammar.specs.Pointers.{behind_hash, with_closing, closing, crossing_at, crossing_by, has_word, held_by, indirect_at, indirect_by, is_held, memory_at, offset_at, offset_behind, offset_by, pointer, pointer_at, pointer_behind, pointer_to, pointer_with, register_at, register_named, register_with, width_named}
use Rattle.stl_statement_grammar.specs.Readers.{fitting, further, or_else, read_as}
use Rattle.stl_statement_grammar.specs.Words.{is_joined, is_sign, is_word, is_word_kind}
use Rattle.stl_statement_grammar.specs.declared.mnemonic.Read.{Read}
use Rattle.stl_statement_grammar.specs.declared.mnemonic.Read.TheVariants.{Fits, LeftOut, No}
use Rattle.stl_tree.specs.declared.program.Ar.{Ar}
use Rattle.stl_tree.specs.declared.program.Ar.TheVariants as ar
use Rattle.stl_tree.specs.declared.raw.RawOperand.{RawOperand}
use Rattle.stl_tree.specs.declared.raw.RawOperand.TheVariants.{ByMemory, ByRegister, Crossing}
use Rattle.stl_tree.specs.declared.raw.RawPlace.{RawPlace}
use Rattle.stl_tree.specs.declared.raw.RawPointer.{RawPointer}
use Rattle.stl_places.proofs.Fronts.{FrontOf, and_then_front, and_then_read, as_front, fitting_front, front_all, further_front, further_read, or_front, refined}
use Rattle.stl_places.proofs.NoPlaces.{no_place_begins}
use Rattle.stl_places.proofs.PlaceLaws.{bit_at_front, bit_read, glued_before, place_at_read, place_front, same_words}
use Rattle.stl_places.proofs.PlaceTokens.{begins_place, begins_with_word, place_kind, place_there, register_letters}
use Rattle.stl_constants.proofs.Reading.{AllOf, alike, if_false, if_true, no_sign, or_no, or_this, taken}
use Rattle.stl_constants.proofs.Tables.{found_among, found_apart, found_passes}

-- From what is read to its form

-- tokens that stand in front of some that begin without a blank do so too, where there are any
front_glued : (front behind tokens : List Token) → (front ≡ [] → ⊥) → front ++ behind ≡ tokens → begins_glued tokens ≡ true → begins_glued front ≡ true
front_glued [] behind tokens some at glued = absurd (some refl)
front_glued (first ∷ rest) behind tokens some at glued = ap begins_glued at ∙ glued

offset_there : (tokens : List Token) (p : RawPointer) → IsOffset tokens p → tokens ≡ [] → ⊥
offset_there tokens p (form.offset word rest byte bit number is) e = absurd cc

pointer_there : (tokens : List Token) (p : RawPointer) → IsPointer tokens p → tokens ≡ [] → ⊥
pointer_there tokens p (form.in_area ts place q is to) e = place_there ts place is e
pointer_there tokens p (form.alone ts q is) e = offset_there ts q is e

offset_front : (tokens : List Token) → FrontOf tokens IsOffset (offset_behind tokens)
offset_front [] = tt
offset_front (word ∷ rest) = by (number_word word) refl (bit_at rest) (bit_at_front rest)
  where
    by : (o : Option ℕ) → number_word word ≡ o → (r : Read ℕ) → FrontOf rest (IsBitBehind width.Bit) r → FrontOf (word ∷ rest) IsOffset (offset_by o r)
    by None e r f = tt
    by (Some byte) e No f = tt
    by (Some byte) e (LeftOut kind) f = tt
    by (Some byte) e (Fits bit size) f =
        record {
          front = word ∷ f.front;
          rest = f.rest;
          is = ap (λ (ts : List Token). word ∷ ts) f.is;
          size_is = omega (arith, f.size_is);
          holds = form.offset word f.front byte bit e f.holds;
        }

pointer_front : (tokens : List Token) → FrontOf tokens IsPointer (pointer_behind tokens)
pointer_front tokens =
    or_front tokens IsPointer (pointer_with (place_at tokens)) (offset_behind tokens) (by (place_at tokens) (place_front tokens))
    (refined tokens IsOffset IsPointer (λ front rest p at is. form.alone front p is) (offset_behind tokens) (offset_front tokens))
  where
    by : (r : Read RawPlace) → FrontOf tokens IsPlace r → FrontOf tokens IsPointer (pointer_with r)
    by No f = tt
    by (LeftOut kind) f = tt
    by (Fits place size) f =
        fitting_front tokens size IsPointer (pointer_to place)
        (λ p to. record { front = f.front; rest = f.rest; is = f.is; size_is = f.size_is; holds = form.in_area f.front place p f.holds to })

hash_front : (IsSuch : List Token → RawPointer → Type 0) (read : List Token → Read RawPointer) → ((tokens : List Token) → FrontOf tokens IsSuch (read tokens))
    → ((tokens : List Token) (p : RawPointer) → IsSuch tokens p → tokens ≡ [] → ⊥)
    → (tokens : List Token) → FrontOf tokens (IsBehindHash IsSuch) (behind_hash read tokens)
hash_front IsSuch read reads there [] = tt
hash_front IsSuch read reads there (word ∷ []) = tt
hash_front IsSuch read reads there (word ∷ hash ∷ rest) = by (is_word (codes "P") word && is_joined (codes "#") hash && begins_glued rest) refl
  where
    by : (b : Bool) → (is_word (codes "P") word && is_joined (codes "#") hash && begins_glued rest) ≡ b →
        FrontOf (word ∷ hash ∷ rest) (IsBehindHash IsSuch) (if b then further 2 (read rest) else No)
    by false e = tt
    by true e =
        let p = and_parts (is_word (codes "P") word && is_joined (codes "#") hash) (begins_glued rest) e in
        let q = and_parts (is_word (codes "P") word) (is_joined (codes "#") hash) p.0 in
        further_front (word ∷ hash ∷ []) rest (IsBehindHash IsSuch) (read rest)
        (refined rest IsSuch (λ more x. IsBehindHash IsSuch (word ∷ hash ∷ more) x)
        (λ front behind x at is. form.behind word hash front x q.0 q.1 (front_glued front behind rest (there front x is) at p.1) is) (read rest) (reads rest))

pub pointer_constant_front : (tokens : List Token) → FrontOf tokens IsPointerConstant (pointer_at tokens)
pointer_constant_front tokens = hash_front IsPointer pointer_behind pointer_front pointer_there tokens

pub offset_constant_front : (tokens : List Token) → FrontOf tokens IsOffsetConstant (offset_at tokens)
offset_constant_front tokens = hash_front IsOffset offset_behind offset_front offset_there tokens

pub pointer_all : (tokens : List Token) → AllOf (length tokens) (IsPointerConstant tokens) (pointer_at tokens)
pointer_all tokens = front_all tokens IsPointerConstant (pointer_at tokens) (pointer_constant_front tokens)

pub offset_all : (tokens : List Token) → AllOf (length tokens) (IsOffsetConstant tokens) (offset_at tokens)
offset_all tokens = front_all tokens IsOffsetConstant (offset_at tokens) (offset_constant_front tokens)

-- an operand that was made of what stands in a bracket
record MadeOf {A : Type 0} (Is : List Token → A → Type 0) (make : A → RawOperand) (front : List Token) (operand : RawOperand) : Type 0 where
  a : A
  is : Is front a
  made : make a ≡ operand

-- with the end of its bracket
closed_front : {A : Type 0} (Is : List Token → A → Type 0) (make : A → RawOperand)
    (Q : List Token → RawOperand → Type 0) (tokens : List Token) (r : Read RawOperand)
    → ((front : List Token) (close : Token) (a : A) → Is front a → is_sign (codes "]") close ≡ true → Q (front ++ (close ∷ [])) (make a))
    → FrontOf tokens (MadeOf Is make) r
    → FrontOf tokens Q (with_closing tokens r)
closed_front Is make Q tokens r done f = and_then_front tokens (MadeOf Is make) Q r closing f by
  where
    by : (front rest : List Token) (operand : RawOperand) → MadeOf Is make front operand → FrontOf rest (λ more o. Q (front ++ more) o) (closing operand rest)
    by front [] operand m = tt
    by front (first ∷ rest) operand m = at (is_sign (codes "]") first) refl
      where
        at : (b : Bool) → is_sign (codes "]") first ≡ b → FrontOf (first ∷ rest) (λ more o. Q (front ++ more) o) (if b then Fits operand 1 else No)
        at true sign =
            record {
              front = first ∷ [];
              rest = rest;
              is = refl;
              size_is = refl;
              holds = subst (λ (o : RawOperand). Q (front ++ (first ∷ [])) o) m.made (done front first m.a m.is sign);
            }
        at false sign = tt

-- a place where a pointer of this width may stand
abbrev IsHeld : Width → List Token → RawPlace → Type 0
IsHeld w front place = IsPlace front place × (is_held w place ≡ true)

pub memory_front : (make : RawPlace → RawOperand) (w : Width) (tokens : List Token) → FrontOf tokens (IsMemory make w) (memory_at make w tokens)
memory_front make w tokens =
    closed_front (IsHeld w) make (IsMemory make w) tokens (held_by make w (place_at tokens))
    (λ front close place is sign. form.memory front close place is.0 is.1 sign) (by (place_at tokens) (place_front tokens))
  where
    by : (r : Read RawPlace) → FrontOf tokens IsPlace r → FrontOf tokens (MadeOf (IsHeld w) make) (held_by make w r)
    by No f = tt
    by (LeftOut kind) f = tt
    by (Fits place size) f = at (is_held w place) refl
      where
        at : (b : Bool) → is_held w place ≡ b → FrontOf tokens (MadeOf (IsHeld w) make) (if b then Fits (make place) size else No)
        at true held =
            record { front = f.front; rest = f.rest; is = f.is; size_is = f.size_is; holds = record { a = place; is = (f.holds, held); made = refl } }
        at false held = tt

register_front : (make : Ar → RawPointer → RawOperand) (tokens : List Token) → FrontOf tokens (IsRegister make) (register_at make tokens)
register_front make [] = tt
register_front make (a ∷ []) = tt
register_front make (word ∷ comma ∷ rest) = by (register_named word) refl
  where
    at : (r : Ar) → register_named word ≡ Some r → (b : Bool) → is_sign (codes ",") comma ≡ b →
        FrontOf (word ∷ comma ∷ rest) (IsRegister make) (if b then further 2 (with_closing rest (read_as (make r) (offset_at rest))) else No)
    at r named false sign = tt
    at r named true sign =
        further_front (word ∷ comma ∷ []) rest (IsRegister make) (with_closing rest (read_as (make r) (offset_at rest)))
        (closed_front IsOffsetConstant (make r) (λ more o. IsRegister make (word ∷ comma ∷ more) o) rest (read_as (make r) (offset_at rest))
        (λ front close p is closes. form.register word comma front close r p named sign is closes)
        (as_front rest (make r) IsOffsetConstant (MadeOf IsOffsetConstant (make r))
        (λ front behind p split is. record { a = p; is = is; made = refl }) (offset_at rest) (offset_constant_front rest)))

    by : (o : Option Ar) → register_named word ≡ o → FrontOf (word ∷ comma ∷ rest) (IsRegister make) (register_with make o comma rest)
    by None named = tt
    by (Some r) named = at r named (is_sign (codes ",") comma) refl

indirect_front : (tokens : List Token) → FrontOf tokens IsIndirect (indirect_at tokens)
indirect_front [] = tt
indirect_front (a ∷ []) = tt
indirect_front (word ∷ before ∷ rest) = by (is_sign (codes "[") before) refl (find (has_word word) place_words) refl
  where
    by : (b : Bool) → is_sign (codes "[") before ≡ b → (o : Option PlaceWord) → find (has_word word) place_words ≡ o →
        FrontOf (word ∷ before ∷ rest) IsIndirect (if b then further 2 (indirect_by o rest) else No)
    by false sign o e = tt
    by true sign None e = tt
    by true sign (Some row) e =
        let among = found_among (has_word word) place_words row e in
        let named = found_passes (has_word word) place_words row e in
        let memory = ByMemory row.area row.width in
        let register = ByRegister row.area row.width in
        further_front (word ∷ before ∷ []) rest IsIndirect (or_else (memory_at memory width.Dword rest) (register_at register rest))
        (or_front rest (λ more o. IsIndirect (word ∷ before ∷ more) o) (memory_at memory width.Dword rest) (register_at register rest)
        (refined rest (IsMemory memory width.Dword) (λ more o. IsIndirect (word ∷ before ∷ more) o)
        (λ front behind o at is. form.by_memory word before front row o among named sign is)
        (memory_at memory width.Dword rest) (memory_front memory width.Dword rest))
        (refined rest (IsRegister register) (λ more o. IsIndirect (word ∷ before ∷ more) o)
        (λ front behind o at is. form.by_register word before front row o among named sign is) (register_at register rest) (register_front register rest)))

pub indirect_all : (tokens : List Token) → AllOf (length tokens) (IsIndirect tokens) (indirect_at tokens)
indirect_all tokens = front_all tokens IsIndirect (indirect_at tokens) (indirect_front tokens)

crossing_front : (tokens : List Token) → FrontOf tokens IsCrossing (crossing_at tokens)
crossing_front [] = tt
crossing_front (first ∷ rest) = by (is_sign (codes "[") first) refl
  where
    wide : (o : Option Width) → width_named first ≡ o → (rest : List Token) → FrontOf (first ∷ rest) IsCrossing (crossing_by o rest)
    wide None named rest = tt
    wide (Some w) named [] = tt
    wide (Some w) named (before ∷ more) = at (is_sign (codes "[") before) refl
      where
        at : (b : Bool) → is_sign (codes "[") before ≡ b →
            FrontOf (first ∷ before ∷ more) IsCrossing (if b then further 2 (register_at (Crossing w) more) else No)
        at false sign = tt
        at true sign =
            further_front (first ∷ before ∷ []) more IsCrossing (register_at (Crossing w) more)
            (refined more (IsRegister (Crossing w)) (λ others o. IsCrossing (first ∷ before ∷ others) o)
            (λ front behind o split is. form.wide first before front w o named sign is) (register_at (Crossing w) more) (register_front (Crossing w) more))

    by : (b : Bool) → is_sign (codes "[") first ≡ b →
        FrontOf (first ∷ rest) IsCrossing (if b then further 1 (register_at (Crossing width.Bit) rest) else crossing_by (width_named first) rest)
    by true sign =
        further_front (first ∷ []) rest IsCrossing (register_at (Crossing width.Bit) rest)
        (refined rest (IsRegister (Crossing width.Bit)) (λ more o. IsCrossing (first ∷ more) o) (λ front behind o at is. form.bit first front o sign is)
        (register_at (Crossing width.Bit) rest) (register_front (Crossing width.Bit) rest))
    by false sign = wide (width_named first) refl rest

pub crossing_all : (tokens : List Token) → AllOf (length tokens) (IsCrossing tokens) (crossing_at tokens)
crossing_all tokens = front_all tokens IsCrossing (crossing_at tokens) (crossing_front tokens)

-- From a form to what is read of it

offset_read : (tokens : List Token) (p : RawPointer) → IsOffset tokens p → (behind : List Token) → offset_behind (tokens ++ behind) ≡ Fits p (length tokens)
offset_read tokens p (form.offset word rest byte bit number is) behind =
    let size : length rest + 1 ≡ length (word ∷ rest) = omega arith in
    ap (λ (o : Option ℕ). offset_by o (bit_at (rest ++ behind))) number
    ∙ ap (offset_by (Some byte)) (bit_read width.Bit rest bit is behind)
    ∙ ap (λ (n : ℕ). Fits (pointer 0 byte bit) n) size

-- a word that is a number has no letters
number_letters : (word : Token) (n : ℕ) → number_word word ≡ Some n → (is_word_kind word.kind ≡ true) × (begins_place (letters_of word.text) ≡ false)
number_letters word n e =
    let t = taken (is_word_kind word.kind) (kept_number word.text) n e in
    (t.0, ap begins_place (none word.text (taken (are_digits word.text) _ n t.1).0))
  where
    none : (text : List ℕ) → are_digits text ≡ true → letters_of text ≡ []
    none [] h = absurd cc
    none (c ∷ cs) h =
        let digit = (and_parts (is_between 48 57 c) _ h).0 in
        ap (λ (b : Bool). take (cond (not b) (1 + prefix_len is_no_digit cs) 0) (c ∷ cs)) digit

pointer_read : (tokens : List Token) (p : RawPointer) → IsPointer tokens p → (behind : List Token) → pointer_behind (tokens ++ behind) ≡ Fits p (length tokens)
pointer_read tokens p (form.in_area ts place q is to) behind =
    or_this (pointer_with (place_at (ts ++ behind))) _ q (length ts) (ap pointer_with (place_at_read ts place is behind) ∙ ap (fitting (length ts)) to)
pointer_read tokens p (form.alone ts q is) behind =
    or_no (pointer_with (place_at (ts ++ behind))) _ (ap pointer_with (no_place ts q is)) ∙ offset_read ts q is behind
  where
    no_place : (ts : List Token) (q : RawPointer) → IsOffset ts q → place_at (ts ++ behind) ≡ No
    no_place ts q (form.offset word rest byte bit number is) = no_place_begins word (rest ++ behind) (number_letters word byte number).1

hash_read : (IsSuch : List Token → RawPointer → Type 0) (read : List Token → Read RawPointer) (tokens : List Token) (p : RawPointer)
    → ((tokens : List Token) (p : RawPointer) → IsSuch tokens p → (behind : List Token) → read (tokens ++ behind) ≡ Fits p (length tokens))
    → IsBehindHash IsSuch tokens p
    → (behind : List Token) → behind_hash read (tokens ++ behind) ≡ Fits p (length tokens)
hash_read IsSuch read tokens p reads (form.behind word hash rest q is joined glued such) behind =
    if_true (is_word (codes "P") word && is_joined (codes "#") hash && begins_glued (rest ++ behind)) _ No
    (and_from _ _ (and_from _ _ is joined) (glued_before rest behind glued))
    ∙ further_read (word ∷ hash ∷ []) rest (read (rest ++ behind)) q (reads rest q such behind)

offset_constant_read : (tokens : List Token) (p : RawPointer) → IsOffsetConstant tokens p
    → (behind : List Token) → offset_at (tokens ++ behind) ≡ Fits p (length tokens)
offset_constant_read tokens p is behind = hash_read IsOffset offset_behind tokens p offset_read is behind

alone : {A : Type 0} (read : List Token → Read A) (tokens : List Token) (a : A)
    → read (tokens ++ []) ≡ Fits a (length tokens) → read tokens ≡ Fits a (length tokens)
alone read tokens a e = subst (λ (ts : List Token). read ts ≡ Fits a (length tokens)) (append-nil tokens) e

pub pointer_at_read : (tokens : List Token) (p : RawPointer) → IsPointerConstant tokens p → pointer_at tokens ≡ Fits p (length tokens)
pointer_at_read tokens p is = alone pointer_at tokens p (hash_read IsPointer pointer_behind tokens p pointer_read is [])

pub offset_at_read : (tokens : List Token) (p : RawPointer) → IsOffsetConstant tokens p → offset_at tokens ≡ Fits p (length tokens)
offset_at_read tokens p is = alone offset_at tokens p (offset_constant_read tokens p is [])

-- the end of the bracket behind what was read
closed_read : (front : List Token) (close : Token) (r : Read RawOperand) (operand : RawOperand)
    → r ≡ Fits operand (length front) → is_sign (codes "]") close ≡ true
    → with_closing (front ++ (close ∷ [])) r ≡ Fits operand (length (front ++ (close ∷ [])))
closed_read front close r operand e sign =
    and_then_read front (close ∷ []) r operand closing e
    ∙ further_read front (close ∷ []) (closing operand (close ∷ [])) operand (if_true (is_sign (codes "]") close) _ No sign)

pub memory_read : (make : RawPlace → RawOperand) (w : Width) (tokens : List Token) (operand : RawOperand) → IsMemory make w tokens operand →
    memory_at make w tokens ≡ Fits operand (length tokens)
memory_read make w tokens operand (form.memory front close place is held sign) =
    closed_read front close (held_by make w (place_at (front ++ (close ∷ [])))) (make place)
    (ap (held_by make w) (place_at_read front place is (close ∷ [])) ∙ if_true (is_held w place) _ No held) sign

register_read : (make : Ar → RawPointer → RawOperand) (tokens : List Token) (operand : RawOperand) → IsRegister make tokens operand →
    register_at make tokens ≡ Fits operand (length tokens)
register_read make tokens operand (form.register word comma front close r p named sign is closes) =
    let rest = front ++ (close ∷ []) in
    ap (λ (o : Option Ar). register_with make o comma rest) named
    ∙ if_true (is_sign (codes ",") comma) _ No sign
    ∙ further_read (word ∷ comma ∷ []) rest (with_closing rest (read_as (make r) (offset_at rest))) (make r p)
    (closed_read front close (read_as (make r) (offset_at rest)) (make r p) (ap (read_as (make r)) (offset_constant_read front p is (close ∷ []))) closes)

-- an address register is a word with which no place begins
pub register_word : (word : Token) (r : Ar) → register_named word ≡ Some r → (is_word_kind word.kind ≡ true) × (begins_place (letters_of word.text) ≡ false)
register_word word r e = by (is_word (codes "AR1") word) refl (is_word (codes "AR2") word) refl e
  where
    kind : (name : List ℕ) → is_word name word ≡ true → is_word_kind word.kind ≡ true
    kind name is = (and_parts (is_word_kind word.kind) _ is).0

    by : (one : Bool) → is_word (codes "AR1") word ≡ one → (two : Bool) → is_word (codes "AR2") word ≡ two
        → (if one then Some ar.One else if two then Some ar.Two else None) ≡ Some r
        → (is_word_kind word.kind ≡ true) × (begins_place (letters_of word.text) ≡ false)
    by true is two other e = (kind (codes "AR1") is, register_letters word (codes "AR1") is refl)
    by false other true is e = (kind (codes "AR2") is, register_letters word (codes "AR2") is refl)
    by false other false none e = absurd cc

register_no_memory : (make : Ar → RawPointer → RawOperand) (tokens : List Token) (operand : RawOperand) → IsRegister make tokens operand →
    (other : RawPlace → RawOperand) (w : Width) → memory_at other w tokens ≡ No
register_no_memory make tokens operand (form.register word comma front close r p named sign is closes) other w =
    let all = word ∷ comma ∷ (front ++ (close ∷ [])) in
    ap (λ (read : Read RawPlace). with_closing all (held_by other w read))
    (no_place_begins word (comma ∷ (front ++ (close ∷ []))) (register_word word r named).1)

row_found : (word : Token) (row : PlaceWord) → IsAmong row place_words → has_word word row ≡ true → find (has_word word) place_words ≡ Some row
row_found word row among named = found_apart (has_word word) same_words place_words row refl both among named
  where
    both : (a b : PlaceWord) → has_word word a ≡ true → has_word word b ≡ true → same_words a b ≡ true
    both a b p q = alike word.text a.word b.word (and_parts (is_word_kind word.kind) _ p).1 (and_parts (is_word_kind word.kind) _ q).1

pub indirect_read : (tokens : List Token) (operand : RawOperand) → IsIndirect tokens operand → indirect_at tokens ≡ Fits operand (length tokens)
indirect_read tokens operand (form.by_memory word before rest row o among named sign is) =
    let memory = ByMemory row.area row.width in
    if_true (is_sign (codes "[") before) _ No sign
    ∙ further_read (word ∷ before ∷ []) rest (indirect_by (find (has_word word) place_words) rest) o
    (ap (λ (found : Option PlaceWord). indirect_by found rest) (row_found word row among named)
    ∙ or_this (memory_at memory width.Dword rest) _ o (length rest) (memory_read memory width.Dword rest o is))
indirect_read tokens operand (form.by_register word before rest row o among named sign is) =
    let memory = ByMemory row.area row.width in
    let register = ByRegister row.area row.width in
    if_true (is_sign (codes "[") before) _ No sign
    ∙ further_read (word ∷ before ∷ []) rest (indirect_by (find (has_word word) place_words) rest) o
    (ap (λ (found : Option PlaceWord). indirect_by found rest) (row_found word row among named)
    ∙ or_no (memory_at memory width.Dword rest) _ (register_no_memory register rest o is memory width.Dword)
    ∙ register_read register rest o is)

-- the word of a width
pub width_word : (word : Token) (w : Width) → width_named word ≡ Some w → is_word_kind word.kind ≡ true
width_word word w e = by (is_word (codes "B") word) refl (is_word (codes "W") word) refl (is_word (codes "D") word) refl e
  where
    kind : (name : List ℕ) → is_word name word ≡ true → is_word_kind word.kind ≡ true
    kind name is = (and_parts (is_word_kind word.kind) _ is).0

    by : (b : Bool) → is_word (codes "B") word ≡ b → (c : Bool) → is_word (codes "W") word ≡ c → (d : Bool) → is_word (codes "D") word ≡ d →
        (if b then Some width.Byte else if c then Some width.Word else if d then Some width.Dword else None) ≡ Some w → is_word_kind word.kind ≡ true
    by true is c no_c d no_d e = kind (codes "B") is
    by false no_b true is d no_d e = kind (codes "W") is
    by false no_b false no_c true is e = kind (codes "D") is
    by false no_b false no_c false no_d e = absurd cc

pub crossing_read : (tokens : List Token) (operand : RawOperand) → IsCrossing tokens operand → crossing_at tokens ≡ Fits operand (length tokens)
crossing_read tokens operand (form.bit before rest o sign is) =
    if_true (is_sign (codes "[") before) _ _ sign
    ∙ further_read (before ∷ []) rest (register_at (Crossing width.Bit) rest) o (register_read (Crossing width.Bit) rest o is)
crossing_read tokens operand (form.wide word before rest w o named sign is) =
    if_false (is_sign (codes "[") word) _ _ (no_sign (codes "[") word (width_word word w named))
    ∙ ap (λ (found : Option Width). crossing_by found (before ∷ rest)) named
    ∙ if_true (is_sign (codes "[") before) _ No sign
    ∙ further_read (word ∷ before ∷ []) rest (register_at (Crossing w) rest) o (register_read (Crossing w) rest o is)

-- Behind `P#`

-- behind `P#` of a pointer stands a word, and no `#`
abbrev IsNoName : (List Token → RawPointer → Type 0) → Type 0
IsNoName IsSuch = (tokens : List Token) (p : RawPointer) → IsSuch tokens p → name_behind tokens ≡ No

word_no_name : (tokens : List Token) → begins_with_word tokens ≡ true → name_behind tokens ≡ No
word_no_name [] h = absurd cc
word_no_name (first ∷ rest) h = if_false (is_joined (codes "#") first) _ No (and_left _ _ (no_sign (codes "#") first h))

offset_no_name : IsNoName IsOffset
offset_no_name tokens p (form.offset word rest byte bit number is) = word_no_name (word ∷ rest) (number_letters word byte number).0

pointer_no_name : IsNoName IsPointer
pointer_no_name tokens p (form.in_area ts place q is to) = word_no_name ts (place_kind ts place is)
pointer_no_name tokens p (form.alone ts q is) = offset_no_name ts q is

-- tokens of a pointer constant
pub record Hashed (tokens : List Token) : Type 0 where
  pub word : Token
  pub hash : Token
  pub rest : List Token
  pub all : word ∷ hash ∷ rest ≡ tokens
  pub word_is : is_word (codes "P") word ≡ true
  pub hash_is : is_joined (codes "#") hash ≡ true
  pub no_name : name_behind rest ≡ No

hashed : (IsSuch : List Token → RawPointer → Type 0) → IsNoName IsSuch → (tokens : List Token) (p : RawPointer) → IsBehindHash IsSuch tokens p → Hashed tokens
hashed IsSuch none tokens p (form.behind word hash rest q is joined glued such) =
    record { word = word; hash = hash; rest = rest; all = refl; word_is = is; hash_is = joined; no_name = none rest q such }

pub pointer_hashed : (tokens : List Token) (p : RawPointer) → IsPointerConstant tokens p → Hashed tokens
pointer_hashed tokens p is = hashed IsPointer pointer_no_name tokens p is

pub offset_hashed : (tokens : List Token) (p : RawPointer) → IsOffsetConstant tokens p → Hashed tokens
offset_hashed tokens p is = hashed IsOffset offset_no_name tokens p is

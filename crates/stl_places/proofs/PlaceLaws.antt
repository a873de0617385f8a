-- A place is read exactly where one of its forms stands.
use Rattle.std.proofs.Common.{◌≡◌, ℕ, Bool, true, false, ◌&&◌, if◌then◌else◌, List, [], ◌∷◌, ◌++◌, length, Option, Some, None, refl, ap, subst, ◌∙◌}
use Rattle.std.proofs.lemmas.Bool.{and_from, and_parts}
use Rattle.std.proofs.lemmas.List.{append-nil, append_assoc}
use Rattle.std.specs.List.{find}
use Rattle.std.specs.Prelude.{codes, option_map}
use Rattle.std.specs.Str.{bytes_eq, str_to_ascii_lowercase}
use Rattle.s7_base.specs.Tokens.{is_same_word}
use Rattle.s7_base.specs.declared.token.Token.{Token}
use Rattle.s7_base.specs.declared.word.Width.{Width}
use Rattle.s7_base.specs.declared.word.Width.TheVariants as width
use Rattle.stl_statement_grammar.specs.Constants.{begins_glued}
use Rattle.digit_texts.specs.Digits.{kept_number}
use Rattle.stl_statement_grammar.specs.PlaceForms.{IsBitBehind, IsNumbered, IsPlace, IsPlaceIn, alone, in_block, in_one, in_two, placed}
use Rattle.stl_statement_grammar.specs.PlaceForms as form
use Rattle.stl_statement_grammar.specs.Places.{Numbered, PlaceWord, bit_at, bit_behind, bit_number, block_place_at, db_words, digits_of, has_letters, letters_of, number_behind, numbered_at, place_at, place_behind, place_by, place_in, place_of, place_words, with_number, with_word}
use Rattle.stl_statement_grammar.specs.Readers.{fitting, further, read_as}
use Rattle.stl_statement_grammar.specs.Words.{is_joined, is_joined_word, is_word_kind}
use Rattle.stl_statement_grammar.specs.declared.mnemonic.Read.TheVariants.{Fits, No}
use Rattle.stl_tree.specs.declared.raw.RawPlace.{RawPlace}
use Rattle.stl_places.proofs.Fronts.{Front, FrontOf, and_then_front, and_then_none, and_then_read, as_front, fitting_front, further_front, further_read, or_front, refined}
use Rattle.stl_constants.proofs.Reading.{alike, if_true, mapped, or_no, or_this, same_letters, taken}
use Rattle.stl_constants.proofs.Tables.{are_apart, found_among, found_apart, found_passes}

-- From what is read to its form

abbrev pub IsNumberOf : List Token → Numbered → Type 0
IsNumberOf front found = IsNumbered front found.letters found.number

behind_front : (word : Token) (rest : List Token) (digits : List ℕ) → digits_of word.text ≡ digits → is_word_kind word.kind ≡ true →
    FrontOf (word ∷ rest) IsNumberOf (number_behind (letters_of word.text) digits rest)
behind_front word rest (d ∷ ds) is kind = fitting_front (word ∷ rest) 1 IsNumberOf (with_number (letters_of word.text) (d ∷ ds)) one_is
  where
    one_is : (found : Numbered) → with_number (letters_of word.text) (d ∷ ds) ≡ Some found → Front (word ∷ rest) 1 (λ front. IsNumberOf front found)
    one_is found e =
        let m = mapped (λ (n : ℕ). record { letters = letters_of word.text; number = n }) (kept_number (d ∷ ds)) found e in
        record {
          front = word ∷ [];
          rest = rest;
          is = refl;
          size_is = refl;
          holds = subst (λ (f : Numbered). IsNumberOf (word ∷ []) f) m.made (in_one word m.a kind (ap kept_number is ∙ m.found));
        }
behind_front word [] [] is kind = tt
behind_front word (next ∷ rest) [] is kind = fitting_front (word ∷ next ∷ rest) 2 IsNumberOf (with_word (letters_of word.text) next) two_is
  where
    two_is : (found : Numbered) → with_word (letters_of word.text) next ≡ Some found → Front (word ∷ next ∷ rest) 2 (λ front. IsNumberOf front found)
    two_is found e =
        let t = taken (is_word_kind next.kind) (with_number (letters_of word.text) next.text) found e in
        let m = mapped (λ (n : ℕ). record { letters = letters_of word.text; number = n }) (kept_number next.text) found t.1 in
        record {
          front = word ∷ next ∷ [];
          rest = rest;
          is = refl;
          size_is = refl;
          holds = subst (λ (f : Numbered). IsNumberOf (word ∷ next ∷ []) f) m.made (in_two word next m.a kind is t.0 m.found);
        }

pub numbered_front : (tokens : List Token) → FrontOf tokens IsNumberOf (numbered_at tokens)
numbered_front [] = tt
numbered_front (first ∷ rest) = by (is_word_kind first.kind) refl
  where
    by : (b : Bool) → is_word_kind first.kind ≡ b →
        FrontOf (first ∷ rest) IsNumberOf (if b then number_behind (letters_of first.text) (digits_of first.text) rest else No)
    by true kind = behind_front first rest (digits_of first.text) refl kind
    by false kind = tt

pub bit_at_front : (tokens : List Token) → FrontOf tokens (IsBitBehind width.Bit) (bit_at tokens)
bit_at_front [] = tt
bit_at_front (a ∷ []) = tt
bit_at_front (point ∷ number ∷ rest) = fitting_front (point ∷ number ∷ rest) 2 (IsBitBehind width.Bit) (bit_number point number) bit_is
  where
    bit_is : (x : ℕ) → bit_number point number ≡ Some x → Front (point ∷ number ∷ rest) 2 (λ front. IsBitBehind width.Bit front x)
    bit_is x e =
        let t = taken (is_joined (codes ".") point && is_joined_word number) (kept_number number.text) x e in
        let p = and_parts (is_joined (codes ".") point) (is_joined_word number) t.0 in
        record { front = point ∷ number ∷ []; rest = rest; is = refl; size_is = refl; holds = form.bit point number x p.0 p.1 t.1 }

bit_front : (w : Width) (tokens : List Token) → FrontOf tokens (IsBitBehind w) (bit_behind w tokens)
bit_front width.Bit tokens = bit_at_front tokens
bit_front width.Byte tokens = record { front = []; rest = tokens; is = refl; size_is = refl; holds = form.byte }
bit_front width.Word tokens = record { front = []; rest = tokens; is = refl; size_is = refl; holds = form.word }
bit_front width.Dword tokens = record { front = []; rest = tokens; is = refl; size_is = refl; holds = form.dword }

place_in_front : (table : List PlaceWord) (block : Option ℕ) (tokens : List Token) → FrontOf tokens (IsPlaceIn table block) (place_in table block tokens)
place_in_front table block tokens =
    and_then_front tokens IsNumberOf (IsPlaceIn table block) (numbered_at tokens)
    (λ found rest. place_by block (find (has_letters found.letters) table) found.number rest)
    (numbered_front tokens) (λ front rest found is. by front rest found is (find (has_letters found.letters) table) refl)
  where
    by : (front rest : List Token) (found : Numbered) → IsNumberOf front found → (o : Option PlaceWord) → find (has_letters found.letters) table ≡ o →
        FrontOf rest (λ more place. IsPlaceIn table block (front ++ more) place) (place_by block o found.number rest)
    by front rest found is None e = tt
    by front rest found is (Some word) e =
        as_front rest (place_of block word found.number) (IsBitBehind word.width) (λ more place. IsPlaceIn table block (front ++ more) place)
        (λ more behind x at is_bit.
        placed table block front more found.letters word found.number x is (found_among (has_letters found.letters) table word e)
        (found_passes (has_letters found.letters) table word e) is_bit)
        (bit_behind word.width rest) (bit_front word.width rest)

-- tokens of a place that stand in front of some that begin without a blank do so too
place_glued : (table : List PlaceWord) (block : Option ℕ) (more behind tokens : List Token) (place : RawPlace)
    → IsPlaceIn table block more place → more ++ behind ≡ tokens
    → begins_glued tokens ≡ true → begins_glued more ≡ true
place_glued table block more behind tokens place (placed t b front rest letters word byte x is among same is_bit) at glued = by front rest letters byte is at
  where
    heads : (w : Token) (more : List Token) → w ∷ more ≡ tokens → w.glued ≡ true
    heads w more e = ap begins_glued e ∙ glued

    by : (front rest : List Token) (letters : List ℕ) (n : ℕ) → IsNumbered front letters n
        → (front ++ rest) ++ behind ≡ tokens → begins_glued (front ++ rest) ≡ true
    by front rest letters n (in_one w k kind number) e = heads w (rest ++ behind) e
    by front rest letters n (in_two w u k kind none digits number) e = heads w (u ∷ (rest ++ behind)) e

block_front : (tokens : List Token) → FrontOf tokens IsPlace (block_place_at tokens)
block_front tokens =
    and_then_front tokens IsNumberOf IsPlace (numbered_at tokens)
    (λ found rest. if is_same_word found.letters (codes "DB") then place_behind found.number rest else No)
    (numbered_front tokens) (λ front rest found is. by front rest found is (is_same_word found.letters (codes "DB")) refl)
  where
    pointed : (front : List Token) (found : Numbered) → IsNumberOf front found
        → is_same_word found.letters (codes "DB") ≡ true → (point : Token) (rest : List Token) → (b : Bool)
        → (is_joined (codes ".") point && begins_glued rest) ≡ b
        → FrontOf (point ∷ rest) (λ more place. IsPlace (front ++ more) place) (if b then further 1 (place_in db_words (Some found.number) rest) else No)
    pointed front found is db point rest false e = tt
    pointed front found is db point rest true e =
        let p = and_parts (is_joined (codes ".") point) (begins_glued rest) e in
        further_front (point ∷ []) rest (λ more place. IsPlace (front ++ more) place) (place_in db_words (Some found.number) rest)
        (refined rest (IsPlaceIn db_words (Some found.number)) (λ more place. IsPlace (front ++ (point ∷ more)) place)
        (λ more behind place at in_db.
        in_block front found.letters found.number point more place is db p.0
        (place_glued db_words (Some found.number) more behind rest place in_db at p.1) in_db)
        (place_in db_words (Some found.number) rest) (place_in_front db_words (Some found.number) rest))

    behind : (front : List Token) (found : Numbered) → IsNumberOf front found → is_same_word found.letters (codes "DB") ≡ true → (rest : List Token) →
        FrontOf rest (λ more place. IsPlace (front ++ more) place) (place_behind found.number rest)
    behind front found is db [] = tt
    behind front found is db (point ∷ rest) = pointed front found is db point rest (is_joined (codes ".") point && begins_glued rest) refl

    by : (front rest : List Token) (found : Numbered) → IsNumberOf front found → (b : Bool) → is_same_word found.letters (codes "DB") ≡ b →
        FrontOf rest (λ more place. IsPlace (front ++ more) place) (if b then place_behind found.number rest else No)
    by front rest found is true db = behind front found is db rest
    by front rest found is false db = tt

pub place_front : (tokens : List Token) → FrontOf tokens IsPlace (place_at tokens)
place_front tokens =
    or_front tokens IsPlace (place_in place_words None tokens) (block_place_at tokens)
    (refined tokens (IsPlaceIn place_words None) IsPlace (λ front rest place at is. alone front place is)
    (place_in place_words None tokens) (place_in_front place_words None tokens))
    (block_front tokens)

-- From a form to what is read of it

pub numbered_read : (front : List Token) (letters : List ℕ) (n : ℕ) → IsNumbered front letters n → (rest : List Token) →
    numbered_at (front ++ rest) ≡ Fits (record { letters = letters; number = n }) (length front)
numbered_read front letters n (in_one word k kind number) rest = if_true (is_word_kind word.kind) _ No kind ∙ by (digits_of word.text) number
  where
    by : (digits : List ℕ) → kept_number digits ≡ Some k
        → number_behind (letters_of word.text) digits rest ≡ Fits (record { letters = letters_of word.text; number = k }) 1
    by [] e = absurd cc
    by (d ∷ ds) e = ap (fitting 1) (ap (option_map (λ (n : ℕ). record { letters = letters_of word.text; number = n })) e)
numbered_read front letters n (in_two word next k kind none digits number) rest =
    if_true (is_word_kind word.kind) _ No kind
    ∙ ap (λ (ds : List ℕ). number_behind (letters_of word.text) ds (next ∷ rest)) none
    ∙ ap (fitting 2)
    (if_true (is_word_kind next.kind) _ None digits ∙ ap (option_map (λ (n : ℕ). record { letters = letters_of word.text; number = n })) number)

pub bit_read : (w : Width) (tokens : List Token) (x : ℕ) → IsBitBehind w tokens x
    → (behind : List Token) → bit_behind w (tokens ++ behind) ≡ Fits x (length tokens)
bit_read w tokens x (form.bit point number k at word is) behind =
    ap (fitting 2) (if_true (is_joined (codes ".") point && is_joined_word number) _ None (and_from _ _ at word) ∙ is)
bit_read w tokens x form.byte behind = refl
bit_read w tokens x form.word behind = refl
bit_read w tokens x form.dword behind = refl

-- words of a table that are the same word
abbrev pub same_words : PlaceWord → PlaceWord → Bool
same_words a b = is_same_word b.word a.word

both_named : (letters : List ℕ) (a b : PlaceWord) → has_letters letters a ≡ true → has_letters letters b ≡ true → same_words a b ≡ true
both_named letters a b p q = alike letters a.word b.word p q

place_in_read : (table : List PlaceWord) (block : Option ℕ) (tokens : List Token) (place : RawPlace)
    → are_apart same_words table ≡ true → IsPlaceIn table block tokens place
    → (behind : List Token) → place_in table block (tokens ++ behind) ≡ Fits place (length tokens)
place_in_read table block tokens place apart (placed t b front rest letters word byte x is among same is_bit) behind =
    ap (place_in t b) (append_assoc front rest behind)
    ∙ and_then_read front (rest ++ behind) (numbered_at (front ++ (rest ++ behind))) (record { letters = letters; number = byte })
    (λ found more. place_by b (find (has_letters found.letters) t) found.number more) (numbered_read front letters byte is (rest ++ behind))
    ∙ further_read front rest (place_by b (find (has_letters letters) t) byte (rest ++ behind)) (place_of b word byte x)
    (ap (λ (o : Option PlaceWord). place_by b o byte (rest ++ behind))
    (found_apart (has_letters letters) same_words t word apart (both_named letters) among same)
    ∙ ap (read_as (place_of b word byte)) (bit_read word.width rest x is_bit behind))

-- DB is no word of a place
abbrev letters_in : List ℕ → Option PlaceWord
letters_in low = find (λ row. bytes_eq low (str_to_ascii_lowercase row.word)) place_words

no_db : (letters : List ℕ) → is_same_word letters (codes "DB") ≡ true → find (has_letters letters) place_words ≡ None
no_db letters h = ap letters_in (same_letters letters (codes "DB") h)

block_no_place : (front rest : List Token) (letters : List ℕ) (n : ℕ) → IsNumbered front letters n → is_same_word letters (codes "DB") ≡ true →
    place_in place_words None (front ++ rest) ≡ No
block_no_place front rest letters n is db =
    and_then_read front rest (numbered_at (front ++ rest)) (record { letters = letters; number = n })
    (λ found more. place_by None (find (has_letters found.letters) place_words) found.number more) (numbered_read front letters n is rest)
    ∙ ap (λ (o : Option PlaceWord). further (length front) (place_by None o n rest)) (no_db letters db)

-- with others behind them tokens begin as they did
pub glued_before : (tokens behind : List Token) → begins_glued tokens ≡ true → begins_glued (tokens ++ behind) ≡ true
glued_before [] behind h = absurd cc
glued_before (first ∷ rest) behind h = h

pub place_at_read : (tokens : List Token) (place : RawPlace) → IsPlace tokens place
    → (behind : List Token) → place_at (tokens ++ behind) ≡ Fits place (length tokens)
place_at_read tokens place (alone ts p is) behind =
    or_this (place_in place_words None (ts ++ behind)) (block_place_at (ts ++ behind)) p (length ts) (place_in_read place_words None ts p refl is behind)
place_at_read tokens place (in_block front letters n point rest p is db at glued in_db) behind =
    let more = point ∷ (rest ++ behind) in
    ap place_at (append_assoc front (point ∷ rest) behind)
    ∙ or_no (place_in place_words None (front ++ more)) (block_place_at (front ++ more)) (block_no_place front more letters n is db)
    ∙ and_then_read front more (numbered_at (front ++ more)) (record { letters = letters; number = n })
    (λ found others. if is_same_word found.letters (codes "DB") then place_behind found.number others else No) (numbered_read front letters n is more)
    ∙ further_read front (point ∷ rest) (if is_same_word letters (codes "DB") then place_behind n more else No) p
    (if_true (is_same_word letters (codes "DB")) _ No db
    ∙ if_true (is_joined (codes ".") point && begins_glued (rest ++ behind)) _ No (and_from _ _ at (glued_before rest behind glued))
    ∙ further_read (point ∷ []) rest (place_in db_words (Some n) (rest ++ behind)) p (place_in_read db_words (Some n) rest p refl in_db behind))

-- with nothing behind them
pub place_alone_read : (tokens : List Token) (place : RawPlace) → IsPlace tokens place → place_at tokens ≡ Fits place (length tokens)
place_alone_read tokens place is = subst (λ (ts : List Token). place_at ts ≡ Fits place (length tokens)) (append-nil tokens) (place_at_read tokens place is [])

-- where no letters with a number stand no place does
pub no_place_at : (tokens : List Token) → numbered_at tokens ≡ No → place_at tokens ≡ No
no_place_at tokens none =
    or_no (place_in place_words None tokens) (block_place_at tokens)
    (and_then_none tokens (numbered_at tokens) (λ found rest. place_by None (find (has_letters found.letters) place_words) found.number rest) none)
    ∙ and_then_none tokens (numbered_at tokens) (λ found rest. if is_same_word found.letters (codes "DB") then place_behind found.number rest else No) none

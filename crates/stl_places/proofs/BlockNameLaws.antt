-- The name of a block is read exactly where one of its forms stands, and begins as no other word does.
use Rattle.std.proofs.Common.{◌≡◌, ℕ, zero, suc, ◌-◌, Bool, true, false, ◌&&◌, ◌||◌, if◌then◌else◌, List, [], ◌∷◌, ◌++◌, length, take, drop, Option, Some, None, option_map, refl, sym, ap, ◌∙◌}
use Rattle.std.proofs.lemmas.Bool.{and_left, and_parts, and_right, or_right}
use Rattle.std.proofs.lemmas.List.{append-nil}
use Rattle.std.specs.Char.{to_ascii_lowercase}
use Rattle.std.specs.Str.{str_to_ascii_lowercase}
use Rattle.digit_texts.specs.Digits.{are_digits, kept_number}
use Rattle.s7_base.specs.Tokens.{is_same_word}
use Rattle.s7_base.specs.declared.token.Token.{Token}
use Rattle.stl_constants.proofs.Reading.{alike, if_false, if_true, same_letters, word_no_quoted}
use Rattle.stl_places.proofs.Fronts.{FrontOf}
use Rattle.stl_statement_grammar.specs.BlockNames.{begins_with_number, has_number, is_numbered, name_at, number_behind, number_within}
use Rattle.stl_statement_grammar.specs.CallForms.{IsName, apart, quoted, together}
use Rattle.stl_statement_grammar.specs.Paths.{number_word}
use Rattle.stl_statement_grammar.specs.Readers.{fitting}
use Rattle.stl_statement_grammar.specs.Words.{is_quoted_kind, is_word, is_word_kind}
use Rattle.stl_statement_grammar.specs.declared.mnemonic.Read.TheVariants as read
use Rattle.stl_tree.specs.declared.raw.RawName.{RawName}
use Rattle.stl_tree.specs.declared.raw.RawName.TheVariants.{Name, Number}

-- From what is read to its form

number_front : (kind : List ℕ) (word number : Token) (rest : List Token) (o : Option ℕ)
    → is_quoted_kind word.kind ≡ false → is_word kind word ≡ true → number_word number ≡ o
    → FrontOf (word ∷ number ∷ rest) (IsName kind) (fitting 2 (option_map Number o))
number_front kind word number rest None no_quotes is found = tt
number_front kind word number rest (Some n) no_quotes is found =
    record { front = word ∷ number ∷ []; rest = rest; is = refl; size_is = refl; holds = apart kind word number n no_quotes is found }

behind_front : (kind : List ℕ) (word : Token) (rest : List Token) → is_quoted_kind word.kind ≡ false
    → is_word kind word ≡ true → FrontOf (word ∷ rest) (IsName kind) (fitting 2 (option_map Number (number_behind rest)))
behind_front kind word [] no_quotes is = tt
behind_front kind word (number ∷ rest) no_quotes is = number_front kind word number rest (number_word number) no_quotes is refl

within_front : (kind : List ℕ) (word : Token) (rest : List Token) (b : Bool) (o : Option ℕ)
    → is_quoted_kind word.kind ≡ false → is_word kind word ≡ false → is_numbered kind word ≡ b
    → kept_number (drop (length kind) word.text) ≡ o → FrontOf (word ∷ rest) (IsName kind) (fitting 1 (option_map Number (if b then o else None)))
within_front kind word rest true None no_quotes no_word numbered found = tt
within_front kind word rest true (Some n) no_quotes no_word numbered found =
    record { front = word ∷ []; rest = rest; is = refl; size_is = refl; holds = together kind word n no_quotes no_word numbered found }
within_front kind word rest false o no_quotes no_word numbered found = tt

pub name_front : (kind : List ℕ) (tokens : List Token) → FrontOf tokens (IsName kind) (name_at kind tokens)
name_front kind [] = tt
name_front kind (first ∷ rest) = by (is_quoted_kind first.kind) refl (is_word kind first) refl
  where
    by : (q : Bool) → is_quoted_kind first.kind ≡ q → (w : Bool) → is_word kind first ≡ w →
        FrontOf (first ∷ rest) (IsName kind)
        (if q then read.Fits (Name first.text) 1
        else if w then fitting 2 (option_map Number (number_behind rest))
        else fitting 1 (option_map Number (number_within kind first)))
    by true is w is_w = record { front = first ∷ []; rest = rest; is = refl; size_is = refl; holds = quoted kind first is }
    by false no_quotes true is = behind_front kind first rest no_quotes is
    by false no_quotes false no_word =
        within_front kind first rest (is_numbered kind first) (kept_number (drop (length kind) first.text)) no_quotes no_word refl refl

-- From a form to what is read of it

pub name_read : (kind : List ℕ) (names : List Token) (name : RawName) → IsName kind names name
    → (rest : List Token) → name_at kind (names ++ rest) ≡ read.Fits name (length names)
name_read kind names name (quoted its word is) rest = if_true (is_quoted_kind word.kind) _ _ is
name_read kind names name (apart its word number n no_quotes is found) rest =
    if_false (is_quoted_kind word.kind) _ _ no_quotes ∙ if_true (is_word its word) _ _ is
    ∙ ap (λ (o : Option ℕ). fitting 2 (option_map Number o)) found
name_read kind names name (together its word n no_quotes no_word numbered found) rest =
    if_false (is_quoted_kind word.kind) _ _ no_quotes ∙ if_false (is_word its word) _ _ no_word
    ∙ ap (λ (o : Option ℕ). fitting 1 (option_map Number o)) (if_true (is_numbered its word) _ _ numbered ∙ found)

-- a word with a number begins as the word does

pub record Starts (b : ℕ) (word : Token) : Type 0 where
  pub kind_is : is_word_kind word.kind ≡ true
  pub tail : List ℕ
  pub low_is : str_to_ascii_lowercase word.text ≡ b ∷ tail

pub number_starts : (letters : List ℕ) (b : ℕ) (more : List ℕ) (word : Token) (rest : List Token)
    → str_to_ascii_lowercase letters ≡ b ∷ more → has_number letters word rest ≡ true → Starts b word
number_starts letters b more word rest low h = by (is_word letters word && begins_with_number rest) refl h
  where
    text_starts : (n : ℕ) (text : List ℕ) → str_to_ascii_lowercase (take n text) ≡ b ∷ more
        → is_word_kind word.kind ≡ true → str_to_ascii_lowercase word.text ≡ str_to_ascii_lowercase text → Starts b word
    text_starts zero text e word_is same = absurd cc
    text_starts (suc n) [] e word_is same = absurd cc
    text_starts (suc n) (c ∷ cs) e word_is same =
        let head : to_ascii_lowercase c ≡ b = cc in
        record { kind_is = word_is; tail = str_to_ascii_lowercase cs; low_is = same ∙ ap (λ (x : ℕ). x ∷ str_to_ascii_lowercase cs) head }

    by : (is : Bool) → (is_word letters word && begins_with_number rest) ≡ is → (is || is_numbered letters word) ≡ true → Starts b word
    by true is h =
        let p = and_parts (is_word letters word) (begins_with_number rest) is in
        let q = and_parts (is_word_kind word.kind) (is_same_word word.text letters) p.0 in
        record { kind_is = q.0; tail = more; low_is = same_letters word.text letters q.1 ∙ low }
    by false is h =
        let p = and_parts (is_word_kind word.kind && is_same_word (take (length letters) word.text) letters) (are_digits (drop (length letters) word.text)) h in
        let q = and_parts (is_word_kind word.kind) (is_same_word (take (length letters) word.text) letters) p.0 in
        text_starts (length letters) word.text (same_letters (take (length letters) word.text) letters q.1 ∙ low) q.0 refl

-- a word with a number begins with all letters of the word
pub record StartsWith (letters : List ℕ) (word : Token) : Type 0 where
  pub kind_is : is_word_kind word.kind ≡ true
  pub tail : List ℕ
  pub low_is : str_to_ascii_lowercase word.text ≡ str_to_ascii_lowercase letters ++ tail

lower_split : (n : ℕ) (text : List ℕ)
    → str_to_ascii_lowercase text ≡ str_to_ascii_lowercase (take n text) ++ str_to_ascii_lowercase (drop n text)
lower_split zero text = refl
lower_split (suc n) [] = refl
lower_split (suc n) (c ∷ cs) = ap (λ (more : List ℕ). to_ascii_lowercase c ∷ more) (lower_split n cs)

pub number_whole : (letters : List ℕ) (word : Token) (rest : List Token) → has_number letters word rest ≡ true → StartsWith letters word
number_whole letters word rest h = by (is_word letters word && begins_with_number rest) refl h
  where
    by : (is : Bool) → (is_word letters word && begins_with_number rest) ≡ is → (is || is_numbered letters word) ≡ true → StartsWith letters word
    by true is h =
        let p = and_parts (is_word letters word) (begins_with_number rest) is in
        let q = and_parts (is_word_kind word.kind) (is_same_word word.text letters) p.0 in
        record { kind_is = q.0; tail = []; low_is = same_letters word.text letters q.1 ∙ sym (append-nil (str_to_ascii_lowercase letters)) }
    by false is h =
        let p = and_parts (is_word_kind word.kind && is_same_word (take (length letters) word.text) letters) (are_digits (drop (length letters) word.text)) h in
        let q = and_parts (is_word_kind word.kind) (is_same_word (take (length letters) word.text) letters) p.0 in
        record {
          kind_is = q.0;
          tail = str_to_ascii_lowercase (drop (length letters) word.text);
          low_is = lower_split (length letters) word.text
              ∙ ap (λ (front : List ℕ). front ++ str_to_ascii_lowercase (drop (length letters) word.text))
              (same_letters (take (length letters) word.text) letters q.1);
        }

-- a word with a number is none of other letters
pub starts_apart : (a b : ℕ) (word : Token) → Starts a word → Starts b word → a ≡ b
starts_apart a b word one two = let same : a ∷ one.tail ≡ b ∷ two.tail = sym one.low_is ∙ two.low_is in cc

-- a word that begins otherwise is neither of these letters nor one of them with a number
pub other_start : (letters : List ℕ) (b c : ℕ) (more : List ℕ) (word : Token) (rest : List Token)
    → str_to_ascii_lowercase letters ≡ c ∷ more → (b ≡ c → ⊥) → Starts b word → has_number letters word rest ≡ false
other_start letters b c more word rest low apart_from starts = by (has_number letters word rest) refl
  where
    by : (is : Bool) → has_number letters word rest ≡ is → is ≡ false
    by true is = absurd (apart_from (starts_apart b c word starts (number_starts letters c more word rest low is)))
    by false is = refl

-- The first token of a name

-- a name begins in quotes, or with the word of its kind
pub data Begins (letters : List ℕ) (first : Token) : Type 0 where
  in_quotes : is_quoted_kind first.kind ≡ true → Begins letters first
  by_word : is_word letters first ≡ true → Begins letters first
  by_number : is_numbered letters first ≡ true → Begins letters first

pub record Begun (letters : List ℕ) (tokens : List Token) : Type 0 where
  pub first : Token
  pub rest : List Token
  pub is : first ∷ rest ≡ tokens
  pub begins : Begins letters first

pub name_begun : (letters : List ℕ) (names : List Token) (name : RawName) → IsName letters names name → Begun letters names
name_begun letters names name (quoted its word is) = record { first = word; rest = []; is = refl; begins = in_quotes is }
name_begun letters names name (apart its word number n no_quotes is found) =
    record { first = word; rest = number ∷ []; is = refl; begins = by_word is }
name_begun letters names name (together its word n no_quotes no_word numbered found) =
    record { first = word; rest = []; is = refl; begins = by_number numbered }

-- the first token begins with the letters, or is in quotes
pub data StartsName (b : ℕ) (first : Token) : Type 0 where
  a_quote : is_quoted_kind first.kind ≡ true → StartsName b first
  a_word : Starts b first → StartsName b first

pub name_starts : (letters : List ℕ) (b : ℕ) (more : List ℕ) (first : Token) → str_to_ascii_lowercase letters ≡ b ∷ more
    → Begins letters first → StartsName b first
name_starts letters b more first low (in_quotes is) = a_quote is
name_starts letters b more first low (by_word is) =
    let p = and_parts (is_word_kind first.kind) (is_same_word first.text letters) is in
    a_word (record { kind_is = p.0; tail = more; low_is = same_letters first.text letters p.1 ∙ low })
name_starts letters b more first low (by_number is) =
    a_word (number_starts letters b more first [] low (or_right (is_word letters first && begins_with_number []) _ is))

-- it is no word of other letters, with or without a number
pub no_other_number : (letters : List ℕ) (b c : ℕ) (more : List ℕ) (first : Token) (rest : List Token)
    → str_to_ascii_lowercase letters ≡ c ∷ more → (b ≡ c → ⊥) → StartsName b first → has_number letters first rest ≡ false
no_other_number letters b c more first rest low apart_from (a_quote is) = by (has_number letters first rest) refl
  where
    by : (it : Bool) → has_number letters first rest ≡ it → it ≡ false
    by true it =
        let s = number_starts letters c more first rest low it in
        let clash : true ≡ false = sym is ∙ word_no_quoted first s.kind_is in absurd cc
    by false it = refl
no_other_number letters b c more first rest low apart_from (a_word starts) = other_start letters b c more first rest low apart_from starts

-- Two words of two letters

-- a text that is a word of two letters begins with it
whole_front : (a b : ℕ) (text : List ℕ) → is_same_word text (a ∷ b ∷ []) ≡ true → is_same_word (take 2 text) (a ∷ b ∷ []) ≡ true
whole_front a b [] h = absurd cc
whole_front a b (c ∷ []) h =
    let same : to_ascii_lowercase c ∷ [] ≡ to_ascii_lowercase a ∷ to_ascii_lowercase b ∷ [] = same_letters (c ∷ []) (a ∷ b ∷ []) h in absurd cc
whole_front a b (c ∷ d ∷ []) h = h
whole_front a b (c ∷ d ∷ e ∷ rest) h =
    let same : to_ascii_lowercase c ∷ to_ascii_lowercase d ∷ to_ascii_lowercase e ∷ str_to_ascii_lowercase rest
    ≡ to_ascii_lowercase a ∷ to_ascii_lowercase b ∷ [] = same_letters (c ∷ d ∷ e ∷ rest) (a ∷ b ∷ []) h in
    absurd cc

otherwise : (a b c d : ℕ) (first : Token) → is_same_word (c ∷ d ∷ []) (a ∷ b ∷ []) ≡ false → is_same_word (take 2 first.text) (a ∷ b ∷ []) ≡ true
    → (is_word (c ∷ d ∷ []) first ≡ false) × (is_numbered (c ∷ d ∷ []) first ≡ false)
otherwise a b c d first differ is = (and_right _ _ (whole (is_same_word first.text (c ∷ d ∷ [])) refl), and_left _ _ (and_right _ _ front))
  where
    front : is_same_word (take 2 first.text) (c ∷ d ∷ []) ≡ false
    front = by (is_same_word (take 2 first.text) (c ∷ d ∷ [])) refl
      where
        by : (it : Bool) → is_same_word (take 2 first.text) (c ∷ d ∷ []) ≡ it → it ≡ false
        by true it =
            let clash : true ≡ false = sym (alike (take 2 first.text) (a ∷ b ∷ []) (c ∷ d ∷ []) is it) ∙ differ in absurd cc
        by false it = refl

    whole : (it : Bool) → is_same_word first.text (c ∷ d ∷ []) ≡ it → it ≡ false
    whole true it = let clash : true ≡ false = sym (whole_front c d first.text it) ∙ front in absurd cc
    whole false it = refl

-- a name that begins with the one word does not begin with the other
pub begins_otherwise : (a b c d : ℕ) (first : Token) → is_same_word (c ∷ d ∷ []) (a ∷ b ∷ []) ≡ false
    → Begins (a ∷ b ∷ []) first → (is_word (c ∷ d ∷ []) first ≡ false) × (is_numbered (c ∷ d ∷ []) first ≡ false)
begins_otherwise a b c d first differ (in_quotes is) =
    let none : is_word_kind first.kind ≡ false = no_quoted_word first is in
    (and_left _ _ none, and_left _ _ (and_left _ _ none))
  where
    no_quoted_word : (first : Token) → is_quoted_kind first.kind ≡ true → is_word_kind first.kind ≡ false
    no_quoted_word first quotes = by (is_word_kind first.kind) refl
      where
        by : (w : Bool) → is_word_kind first.kind ≡ w → w ≡ false
        by true w = let clash : true ≡ false = sym quotes ∙ word_no_quoted first w in absurd cc
        by false w = refl
begins_otherwise a b c d first differ (by_word is) =
    otherwise a b c d first differ (whole_front a b first.text (and_parts (is_word_kind first.kind) (is_same_word first.text (a ∷ b ∷ [])) is).1)
begins_otherwise a b c d first differ (by_number is) =
    let p = and_parts (is_word_kind first.kind && is_same_word (take 2 first.text) (a ∷ b ∷ [])) (are_digits (drop 2 first.text)) is in
    otherwise a b c d first differ (and_parts (is_word_kind first.kind) (is_same_word (take 2 first.text) (a ∷ b ∷ [])) p.0).1

-- where neither the word nor it with a number stands no name does
pub no_name : (letters : List ℕ) (first : Token) (rest : List Token) → is_quoted_kind first.kind ≡ false
    → is_word letters first ≡ false → is_numbered letters first ≡ false → name_at letters (first ∷ rest) ≡ read.No
no_name letters first rest no_quotes no_word no_number =
    if_false (is_quoted_kind first.kind) _ _ no_quotes ∙ if_false (is_word letters first) _ _ no_word
    ∙ ap (λ (o : Option ℕ). fitting 1 (option_map Number o)) (if_false (is_numbered letters first) _ None no_number)

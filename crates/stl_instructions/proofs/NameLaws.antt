-- A name, and what is opened, is read exactly where one of its forms stands.
use Rattle.std.proofs.Common.{◌≡◌, ℕ, Bool, true, false, ◌&&◌, ◌||◌, if◌then◌else◌, List, [], ◌∷◌, ◌++◌, length, Option, Some, None, refl, sym, ap, subst, ◌∙◌}
use Rattle.std.proofs.lemmas.Bool.{and_from, and_left, and_parts}
use Rattle.std.proofs.lemmas.List.{append-nil}
use Rattle.std.specs.List.{list_all}
use Rattle.std.specs.Prelude.{codes, option_map}
use Rattle.std.specs.Str.{str_to_ascii_lowercase}
use Rattle.memory_areas.specs.declared.place.AreaName.{AreaName}
use Rattle.memory_areas.specs.declared.place.AreaName.TheVariants as area
use Rattle.s7_base.specs.Tokens.{is_same_word}
use Rattle.s7_base.specs.declared.token.Token.{Token}
use Rattle.s7_base.specs.declared.token.TokenKind.{TokenKind}
use Rattle.s7_base.specs.declared.word.Width.TheVariants as width
use Rattle.s7_base.specs.declared.token.TokenKind.TheVariants.{Word, Quoted, Text, Sign}
use Rattle.status_word.specs.declared.test.Test.{Test}
use Rattle.status_word.specs.declared.test.Test.TheVariants as test
use Rattle.stl_statement_grammar.specs.Constants.{Prefixed, begins_glued, constant_at, has_prefix, is_real, marked_at, prefixed_at, prefixed_by, prefixes, real_at, text_at, begins_real}
use Rattle.stl_statement_grammar.specs.InstructionForms.{IsLocated, IsOpened, IsPlaced, by_memory, by_name, by_number, by_word}
use Rattle.stl_statement_grammar.specs.InstructionForms as form
use Rattle.stl_statement_grammar.specs.PathForms.{IsNamed, IsPath}
use Rattle.stl_statement_grammar.specs.PathForms as named
use Rattle.stl_statement_grammar.specs.Paths.{in_block_behind, local_behind, named_at, named_behind, path_at}
use Rattle.stl_statement_grammar.specs.PlaceForms.{IsPlace}
use Rattle.stl_statement_grammar.specs.Places.{Numbered, digits_of, is_no_digit, numbered_at, opened_area}
use Rattle.stl_statement_grammar.specs.PointerForms.{IsCrossing, IsIndirect, IsMemory}
use Rattle.stl_statement_grammar.specs.Pointers.{crossing_at, indirect_at, memory_at}
use Rattle.stl_statement_grammar.specs.Readers.{fitting, further, read_as}
use Rattle.stl_statement_grammar.specs.LocatedOperands.{located_at, place_operand, placed_at}
use Rattle.stl_statement_grammar.specs.Statements.{asked_by, first_of, is_asked, opened_at, opened_behind, opened_by_memory_at, opened_in, opened_name_at, opened_number_at, opened_word, opening, opening_by, status_at, tests}
use Rattle.stl_statement_grammar.specs.Words.{is_joined, is_quoted_kind, is_sign, is_sign_kind, is_text_kind, is_word_kind}
use Rattle.stl_statement_grammar.specs.declared.mnemonic.Read.TheVariants.{Fits, No}
use Rattle.stl_tree.specs.declared.raw.RawName.TheVariants.{Name, Number}
use Rattle.stl_tree.specs.declared.raw.RawOperand.{RawOperand}
use Rattle.stl_tree.specs.declared.raw.RawOperand.TheVariants.{At, InBlock, Local, Named, OpenDb}
use Rattle.stl_instructions.proofs.BracketTokens.{bracketed_no_named, bracketed_no_place, crossing_bracketed, crossing_no_indirect, indirect_bracketed, no_number_before}
use Rattle.stl_constants.proofs.ConstantLaws.{plain_none, word_is}
use Rattle.stl_places.proofs.Fronts.{FrontOf, and_then_front, and_then_none, and_then_read, as_front, front_all, further_front, further_read, or_front, refined}
use Rattle.stl_places.proofs.PathLaws.{path_front, path_glued, path_read}
use Rattle.stl_places.proofs.NoPlaces.{no_numbered}
use Rattle.stl_instructions.proofs.LeftOutLaws.{no_place, place_all, place_read}
use Rattle.stl_places.proofs.PlaceLaws.{IsNumberOf, numbered_front, numbered_read}
use Rattle.stl_places.proofs.PlaceTokens.{no_digits}
use Rattle.stl_places.proofs.PointerLaws.{crossing_all, crossing_read, indirect_all, indirect_read, memory_front, memory_read}
use Rattle.stl_constants.proofs.Reading.{AllOf, as_all, if_false, if_true, no_word, or_all, or_no, or_this, other_sign, same_letters, sign_no_quoted, sign_no_text, taken, weaker, word_no_quoted}
use Rattle.stl_constants.proofs.Tables.{none_found}

-- From what is read to its form

pub named_front : (tokens : List Token) → FrontOf tokens IsNamed (named_at tokens)
named_front [] = tt
named_front (first ∷ rest) = by (is_quoted_kind first.kind) refl (is_sign (codes "#") first) refl
  where
    in_block : is_quoted_kind first.kind ≡ true → (rest : List Token) → FrontOf (first ∷ rest) IsNamed (in_block_behind first.text rest)
    in_block kind [] = tt
    in_block kind (point ∷ more) = at (is_joined (codes ".") point && begins_glued more) refl
      where
        at : (b : Bool) → (is_joined (codes ".") point && begins_glued more) ≡ b →
            FrontOf (first ∷ point ∷ more) IsNamed (if b then further 2 (read_as (InBlock first.text) (path_at more)) else No)
        at false t = tt
        at true t =
            let p = and_parts (is_joined (codes ".") point) (begins_glued more) t in
            further_front (first ∷ point ∷ []) more IsNamed (read_as (InBlock first.text) (path_at more))
            (as_front more (InBlock first.text) IsPath (λ others operand. IsNamed (first ∷ point ∷ others) operand)
            (λ others left steps split is. named.in_block first point others steps kind p.0 (path_glued others left more steps is split p.1) is)
            (path_at more) (path_front more))

    local : is_sign (codes "#") first ≡ true → (b : Bool) → begins_glued rest ≡ b
        → FrontOf (first ∷ rest) IsNamed (if b then further 1 (read_as Local (path_at rest)) else No)
    local sign false glued = tt
    local sign true glued =
        further_front (first ∷ []) rest IsNamed (read_as Local (path_at rest))
        (as_front rest Local IsPath (λ others operand. IsNamed (first ∷ others) operand)
        (λ others left steps split is. named.local first others steps sign (path_glued others left rest steps is split glued) is)
        (path_at rest) (path_front rest))

    by : (quoted : Bool) → is_quoted_kind first.kind ≡ quoted → (sign : Bool) → is_sign (codes "#") first ≡ sign →
        FrontOf (first ∷ rest) IsNamed (if quoted then named_behind first.text rest else if sign then local_behind rest else No)
    by true kind sign at =
        or_front (first ∷ rest) IsNamed (in_block_behind first.text rest) (Fits (Named first.text) 1) (in_block kind rest)
        (record { front = first ∷ []; rest = rest; is = refl; size_is = refl; holds = named.name first kind })
    by false kind true at = local at (begins_glued rest) refl
    by false kind false at = tt

placed_all : (tokens : List Token) → AllOf (length tokens) (IsPlaced tokens) (placed_at tokens)
placed_all tokens =
    or_all (length tokens) (IsPlaced tokens) (read_as At (place_operand tokens)) _
    (as_all (length tokens) At (IsPlace tokens) (IsPlaced tokens) (λ place is. form.at tokens place is) (place_operand tokens) (place_all tokens))
    (or_all (length tokens) (IsPlaced tokens) (named_at tokens) (indirect_at tokens)
    (weaker (length tokens) (IsNamed tokens) (IsPlaced tokens) (λ operand is. form.named tokens operand is) (named_at tokens)
    (front_all tokens IsNamed (named_at tokens) (named_front tokens)))
    (weaker (length tokens) (IsIndirect tokens) (IsPlaced tokens) (λ operand is. form.indirect tokens operand is) (indirect_at tokens) (indirect_all tokens)))

pub placed_as : (tokens : List Token) (P : RawOperand → Type 0)
    → ((operand : RawOperand) → IsPlaced tokens operand → P operand) → AllOf (length tokens) P (placed_at tokens)
placed_as tokens P make = weaker (length tokens) (IsPlaced tokens) P make (placed_at tokens) (placed_all tokens)

pub located_all : (tokens : List Token) → AllOf (length tokens) (IsLocated tokens) (located_at tokens)
located_all tokens =
    or_all (length tokens) (IsLocated tokens) (placed_at tokens) (crossing_at tokens)
    (placed_as tokens (IsLocated tokens) (λ operand is. form.placed tokens operand is))
    (weaker (length tokens) (IsCrossing tokens) (IsLocated tokens) (λ operand is. form.crossing tokens operand is) (crossing_at tokens) (crossing_all tokens))

opened_number_front : (tokens : List Token) → FrontOf tokens IsOpened (opened_number_at tokens)
opened_number_front tokens =
    and_then_front tokens IsNumberOf IsOpened (numbered_at tokens)
    (λ found rest. fitting 0 (option_map (λ name. opening name (Number found.number)) (opened_area found.letters)))
    (numbered_front tokens) (λ front rest found is. by front rest found is (opened_area found.letters) refl)
  where
    by : (front rest : List Token) (found : Numbered) → IsNumberOf front found → (o : Option AreaName) → opened_area found.letters ≡ o →
        FrontOf rest (λ more operand. IsOpened (front ++ more) operand) (fitting 0 (option_map (λ name. opening name (Number found.number)) o))
    by front rest found is None e = tt
    by front rest found is (Some name) e =
        record {
          front = [];
          rest = rest;
          is = refl;
          size_is = refl;
          holds =
              subst (λ (ts : List Token). IsOpened ts (opening name (Number found.number))) (sym (append-nil front))
              (by_number front found.letters found.number name is e);
        }

opened_behind_front : (first : Token) (o : Option AreaName) (rest : List Token) → opened_word first ≡ o → FrontOf (first ∷ rest) IsOpened (opened_behind o rest)
opened_behind_front first None rest e = tt
opened_behind_front first (Some name) [] e = tt
opened_behind_front first (Some name) (quoted ∷ rest) e = by (is_quoted_kind quoted.kind) refl
  where
    by : (b : Bool) → is_quoted_kind quoted.kind ≡ b → FrontOf (first ∷ quoted ∷ rest) IsOpened (if b then Fits (opening name (Name quoted.text)) 2 else No)
    by true kind = record { front = first ∷ quoted ∷ []; rest = rest; is = refl; size_is = refl; holds = by_word first quoted name e kind }
    by false kind = tt

opened_name_front : (tokens : List Token) → FrontOf tokens IsOpened (opened_name_at tokens)
opened_name_front [] = tt
opened_name_front (first ∷ rest) = by (is_quoted_kind first.kind) refl
  where
    by : (b : Bool) → is_quoted_kind first.kind ≡ b →
        FrontOf (first ∷ rest) IsOpened (if b then Fits (OpenDb (Name first.text)) 1 else opened_behind (opened_word first) rest)
    by true kind = record { front = first ∷ []; rest = rest; is = refl; size_is = refl; holds = by_name first kind }
    by false kind = opened_behind_front first (opened_word first) rest refl

opened_by_memory_front : (tokens : List Token) → FrontOf tokens IsOpened (opened_by_memory_at tokens)
opened_by_memory_front [] = tt
opened_by_memory_front (a ∷ []) = tt
opened_by_memory_front (word ∷ before ∷ rest) = by (opened_word word) refl
  where
    at : (name : AreaName) → opened_word word ≡ Some name → (b : Bool) → is_sign (codes "[") before ≡ b →
        FrontOf (word ∷ before ∷ rest) IsOpened (if b then further 2 (memory_at (opening_by name) width.Word rest) else No)
    at name e false sign = tt
    at name e true sign =
        further_front (word ∷ before ∷ []) rest IsOpened (memory_at (opening_by name) width.Word rest)
        (refined rest (IsMemory (opening_by name) width.Word) (λ more o. IsOpened (word ∷ before ∷ more) o)
        (λ front behind o split is. by_memory word before front name o e sign is)
        (memory_at (opening_by name) width.Word rest) (memory_front (opening_by name) width.Word rest))

    by : (o : Option AreaName) → opened_word word ≡ o → FrontOf (word ∷ before ∷ rest) IsOpened (opened_in o before rest)
    by None e = tt
    by (Some name) e = at name e (is_sign (codes "[") before) refl

pub opened_all : (tokens : List Token) → AllOf (length tokens) (IsOpened tokens) (opened_at tokens)
opened_all tokens =
    front_all tokens IsOpened (opened_at tokens)
    (or_front tokens IsOpened (opened_number_at tokens) _ (opened_number_front tokens)
    (or_front tokens IsOpened (opened_name_at tokens) (opened_by_memory_at tokens) (opened_name_front tokens) (opened_by_memory_front tokens)))

-- From a form to what is read of it

pub named_read : (tokens : List Token) (operand : RawOperand) → IsNamed tokens operand → named_at tokens ≡ Fits operand (length tokens)
named_read tokens operand (named.name quoted kind) = if_true (is_quoted_kind quoted.kind) _ _ kind
named_read tokens operand (named.in_block quoted point rest steps kind at glued is) =
    if_true (is_quoted_kind quoted.kind) _ _ kind
    ∙ or_this (in_block_behind quoted.text (point ∷ rest)) _ (InBlock quoted.text steps) (length (quoted ∷ point ∷ rest))
    (if_true (is_joined (codes ".") point && begins_glued rest) _ No (and_from _ _ at glued)
    ∙ further_read (quoted ∷ point ∷ []) rest (read_as (InBlock quoted.text) (path_at rest))
    (InBlock quoted.text steps) (ap (read_as (InBlock quoted.text)) (path_read rest steps is)))
named_read tokens operand (named.local hash rest steps sign glued is) =
    if_false (is_quoted_kind hash.kind) _ _ (sign_no_quoted (codes "#") hash sign)
    ∙ if_true (is_sign (codes "#") hash) _ No sign
    ∙ if_true (begins_glued rest) _ No glued
    ∙ further_read (hash ∷ []) rest (read_as Local (path_at rest)) (Local steps) (ap (read_as Local) (path_read rest steps is))

-- What a name is not

-- a name begins with one in quotes or with `#`
pub record IsMark (first : Token) : Type 0 where
  pub no_word : is_word_kind first.kind ≡ false
  pub no_text : is_text_kind first.kind ≡ false
  pub other : (sign : List ℕ) → is_same_word sign (codes "#") ≡ false → (is_sign_kind first.kind && is_same_word first.text sign) ≡ false

pub quoted_mark : (first : Token) → is_quoted_kind first.kind ≡ true → IsMark first
quoted_mark first kind =
    record { no_word = word first.kind kind; no_text = text first.kind kind; other = λ sign h. and_left _ _ (no_sign_kind first.kind kind) }
  where
    word : (kind : TokenKind) → is_quoted_kind kind ≡ true → is_word_kind kind ≡ false
    word Word h = absurd cc
    word Quoted h = refl
    word Text h = absurd cc
    word Sign h = absurd cc

    text : (kind : TokenKind) → is_quoted_kind kind ≡ true → is_text_kind kind ≡ false
    text Word h = absurd cc
    text Quoted h = refl
    text Text h = absurd cc
    text Sign h = absurd cc

    no_sign_kind : (kind : TokenKind) → is_quoted_kind kind ≡ true → is_sign_kind kind ≡ false
    no_sign_kind Word h = absurd cc
    no_sign_kind Quoted h = refl
    no_sign_kind Text h = absurd cc
    no_sign_kind Sign h = absurd cc

pub sign_mark : (first : Token) → is_sign (codes "#") first ≡ true → IsMark first
sign_mark first sign = record {
  no_word = no_word (codes "#") first sign;
  no_text = sign_no_text (codes "#") first sign;
  other = λ other h. other_sign (codes "#") other first sign h;
}

record Marked (tokens : List Token) : Type 0 where
  first : Token
  rest : List Token
  is : first ∷ rest ≡ tokens
  mark : IsMark first

marked : (tokens : List Token) (operand : RawOperand) → IsNamed tokens operand → Marked tokens
marked tokens operand (named.name quoted kind) = record { first = quoted; rest = []; is = refl; mark = quoted_mark quoted kind }
marked tokens operand (named.in_block quoted point rest steps kind at glued is) =
    record { first = quoted; rest = point ∷ rest; is = refl; mark = quoted_mark quoted kind }
marked tokens operand (named.local hash rest steps sign glued is) = record { first = hash; rest = rest; is = refl; mark = sign_mark hash sign }

no_marked : (table : List Prefixed) (first : Token) (rest : List Token) → IsMark first → marked_at table (first ∷ rest) ≡ No
no_marked table first rest m =
    or_no (prefixed_at table (first ∷ rest)) (real_at (first ∷ rest))
    (ap (λ (o : Option Prefixed). prefixed_by o (first ∷ rest)) (none_found (has_prefix (first ∷ rest)) table (no_prefix rest)))
    ∙ if_false (begins_real (first ∷ rest)) _ No (if_false (is_sign (codes "-") first) _ _ (m.other (codes "-") refl) ∙ no_real rest)
  where
    no_prefix : (rest : List Token) (row : Prefixed) → has_prefix (first ∷ rest) row ≡ false
    no_prefix [] row = refl
    no_prefix (hash ∷ rest) row = and_left _ _ (and_left _ _ m.no_word)

    no_real : (rest : List Token) → is_real (first ∷ rest) ≡ false
    no_real [] = refl
    no_real (point ∷ []) = refl
    no_real (point ∷ part ∷ rest) = and_left _ _ (and_left _ _ (and_left _ _ (and_left _ _ m.no_word)))

pub no_constant : (first : Token) (rest : List Token) → IsMark first → constant_at (first ∷ rest) ≡ No
no_constant first rest m =
    or_no (text_at (first ∷ rest)) _ (ap (fitting 1) (if_false (is_text_kind first.kind) _ None m.no_text))
    ∙ or_no (marked_at prefixes (first ∷ rest)) _ (no_marked prefixes first rest m)
    ∙ plain_none first rest (m.other (codes "-") refl) (λ kind. let clash : true ≡ false = sym kind ∙ m.no_word in absurd cc)

sharp_apart : (test : Test) → is_same_word (first_of test) (codes "#") ≡ false
sharp_apart test.Eq = refl
sharp_apart test.Ne = refl
sharp_apart test.Gt = refl
sharp_apart test.Lt = refl
sharp_apart test.Ge = refl
sharp_apart test.Le = refl
sharp_apart test.Uo = refl
sharp_apart test.Ov = refl
sharp_apart test.Os = refl
sharp_apart test.Br = refl

no_status : (first : Token) (rest : List Token) → IsMark first → status_at (first ∷ rest) ≡ No
no_status first rest m = ap asked_by (none_found (is_asked (first ∷ rest)) tests not_asked)
  where
    spelled_so : (word sign same : Bool) → word ≡ false → (sign && same) ≡ false → ((word || sign) && same) ≡ false
    spelled_so true sign same w s = absurd cc
    spelled_so false sign same w s = s

    not_asked : (test : Test) → is_asked (first ∷ rest) test ≡ false
    not_asked test =
        and_left _ _ (spelled_so (is_word_kind first.kind) (is_sign_kind first.kind)
        (is_same_word first.text (first_of test)) m.no_word (m.other (first_of test) (sharp_apart test)))

pub named_not_asked : (tokens : List Token) (operand : RawOperand) → IsNamed tokens operand → status_at tokens ≡ No
named_not_asked tokens operand is = let m = marked tokens operand is in subst (λ (ts : List Token). status_at ts ≡ No) m.is (no_status m.first m.rest m.mark)

pub named_no_constant : (tokens : List Token) (operand : RawOperand) → IsNamed tokens operand → constant_at tokens ≡ No
named_no_constant tokens operand is =
    let m = marked tokens operand is in
    subst (λ (ts : List Token). constant_at ts ≡ No) m.is (no_constant m.first m.rest m.mark)

pub named_no_mark : (table : List Prefixed) (tokens : List Token) (operand : RawOperand) → IsNamed tokens operand → marked_at table tokens ≡ No
named_no_mark table tokens operand is =
    let m = marked tokens operand is in
    subst (λ (ts : List Token). marked_at table ts ≡ No) m.is (no_marked table m.first m.rest m.mark)

pub named_no_word : (tokens : List Token) (operand : RawOperand) (word : List ℕ) → IsNamed tokens operand → word_is word tokens ≡ false
named_no_word tokens operand word is =
    let m = marked tokens operand is in
    subst (λ (ts : List Token). word_is word ts ≡ false) m.is (and_left _ _ m.mark.no_word)

pub named_there : (tokens : List Token) (operand : RawOperand) → IsNamed tokens operand → tokens ≡ [] → ⊥
named_there tokens operand is e =
    let m = marked tokens operand is in
    let clash : m.first ∷ m.rest ≡ [] = m.is ∙ e in
    absurd cc

named_no_place : (tokens : List Token) (operand : RawOperand) → IsNamed tokens operand → place_operand tokens ≡ No
named_no_place tokens operand is =
    let m = marked tokens operand is in
    subst (λ (ts : List Token). place_operand ts ≡ No) m.is (no_place m.first m.rest m.mark.no_word)

pub placed_read : (tokens : List Token) (operand : RawOperand) → IsPlaced tokens operand → placed_at tokens ≡ Fits operand (length tokens)
placed_read tokens operand (form.at ts place is) = or_this (read_as At (place_operand ts)) _ (At place) (length ts) (ap (read_as At) (place_read ts place is))
placed_read tokens operand (form.named ts o is) =
    or_no (read_as At (place_operand ts)) _ (ap (read_as At) (named_no_place ts o is))
    ∙ or_this (named_at ts) (indirect_at ts) o (length ts) (named_read ts o is)
placed_read tokens operand (form.indirect ts o is) =
    let bracketed = indirect_bracketed ts o is in
    or_no (read_as At (place_operand ts)) _ (ap (read_as At) (bracketed_no_place ts bracketed))
    ∙ or_no (named_at ts) (indirect_at ts) (bracketed_no_named ts bracketed)
    ∙ indirect_read ts o is

crossing_no_placed : (tokens : List Token) (operand : RawOperand) → IsCrossing tokens operand → placed_at tokens ≡ No
crossing_no_placed tokens operand is =
    let bracketed = crossing_bracketed tokens operand is in
    or_no (read_as At (place_operand tokens)) _ (ap (read_as At) (bracketed_no_place tokens bracketed))
    ∙ or_no (named_at tokens) (indirect_at tokens) (bracketed_no_named tokens bracketed) ∙ crossing_no_indirect tokens operand is

pub located_read : (tokens : List Token) (operand : RawOperand) → IsLocated tokens operand → located_at tokens ≡ Fits operand (length tokens)
located_read tokens operand (form.placed ts o is) = or_this (placed_at ts) (crossing_at ts) o (length ts) (placed_read ts o is)
located_read tokens operand (form.crossing ts o is) = or_no (placed_at ts) (crossing_at ts) (crossing_no_placed ts o is) ∙ crossing_read ts o is

-- What is opened

-- the words of data blocks have no digit
area_letters : (text : List ℕ) (name : AreaName) → opened_area text ≡ Some name → digits_of text ≡ []
area_letters text name e = by (is_same_word text (codes "DB")) refl (is_same_word text (codes "DI")) refl e
  where
    of_word : (word : List ℕ) → is_same_word text word ≡ true → list_all is_no_digit (str_to_ascii_lowercase word) ≡ true → digits_of text ≡ []
    of_word word s none =
        no_digits text (ap (λ (low : List ℕ). list_all is_no_digit low) (same_letters text word s) ∙ none)

    by : (db : Bool) → is_same_word text (codes "DB") ≡ db → (di : Bool) → is_same_word text (codes "DI") ≡ di
        → (if db then Some area.Db else if di then Some area.Di else None) ≡ Some name
        → digits_of text ≡ []
    by true s di t e = of_word (codes "DB") s refl
    by false s true t e = of_word (codes "DI") t refl
    by false s false t e = absurd cc

no_opened_number : (tokens : List Token) → numbered_at tokens ≡ No → opened_number_at tokens ≡ No
no_opened_number tokens e =
    and_then_none tokens (numbered_at tokens) (λ found rest. fitting 0 (option_map (λ name. opening name (Number found.number)) (opened_area found.letters))) e

word_kind_of : (word : Token) (name : AreaName) → opened_word word ≡ Some name → (is_word_kind word.kind ≡ true) × (opened_area word.text ≡ Some name)
word_kind_of word name e = taken (is_word_kind word.kind) (opened_area word.text) name e

-- nor does a number stand behind them where no word does
opened_no_number : (word next : Token) (rest : List Token) (name : AreaName) → opened_word word ≡ Some name → is_word_kind next.kind ≡ false →
    opened_number_at (word ∷ next ∷ rest) ≡ No
opened_no_number word next rest name e none =
    let w = word_kind_of word name e in no_opened_number (word ∷ next ∷ rest) (no_number_before word next rest w.0 (area_letters word.text name w.1) none)

pub opened_read : (tokens : List Token) (operand : RawOperand) → IsOpened tokens operand → opened_at tokens ≡ Fits operand (length tokens)
opened_read tokens operand (by_number ts letters n name is area) = or_this (opened_number_at ts) _ opened (length ts) number
  where
    opened : RawOperand
    opened = opening name (Number n)

    number : opened_number_at ts ≡ Fits opened (length ts)
    number =
        subst (λ (all : List Token). opened_number_at all ≡ Fits opened (length all)) (append-nil ts)
        (and_then_read ts [] (numbered_at (ts ++ [])) (record { letters = letters; number = n })
        (λ found rest. fitting 0 (option_map (λ name. opening name (Number found.number)) (opened_area found.letters))) (numbered_read ts letters n is [])
        ∙ further_read ts [] (fitting 0 (option_map (λ name. opening name (Number n)) (opened_area letters))) opened
        (ap (λ (o : Option AreaName). fitting 0 (option_map (λ name. opening name (Number n)) o)) area))
opened_read tokens operand (by_name quoted kind) =
    or_no (opened_number_at (quoted ∷ [])) _ (no_opened_number (quoted ∷ []) (no_numbered quoted [] (quoted_mark quoted kind).no_word))
    ∙ or_this (opened_name_at (quoted ∷ [])) _ (OpenDb (Name quoted.text)) 1 (if_true (is_quoted_kind quoted.kind) _ _ kind)
opened_read tokens operand (by_word word quoted name e kind) =
    or_no (opened_number_at (word ∷ quoted ∷ [])) _ (opened_no_number word quoted [] name e (quoted_mark quoted kind).no_word)
    ∙ or_this (opened_name_at (word ∷ quoted ∷ [])) _ (opening name (Name quoted.text)) 2
    (if_false (is_quoted_kind word.kind) _ _ (word_no_quoted word (word_kind_of word name e).0)
    ∙ ap (λ (o : Option AreaName). opened_behind o (quoted ∷ [])) e
    ∙ if_true (is_quoted_kind quoted.kind) _ No kind)
opened_read tokens operand (by_memory word before rest name o e sign is) =
    or_no (opened_number_at (word ∷ before ∷ rest)) _ (opened_no_number word before rest name e (no_word (codes "[") before sign))
    ∙ or_no (opened_name_at (word ∷ before ∷ rest)) _
    (if_false (is_quoted_kind word.kind) _ _ (word_no_quoted word (word_kind_of word name e).0)
    ∙ ap (λ (opened : Option AreaName). opened_behind opened (before ∷ rest)) e
    ∙ if_false (is_quoted_kind before.kind) _ No (sign_no_quoted (codes "[") before sign))
    ∙ ap (λ (opened : Option AreaName). opened_in opened before rest) e
    ∙ if_true (is_sign (codes "[") before) _ No sign
    ∙ further_read (word ∷ before ∷ []) rest (memory_at (opening_by name) width.Word rest) o (memory_read (opening_by name) width.Word rest o is)

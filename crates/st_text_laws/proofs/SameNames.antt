-- A name by the rules of texts is one by those of trees: the words that are reserved are the same.
use Rattle.st_tree.proofs.Common.{◌≡◌, ℕ, ◌+◌, ◌==◌, Bool, true, false, not, ◌&&◌, ◌||◌, cond, List, [], ◌∷◌, ◌++◌, map, take, drop, Option, Some, None, refl, sym, ap, subst, ◌∙◌, arith, codes, is_none, is_some, to_ascii_lowercase, find, list_all, list_any, str_to_ascii_lowercase, and_parts, nat_tests, drop-map, map-append, take-append-drop, take-map, is_same_word, is_word_byte, conversion_word, is_conversion, is_name, type_word}
use Rattle.std.proofs.lemmas.List.{append_assoc}
use Rattle.std.proofs.lemmas.List.Folds.{list_any_at}
use Rattle.std.proofs.lemmas.Slice.Eq.{bytes_eq-Decides}
use Rattle.st_text_laws.specs.Spelled as text
use Rattle.st_grammar.specs.Kinds.{conversion_between, conversion_named, conversion_of_types, size_before_line, word_named, word_text}
use Rattle.st_grammar.specs.declared.kind.OneOperand.{OneOperand}
use Rattle.st_grammar.specs.declared.words.TheConstants.{WORDS}
use Rattle.st_lexer.proofs.Common.{type_named, is_letter, StType}
use Rattle.st_tree.specs.Naming.{is_conversion_word, keywords, types}
use Rattle.st_tree.specs.declared.expr.StType.TheVariants as type

-- Keywords

none_found : {X : Type 0} (test : List ℕ → Bool) (text : X → List ℕ) (xs : List X)
    → is_none (find (λ x. test (text x)) xs) ≡ not (list_any test (map text xs))
none_found {X} test text [] = refl
none_found {X} test text (x ∷ xs) = by (test (text x)) (none_found test text xs)
  where
    by : (t : Bool) → is_none (find (λ x. test (text x)) xs) ≡ not (list_any test (map text xs))
        → is_none (cond t (Some x) (find (λ x. test (text x)) xs)) ≡ not (t || list_any test (map text xs))
    by true h = refl
    by false h = h

all_words : map word_text WORDS ≡ keywords
unfolding word_text
all_words = refl

no_keyword : (name : List ℕ) → is_none (word_named name) ≡ not (list_any (λ entry. is_same_word name entry) keywords)
unfolding word_named
no_keyword name =
    none_found (λ entry. is_same_word name entry) word_text WORDS
    ∙ ap (λ ws. not (list_any (λ entry. is_same_word name entry) ws)) all_words

-- Words in any case

pub same_of : (a b : List ℕ) → is_same_word a b ≡ true → str_to_ascii_lowercase a ≡ str_to_ascii_lowercase b
same_of a b h = (bytes_eq-Decides (str_to_ascii_lowercase a) (str_to_ascii_lowercase b)).0 h

pub of_same : (a b : List ℕ) → str_to_ascii_lowercase a ≡ str_to_ascii_lowercase b → is_same_word a b ≡ true
of_same a b h = (bytes_eq-Decides (str_to_ascii_lowercase a) (str_to_ascii_lowercase b)).1 h

-- Conversions

-- the conversions that there are
pub between : (from to : StType) → not (is_none (conversion_between from to)) ≡ is_conversion from to
between type.Bool type.Bool = refl
between from type.Bool = refl
between from to = refl

line_alike : (a b : ℕ) → to_ascii_lowercase a ≡ to_ascii_lowercase b → (a == 95) ≡ (b == 95)
line_alike a b h = grind (arith, nat_tests)

before_alike : (a b : List ℕ) → str_to_ascii_lowercase a ≡ str_to_ascii_lowercase b → size_before_line a ≡ size_before_line b
before_alike [] [] h = refl
before_alike [] (y ∷ ys) h = absurd cc
before_alike (x ∷ xs) [] h = absurd cc
before_alike (x ∷ xs) (y ∷ ys) h =
    let first : to_ascii_lowercase x ≡ to_ascii_lowercase y = cc in
    let more : str_to_ascii_lowercase xs ≡ str_to_ascii_lowercase ys = cc in
    ap (λ t. cond (not t) (1 + size_before_line xs) 0) (line_alike x y first)
    ∙ ap (λ n. cond (not (y == 95)) (1 + n) 0) (before_alike xs ys more)

start_alike : (n : ℕ) (a b : List ℕ) → str_to_ascii_lowercase a ≡ str_to_ascii_lowercase b
    → str_to_ascii_lowercase (take n a) ≡ str_to_ascii_lowercase (take n b)
start_alike n a b h = sym (take-map to_ascii_lowercase n a) ∙ ap (take n) h ∙ take-map to_ascii_lowercase n b

rest_alike : (n : ℕ) (a b : List ℕ) → str_to_ascii_lowercase a ≡ str_to_ascii_lowercase b
    → str_to_ascii_lowercase (drop n a) ≡ str_to_ascii_lowercase (drop n b)
rest_alike n a b h = sym (drop-map to_ascii_lowercase n a) ∙ ap (drop n) h ∙ drop-map to_ascii_lowercase n b

type_alike : (a b : List ℕ) → str_to_ascii_lowercase a ≡ str_to_ascii_lowercase b → type_named a ≡ type_named b
type_alike a b h = rw h refl

conversion_alike : (a b : List ℕ) → str_to_ascii_lowercase a ≡ str_to_ascii_lowercase b → conversion_named a ≡ conversion_named b
conversion_alike a b h =
    let n = size_before_line b in
    let rest = rest_alike n a b h in
    rw (before_alike a b h) (rw (start_alike 4 (drop n a) (drop n b) rest)
    (ap (λ t. cond (is_same_word (take 4 (drop n b)) (codes "_TO_")) (conversion_of_types t (type_named (drop 4 (drop n a)))) None)
    (type_alike (take n a) (take n b) (start_alike n a b h))
    ∙ ap (λ t. cond (is_same_word (take 4 (drop n b)) (codes "_TO_")) (conversion_of_types (type_named (take n b)) t) None)
    (type_alike (drop 4 (drop n a)) (drop 4 (drop n b)) (rest_alike 4 (drop n a) (drop n b) rest))))

-- each conversion is found by its name
abbrev is_found : StType → StType → Bool
is_found from to = not (is_conversion from to) || is_some (conversion_named (conversion_word from to))

all_found : list_all (λ from. list_all (λ to. is_found from to) types) types ≡ true
all_found = refl

-- what holds of no good element holds of none
none_of : {X : Type 0} (p good : X → Bool) (xs : List X) → list_all good xs ≡ true
    → ((x : X) → good x ≡ true → p x ≡ false) → list_any p xs ≡ false
none_of p good [] h f = refl
none_of p good (x ∷ xs) h f =
    let parts = and_parts (good x) (list_all good xs) h in
    ap (λ t. t || list_any p xs) (f x parts.0) ∙ none_of p good xs parts.1 f

not_named : (name : List ℕ) → is_none (conversion_named name) ≡ true → (from to : StType) → is_found from to ≡ true
    → (is_conversion from to && is_same_word name (conversion_word from to)) ≡ false
not_named name none from to found =
    by (is_conversion from to) (is_same_word name (conversion_word from to)) refl found
  where
    never : (o : Option OneOperand) → is_none o ≡ true → is_some o ≡ true → ⊥
    never None h g = absurd cc
    never (Some x) h g = absurd cc

    by : (c w : Bool) → is_same_word name (conversion_word from to) ≡ w
        → (not c || is_some (conversion_named (conversion_word from to))) ≡ true → (c && w) ≡ false
    by false w e f = refl
    by true false e f = refl
    by true true e f =
        let same : conversion_named name ≡ conversion_named (conversion_word from to) =
        conversion_alike name (conversion_word from to) (same_of name (conversion_word from to) e) in
        let some : is_some (conversion_named name) ≡ true = ap is_some same ∙ f in
        absurd (never (conversion_named name) none some)

none_named : (name : List ℕ) → is_none (conversion_named name) ≡ true → is_conversion_word name ≡ false
none_named name none =
    none_of (λ from. list_any (λ to. is_conversion from to && is_same_word name (conversion_word from to)) types)
    (λ from. list_all (λ to. is_found from to) types) types all_found
    (λ from h. none_of (λ to. is_conversion from to && is_same_word name (conversion_word from to))
    (λ to. is_found from to) types h (λ to g. not_named name none from to g))

joined : (a b c d : List ℕ) → is_same_word a c ≡ true → is_same_word b d ≡ true → is_same_word (a ++ b) (c ++ d) ≡ true
joined a b c d h g =
    of_same (a ++ b) (c ++ d)
    (map-append to_ascii_lowercase a b ∙ ap (λ x. x ++ str_to_ascii_lowercase b) (same_of a c h)
    ∙ ap (λ x. str_to_ascii_lowercase c ++ x) (same_of b d g) ∙ sym (map-append to_ascii_lowercase c d))

-- a word is that of the type that it names
named_or : (word : List ℕ) (first ty : StType) (rest : Option StType) → (rest ≡ Some ty → is_same_word word (type_word ty) ≡ true)
    → cond (is_same_word word (type_word first)) (Some first) rest ≡ Some ty → is_same_word word (type_word ty) ≡ true
named_or word first ty rest more = by (is_same_word word (type_word first)) refl
  where
    by : (t : Bool) → is_same_word word (type_word first) ≡ t → cond t (Some first) rest ≡ Some ty
        → is_same_word word (type_word ty) ≡ true
    by true e h = let same : first ≡ ty = cc in subst (λ t. is_same_word word (type_word t) ≡ true) same e
    by false e h = more h

type_is : (word : List ℕ) (ty : StType) → type_named word ≡ Some ty → is_same_word word (type_word ty) ≡ true
type_is word ty =
    named_or word type.Bool ty _ (named_or word type.Byte ty _ (named_or word type.Word ty _
    (named_or word type.Dword ty _ (named_or word type.Int ty _ (named_or word type.Dint ty _
    (named_or word type.Lint ty None (λ h. absurd cc)))))))

-- a test that one of the types passes
some_type : (p : StType → Bool) (ty : StType) → p ty ≡ true → list_any p types ≡ true
some_type p type.Bool h = list_any_at p types 0 type.Bool (omega arith) h
some_type p type.Byte h = list_any_at p types 1 type.Bool (omega arith) h
some_type p type.Word h = list_any_at p types 2 type.Bool (omega arith) h
some_type p type.Dword h = list_any_at p types 3 type.Bool (omega arith) h
some_type p type.Int h = list_any_at p types 4 type.Bool (omega arith) h
some_type p type.Dint h = list_any_at p types 5 type.Bool (omega arith) h
some_type p type.Lint h = list_any_at p types 6 type.Bool (omega arith) h

is_named : (from to : StType) (name : List ℕ) → is_conversion from to ≡ true
    → is_same_word name (conversion_word from to) ≡ true → is_conversion_word name ≡ true
is_named from to name h g =
    let inner : StType → StType → Bool = λ f t. is_conversion f t && is_same_word name (conversion_word f t) in
    let both : inner from to ≡ true = rw (h, g) refl in
    some_type (λ f. list_any (inner f) types) from (some_type (inner from) to both)

-- a word of which a conversion stands on both sides of `_TO_` is that conversion's
of_types : (a rest : List ℕ) (o p : Option StType) → type_named a ≡ o → type_named (drop 4 rest) ≡ p
    → is_same_word (take 4 rest) (codes "_TO_") ≡ true → is_none (conversion_of_types o p) ≡ false
    → is_conversion_word (a ++ rest) ≡ true
of_types a rest None p e f g h = absurd cc
of_types a rest (Some from) None e f g h = absurd cc
of_types a rest (Some from) (Some to) e f g h =
    let there : is_conversion from to ≡ true = sym (between from to) ∙ ap not h in
    let behind : is_same_word (take 4 rest ++ drop 4 rest) (codes "_TO_" ++ type_word to) ≡ true =
    joined (take 4 rest) (drop 4 rest) (codes "_TO_") (type_word to) g (type_is (drop 4 rest) to f) in
    let whole : is_same_word (a ++ (take 4 rest ++ drop 4 rest)) (type_word from ++ (codes "_TO_" ++ type_word to))
    ≡ true =
    joined a (take 4 rest ++ drop 4 rest) (type_word from) (codes "_TO_" ++ type_word to) (type_is a from e) behind in
    let split = take 4 rest ++ drop 4 rest in
    is_named from to (a ++ rest) there
    (ap (λ x. is_same_word (a ++ x) (conversion_word from to)) (sym (take-append-drop 4 rest))
    ∙ ap (is_same_word (a ++ split)) (append_assoc (type_word from) (codes "_TO_") (type_word to)) ∙ whole)

conversion_by : (front behind : List ℕ) (t : Bool) → is_same_word (take 4 behind) (codes "_TO_") ≡ t
    → (u : Bool) → is_none (conversion_of_types (type_named front) (type_named (drop 4 behind))) ≡ u
    → is_conversion_word (front ++ behind) ≡ false
    → is_none (cond t (conversion_of_types (type_named front) (type_named (drop 4 behind))) None) ≡ true
conversion_by front behind false e u f g = refl
conversion_by front behind true e true f g = f
conversion_by front behind true e false f g =
    let is : is_conversion_word (front ++ behind) ≡ true =
    of_types front behind (type_named front) (type_named (drop 4 behind)) refl refl e f in
    absurd cc

no_word : (name : List ℕ) → is_conversion_word name ≡ false → is_none (conversion_named name) ≡ true
no_word name h =
    let front = take (size_before_line name) name in
    let behind = drop (size_before_line name) name in
    conversion_by front behind (is_same_word (take 4 behind) (codes "_TO_")) refl
    (is_none (conversion_of_types (type_named front) (type_named (drop 4 behind)))) refl
    (ap is_conversion_word (take-append-drop (size_before_line name) name) ∙ h)

-- a word names no conversion where it is the word of none
same_conversions : (name : List ℕ) → is_none (conversion_named name) ≡ not (is_conversion_word name)
same_conversions name = by (is_none (conversion_named name)) (is_conversion_word name) refl refl
  where
    by : (n w : Bool) → is_none (conversion_named name) ≡ n → is_conversion_word name ≡ w → n ≡ not w
    by true true e f = let none = none_named name e in absurd cc
    by true false e f = refl
    by false true e f = refl
    by false false e f = let none = no_word name f in absurd cc

-- Names

-- a name is the same by both rules
pub same_name : (name : List ℕ) → text.is_name name ≡ is_name name
same_name [] = refl
same_name (b ∷ w) =
    ap (λ t. (is_letter b && list_all is_word_byte w) && (t && is_none (conversion_named (b ∷ w)))) (no_keyword (b ∷ w))
    ∙ ap (λ t. (is_letter b && list_all is_word_byte w)
    && (not (list_any (λ entry. is_same_word (b ∷ w) entry) keywords) && t)) (same_conversions (b ∷ w))

pub spelled_name : (name : List ℕ) → is_name name ≡ true → text.is_name name ≡ true
spelled_name name h = same_name name ∙ h

pub name_is : (name : List ℕ) → text.is_name name ≡ true → is_name name ≡ true
name_is name h = sym (same_name name) ∙ h

-- The tokens of a text are of their sorts.
use Rattle.st_tree.proofs.Common.{◌≡◌, ℕ, zero, suc, ◌+◌, ◌-◌, Bool, true, false, cond, ◌&&◌, ◌==◌, List, [], ◌∷◌, ◌++◌, take, drop, Option, Some, None, Ok, refl, ap, subst, ◌∙◌, arith, All, IfSome, pos, neg_ℤ, int_lt, if◌then◌else◌, nat_le, option_map, codes, to_ascii_uppercase, list_all, nat_tests, All-nil, All-cons, AreaName, is_word_byte, is_same_word, begins_with, Line, Width}
use Rattle.memory_areas.specs.declared.place.AreaName.TheVariants as area
use Rattle.s7_base.specs.declared.word.Width.TheVariants as width
use Rattle.st_lexer.proofs.Words.{and_both, letter_word}
use Rattle.st_lexer.proofs.Common.{clamped_value, bit_variable, whole_variable, bit_behind, bit_at, place_at, lettered_at, unlettered_at, begins_with_block, block_at, data_at, area_named, area_at, direct_at, is_digit_to, begins_with_digit, base_at, number_to, number_at, greatest, is_signed, literal_of_number, truth_named, or_else, truth_behind, number_behind, value_behind, word_size, type_at, type_of_base, literal_behind, literal_at, has_value, is_kept, is_block_of, Piece, gap, token, is_blank, is_letter, ranged_piece, number_piece, word_piece, direct_piece, other_piece, mark_piece, sign_piece, comment_size, is_sign, is_double_sign, piece_at, piece_size, line_behind, token_of, Cut, prepend_tokens, with_piece, cut_from, great_from, first_bad, answer, tokens_of, is_word, HasPlace, HasValue, IsOfSort, IsOfItsSort, Direct, Literal, Base, Number, StToken, StType}
use Rattle.st_lexer.specs.Direct.{width_named}
use Rattle.st_lexer.specs.TokenFacts.{TokensAreOfTheirSorts}
use Rattle.st_lexer.specs.declared.number.Base.TheVariants as base
use Rattle.st_tree.specs.declared.token.StKind.TheVariants as sort
use Rattle.st_tree.specs.declared.expr.StType.TheVariants as type

-- what holds of both arms holds of their choice
choose : {X : Type 0} (P : X → Type 0) (b : Bool) (x y : Option X) → (b ≡ true → IfSome x P) → (b ≡ false → IfSome y P) → IfSome (if b then x else y) P
choose P true x y p q = p refl
choose P false x y p q = q refl

-- Literals

-- a `-` stands before a type with a sign alone
abbrev HasSign : Literal → Type 0
HasSign found = found.minus ≡ true → is_signed found.kind ≡ true

as_literal : (kind : StType) (minus : Bool) (before : ℕ) (o : Option Number) → (minus ≡ true → is_signed kind ≡ true)
    → IfSome (option_map (literal_of_number kind minus before) o) HasSign
as_literal kind minus before None h = tt
as_literal kind minus before (Some number) h = h

no_minus : (kind : StType) → false ≡ true → is_signed kind ≡ true
no_minus kind e = absurd cc

truth_sign : (before : ℕ) (word : List ℕ) → IfSome (truth_named before word) HasSign
truth_sign before word =
    choose HasSign (is_same_word word (codes "TRUE")) _ _ (λ h. no_minus type.Bool)
    (λ h. choose HasSign (is_same_word word (codes "FALSE")) _ None (λ h. no_minus type.Bool) (λ h. tt))

or_sign : (o p : Option Literal) → IfSome o HasSign → IfSome p HasSign → IfSome (or_else o p) HasSign
or_sign (Some x) p v w = v
or_sign None p v w = w

truth_behind_sign : (before : ℕ) (bytes : List ℕ) → IfSome (truth_behind before bytes) HasSign
truth_behind_sign before bytes =
    or_sign (truth_named before (take (word_size bytes) bytes)) _ (truth_sign before (take (word_size bytes) bytes))
    (as_literal type.Bool false before (number_to base.Ten bytes) (no_minus type.Bool))

number_behind_sign : (kind : StType) (before : ℕ) (bytes : List ℕ) → IfSome (number_behind kind before bytes) HasSign
number_behind_sign kind before bytes =
    choose HasSign (is_signed kind && begins_with 45 bytes) _ _
    (λ h. as_literal kind true (before + 1) (number_to base.Ten (drop 1 bytes)) (λ e. (and_both (is_signed kind) (begins_with 45 bytes) h).0))
    (λ h. as_literal kind false before (number_at bytes) (no_minus kind))

value_sign : (kind : StType) (before : ℕ) (bytes : List ℕ) → IfSome (value_behind kind before bytes) HasSign
value_sign type.Bool before bytes = truth_behind_sign before bytes
value_sign type.Byte before bytes = number_behind_sign type.Byte before bytes
value_sign type.Word before bytes = number_behind_sign type.Word before bytes
value_sign type.Dword before bytes = number_behind_sign type.Dword before bytes
value_sign type.Int before bytes = number_behind_sign type.Int before bytes
value_sign type.Dint before bytes = number_behind_sign type.Dint before bytes
value_sign type.Lint before bytes = number_behind_sign type.Lint before bytes

behind_sign : (o : Option StType) (bytes : List ℕ) → IfSome (literal_behind o bytes) HasSign
behind_sign None bytes = as_literal (type_of_base (base_at bytes)) false 0 (number_at bytes) (no_minus (type_of_base (base_at bytes)))
behind_sign (Some kind) bytes = value_sign kind (word_size bytes + 1) (drop (word_size bytes + 1) bytes)

-- a type has each of its numbers, with a `-` if it has a sign
value_of : (kind : StType) (minus : Bool) (n : ℕ) → (minus ≡ true → is_signed kind ≡ true) → nat_le n (greatest kind minus) ≡ true
    → has_value kind (if minus then neg_ℤ (pos n) else pos n) ≡ true
value_of kind false n h e = let plus : int_lt (pos n) (pos 0) ≡ false = grind (arith, nat_tests) in rw plus e
value_of kind true zero h e = let least : nat_le 0 (greatest kind false) ≡ true = grind (arith, nat_tests) in least
value_of kind true (suc n) h e = rw (h refl, e) refl

sign_value : (o : Option Literal) → IfSome o HasSign → IfSome o HasValue
sign_value None h = tt
sign_value (Some found) h = λ e. value_of found.kind found.minus found.number h e

-- a literal at the front of a text has a value of its type, if its type has its number
pub literal_value_of : (bytes : List ℕ) → IfSome (literal_at bytes) HasValue
literal_value_of bytes = sign_value (literal_at bytes) (behind_sign (type_at bytes) bytes)

-- Direct variables

kept_is : (number : Number) → is_kept (clamped_value number) ≡ true
kept_is number = grind (arith, nat_tests)

bit_place : (name : AreaName) (block : Option ℕ) (before : ℕ) (o : Option Number) (bytes : List ℕ) → is_block_of name block ≡ true
    → IfSome (bit_behind name block before o bytes) HasPlace
bit_place name block before None bytes h = tt
bit_place name block before (Some byte) bytes h =
    choose HasPlace (begins_with 46 (drop byte.size bytes)) _ None
    (λ e. bit_number name block before byte (number_to base.Ten (drop 1 (drop byte.size bytes))) h) (λ e. tt)
  where
    bit_number : (name : AreaName) (block : Option ℕ) (before : ℕ) (byte : Number) (o : Option Number) → is_block_of name block ≡ true
        → IfSome (option_map (bit_variable name block before byte) o) HasPlace
    bit_number name block before byte None h = tt
    bit_number name block before byte (Some bit) h = rw (h, kept_is byte, kept_is bit) refl

-- a byte or more at a number
whole_place : (name : AreaName) (block : Option ℕ) (wide : Width) (before : ℕ) (o : Option Number) → is_block_of name block ≡ true → (wide ≡ width.Bit → ⊥)
    → IfSome (option_map (whole_variable name block wide before) o) HasPlace
whole_place name block wide before None h k = tt
whole_place name block width.Bit before (Some byte) h k = absurd (k refl)
whole_place name block width.Byte before (Some byte) h k = rw (h, kept_is byte) refl
whole_place name block width.Word before (Some byte) h k = rw (h, kept_is byte) refl
whole_place name block width.Dword before (Some byte) h k = rw (h, kept_is byte) refl

width_place : (name : AreaName) (block : Option ℕ) (wide : Option Width) (before : ℕ) (bytes : List ℕ) → is_block_of name block ≡ true
    → IfSome (place_at name block wide before bytes) HasPlace
width_place name block None before bytes h = tt
width_place name block (Some width.Bit) before bytes h = bit_place name block before (number_to base.Ten bytes) bytes h
width_place name block (Some width.Byte) before bytes h = whole_place name block width.Byte before (number_to base.Ten bytes) h (λ e. cc)
width_place name block (Some width.Word) before bytes h = whole_place name block width.Word before (number_to base.Ten bytes) h (λ e. cc)
width_place name block (Some width.Dword) before bytes h = whole_place name block width.Dword before (number_to base.Ten bytes) h (λ e. cc)

lettered_place : (name : AreaName) (block : Option ℕ) (before : ℕ) (bytes : List ℕ)
    → is_block_of name block ≡ true → IfSome (lettered_at name block before bytes) HasPlace
lettered_place name block before [] h = tt
lettered_place name block before (letter ∷ rest) h = width_place name block (width_named (to_ascii_uppercase letter)) (before + 1) rest h

unlettered_place : (name : AreaName) (bytes : List ℕ) → IfSome (unlettered_at name bytes) HasPlace
unlettered_place name bytes =
    choose HasPlace (begins_with_digit base.Ten bytes) (bit_at name None 2 bytes) (lettered_at name None 2 bytes)
    (λ e. bit_place name None 2 (number_to base.Ten bytes) bytes refl) (λ e. lettered_place name None 2 bytes refl)

block_place : (o : Option Number) (bytes : List ℕ) → IfSome (block_at o bytes) HasPlace
block_place None bytes = lettered_place area.Db None 3 bytes refl
block_place (Some block) bytes =
    choose HasPlace (begins_with_block (drop block.size bytes)) _ None
    (λ e. lettered_place area.Db (Some (clamped_value block)) (block.size + 6) (drop 3 (drop block.size bytes)) (kept_is block)) (λ e. tt)

data_place : (bytes : List ℕ) → IfSome (data_at bytes) HasPlace
data_place [] = tt
data_place (letter ∷ rest) =
    choose HasPlace (to_ascii_uppercase letter == 66) (block_at (number_to base.Ten rest) rest) _ (λ e. block_place (number_to base.Ten rest) rest)
    (λ e. choose HasPlace (to_ascii_uppercase letter == 73) (lettered_at area.Di None 3 rest) None (λ e. lettered_place area.Di None 3 rest refl) (λ e. tt))

area_place : (o : Option AreaName) (letter : ℕ) (bytes : List ℕ) → IfSome (area_at o letter bytes) HasPlace
area_place (Some name) letter bytes = unlettered_place name bytes
area_place None letter bytes = choose HasPlace (letter == 68) (data_at bytes) None (λ e. data_place bytes) (λ e. tt)

-- a direct variable at the front of a text stands for a place
pub direct_place_of : (bytes : List ℕ) → IfSome (direct_at bytes) HasPlace
direct_place_of [] = tt
direct_place_of (percent ∷ []) = tt
direct_place_of (percent ∷ letter ∷ rest) =
    choose HasPlace (percent == 37) _ None (λ e. area_place (area_named (to_ascii_uppercase letter)) (to_ascii_uppercase letter) rest) (λ e. tt)

-- Words

taken_step : (t : Bool) (b : ℕ) (rest : List ℕ) → is_word_byte b ≡ t → list_all is_word_byte (take (word_size rest) rest) ≡ true
    → list_all is_word_byte (take (cond t (1 + word_size rest) 0) (b ∷ rest)) ≡ true
taken_step true b rest e h =
    let one_more : 1 + word_size rest ≡ suc (word_size rest) = omega arith in
    let both : (is_word_byte b && list_all is_word_byte (take (word_size rest) rest)) ≡ true = rw (e, h) refl in
    ap (λ (n : ℕ). list_all is_word_byte (take n (b ∷ rest))) one_more ∙ both
taken_step false b rest e h = refl

-- a longest run of bytes of words has such bytes
taken : (bytes : List ℕ) → list_all is_word_byte (take (word_size bytes) bytes) ≡ true
taken [] = refl
taken (b ∷ rest) = taken_step (is_word_byte b) b rest refl (taken rest)

-- the word at the front
word_at_front : (b : ℕ) (rest : List ℕ) → is_letter b ≡ true → is_word (take (word_size (b ∷ rest)) (b ∷ rest)) ≡ true
word_at_front b rest h =
    let both : (is_letter b && list_all is_word_byte (take (word_size rest) rest)) ≡ true = rw (h, taken rest) refl in
    let one_more : 1 + word_size rest ≡ suc (word_size rest) = omega arith in
    ap (λ (t : Bool). is_word (take (cond t (1 + word_size rest) 0) (b ∷ rest))) (letter_word b h)
    ∙ ap (λ (n : ℕ). is_word (take n (b ∷ rest))) one_more ∙ both

-- Pieces

-- a token at the front of a text is of its sort
abbrev Fits : List ℕ → Piece → Type 0
Fits bytes (gap size) = Unit {0}
Fits bytes (token kind size) = IsOfSort kind (take size bytes)

literal_fits : (bytes : List ℕ) (size : ℕ) → Fits bytes (token sort.Literal size)
literal_fits bytes size = literal_value_of (take size bytes)

ranged_fits : (bytes : List ℕ) (o : Option Literal) → IfSome (ranged_piece o) (Fits bytes)
ranged_fits bytes None = tt
ranged_fits bytes (Some literal) = choose (Fits bytes) _ (Some (token sort.Literal literal.size)) None (λ h. literal_fits bytes literal.size) (λ h. tt)

number_fits : (bytes : List ℕ) (to : Base) (o : Option Literal) → IfSome (number_piece to o) (Fits bytes)
number_fits bytes base.Ten (Some literal) = literal_fits bytes literal.size
number_fits bytes base.Ten None = tt
number_fits bytes base.Two o = ranged_fits bytes o
number_fits bytes base.Eight o = ranged_fits bytes o
number_fits bytes base.Sixteen o = ranged_fits bytes o

word_fits : (b : ℕ) (rest : List ℕ) (o : Option StType) → is_letter b ≡ true → IfSome (word_piece o (b ∷ rest)) (Fits (b ∷ rest))
word_fits b rest None h = word_at_front b rest h
word_fits b rest (Some kind) h = ranged_fits (b ∷ rest) (literal_at (b ∷ rest))

direct_fits : (bytes : List ℕ) (o : Option Direct) → IfSome (direct_piece o) (Fits bytes)
direct_fits bytes None = tt
direct_fits bytes (Some direct) = direct_place_of (take direct.size bytes)

sign_fits : (bytes : List ℕ) (first : ℕ) (rest : List ℕ) → IfSome (sign_piece first rest) (Fits bytes)
sign_fits bytes first [] = choose (Fits bytes) (is_sign first) (Some (token sort.Sign 1)) None (λ h. tt) (λ h. tt)
sign_fits bytes first (second ∷ rest) =
    choose (Fits bytes) (is_double_sign first second) (Some (token sort.Sign 2)) _ (λ h. tt)
    (λ h. choose (Fits bytes) (is_sign first) (Some (token sort.Sign 1)) None (λ h. tt) (λ h. tt))

comment_fits : (bytes : List ℕ) (o : Option ℕ) → IfSome (option_map (λ size. gap (size + 2)) o) (Fits bytes)
comment_fits bytes None = tt
comment_fits bytes (Some size) = tt

mark_fits : (bytes : List ℕ) (first : ℕ) (rest : List ℕ) → IfSome (mark_piece first rest) (Fits bytes)
mark_fits bytes first rest =
    choose (Fits bytes) (first == 40 && begins_with 42 rest) _ _ (λ h. comment_fits bytes (comment_size (drop 1 rest)))
    (λ h. choose (Fits bytes) (first == 47 && begins_with 47 rest) _ (sign_piece first rest) (λ h. tt) (λ h. sign_fits bytes first rest))

other_fits : (bytes : List ℕ) → IfSome (other_piece bytes) (Fits bytes)
other_fits [] = tt
other_fits (first ∷ rest) =
    choose (Fits (first ∷ rest)) (first == 37) (direct_piece (direct_at (first ∷ rest))) (mark_piece first rest)
    (λ h. direct_fits (first ∷ rest) (direct_at (first ∷ rest))) (λ h. mark_fits (first ∷ rest) first rest)

piece_fits : (bytes : List ℕ) → IfSome (piece_at bytes) (Fits bytes)
piece_fits [] = tt
piece_fits (first ∷ rest) =
    let bytes = first ∷ rest in
    choose (Fits bytes) (is_blank first) (Some (gap 1)) _ (λ h. tt)
    (λ h. choose (Fits bytes) (is_letter first) (word_piece (type_at bytes) bytes) _ (λ h. word_fits first rest (type_at bytes) h)
    (λ h. choose (Fits bytes) (is_digit_to base.Ten first) (number_piece (base_at bytes) (literal_at bytes)) (other_piece bytes)
    (λ h. number_fits bytes (base_at bytes) (literal_at bytes)) (λ h. other_fits bytes)))

-- Tokens

-- a piece's tokens before others
before_others : (piece : Piece) (bytes : List ℕ) (line : ℕ) (more : List StToken) → Fits bytes piece → All IsOfItsSort more
    → All IsOfItsSort (token_of piece bytes line ++ more)
before_others (gap size) bytes line more h a = a
before_others (token kind size) bytes line more h a =
    All-cons IsOfItsSort (record { kind = kind; text = take size bytes; line = record { 0 = line } }) more h a

piece_sorts : (o : Option Piece) (bytes : List ℕ) (line : ℕ) (next : Piece → Cut)
    → IfSome o (Fits bytes) → ((piece : Piece) → All IsOfItsSort (next piece).tokens)
    → All IsOfItsSort (with_piece o line (λ piece. prepend_tokens (token_of piece bytes line) (next piece))).tokens
piece_sorts None bytes line next h a = All-nil IsOfItsSort
piece_sorts (Some piece) bytes line next h a = before_others piece bytes line (next piece).tokens h (a piece)

cut_sorts : (skip line : ℕ) (bytes : List ℕ) → All IsOfItsSort (cut_from skip line bytes).tokens
cut_sorts skip line [] = All-nil IsOfItsSort
cut_sorts (suc skip) line (b ∷ rest) = cut_sorts skip (line_behind b line) rest
cut_sorts zero line (b ∷ rest) =
    piece_sorts (piece_at (b ∷ rest)) (b ∷ rest) line (λ piece. cut_from (piece_size piece - 1) (line_behind b line) rest) (piece_fits (b ∷ rest))
    (λ piece. cut_sorts (piece_size piece - 1) (line_behind b line) rest)

answered : (bad : Option Line) (ts tokens : List StToken) → answer bad ts ≡ Ok tokens → ts ≡ tokens
answered (Some line) ts tokens e = absurd cc
answered None ts tokens e = cc

-- each token of a text is of its sort
pub tokens_are_of_their_sorts : TokensAreOfTheirSorts
unfolding tokens_of
tokens_are_of_their_sorts bytes tokens e =
    let c = cut_from 0 1 bytes in
    subst (All IsOfItsSort) (answered (first_bad (great_from false c.tokens) c.bad) c.tokens tokens e) (cut_sorts 0 1 bytes)

-- Each number, literal, direct variable and piece has a byte, and no more than there are.
use Rattle.st_tree.proofs.Common.{◌≡◌, ℕ, suc, ◌+◌, ◌-◌, ◌<◌, ◌≤◌, Bool, true, false, not, cond, ◌&&◌, ◌||◌, ◌==◌, List, [], ◌∷◌, length, take, drop, Option, Some, None, refl, ap, arith, length-drop, length-take-le, to_ascii_uppercase, IfSome, if◌then◌else◌, option_map, nat_eq, codes, prefix_len, starts_with, nat_tests, AreaName, is_word_byte, is_same_word, begins_with, Width}
use Rattle.std.proofs.lemmas.List.Sums.{prefix_len-le-length}
use Rattle.memory_areas.specs.declared.place.AreaName.TheVariants as area
use Rattle.s7_base.specs.Tokens.{line_size}
use Rattle.s7_base.specs.declared.word.Width.TheVariants as width
use Rattle.st_lexer.proofs.Common.{bit_variable, whole_variable, bit_behind, bit_at, place_at, lettered_at, unlettered_at, begins_with_block, block_at, data_at, area_named, area_at, direct_at, is_digit_to, begins_with_digit, digits_size, stands_to, base_at, digits_behind, number_to, is_signed, literal_of_number, truth_named, or_else, truth_behind, number_behind, value_behind, word_size, type_named, type_at, type_of_base, literal_behind, literal_at, is_in_range, gap, token, piece_size, is_blank, is_letter, is_sign, is_double_sign, comment_size, sign_piece, mark_piece, ranged_piece, number_piece, word_piece, direct_piece, other_piece, piece_at, Direct, Literal, StType, Base, Number}
use Rattle.st_lexer.specs.Direct.{whole_at}
use Rattle.st_lexer.specs.Literals.{mark}
use Rattle.st_lexer.specs.Pieces.{IsWithin}
use Rattle.st_tree.specs.declared.expr.StType.TheVariants as type
use Rattle.st_lexer.specs.declared.number.Base.TheVariants as base
use Rattle.st_tree.specs.declared.token.StKind.TheVariants as sort

-- what is found, if it is, has a byte and no more than these
abbrev pub Within : {X : Type 0} → (X → ℕ) → ℕ → Option X → Type 0
Within size most o = IfSome o (λ x. IsWithin (size x) most)

choose : {X : Type 0} (size : X → ℕ) (most : ℕ) (b : Bool) (x y : Option X) → (b ≡ true → Within size most x)
    → (b ≡ false → Within size most y) → Within size most (if b then x else y)
choose size most true x y p q = p refl
choose size most false x y p q = q refl

-- more bytes are enough too
pub widen : {X : Type 0} (size : X → ℕ) (most more : ℕ) (o : Option X) → most ≤ more → Within size most o → Within size more o
widen size most more None h w = tt
widen size most more (Some x) h w = record { some = w.some; enough = omega (arith, h, w.enough) }

-- what is made of it takes so many bytes more
mapped : {X Y : Type 0} (of : X → ℕ) (size : Y → ℕ) (f : X → Y) (before most more : ℕ)
    → before + most ≤ more → ((x : X) → size (f x) ≡ before + of x) → (o : Option X)
    → Within of most o → Within size more (option_map f o)
mapped of size f before most more h e None w = tt
mapped of size f before most more h e (Some x) w =
    let same : size (f x) ≡ before + of x = e x in
    record { some = omega (arith, w.some, same); enough = omega (arith, h, w.enough, same) }

and_both : (a b : Bool) → (a && b) ≡ true → (a ≡ true) × (b ≡ true)
and_both true b h = (refl, h)
and_both false b h = absurd cc

some_first : (b : ℕ) (bytes : List ℕ) → begins_with b bytes ≡ true → 0 < length bytes
some_first b [] h = absurd cc
some_first b (first ∷ rest) h = omega arith

-- Numbers

abbrev number_bytes : Number → ℕ
number_bytes number = number.size

bounded : (b : Bool) (n m : ℕ) → n ≤ m → (if b then n + 1 else 0) ≤ suc m
bounded true n m h = omega arith
bounded false n m h = omega arith

digits_within : (to : Base) (bytes : List ℕ) → digits_size to bytes ≤ length bytes
digits_within to [] = omega arith
digits_within to (b ∷ rest) =
    bounded (is_digit_to to b || (b == 95 && begins_with_digit to rest)) (digits_size to rest) (length rest) (digits_within to rest)

counted : (x y : Bool) (n : ℕ) → x ≡ true → 0 < (if x || y then n + 1 else 0)
counted true y n h = omega arith
counted false y n h = absurd cc

digits_some : (to : Base) (bytes : List ℕ) → begins_with_digit to bytes ≡ true → 0 < digits_size to bytes
digits_some to [] h = absurd cc
digits_some to (b ∷ rest) h = counted (is_digit_to to b) (b == 95 && begins_with_digit to rest) (digits_size to rest) h

-- a number that stands at the front
pub stands_within : (to : Base) (bytes : List ℕ) → stands_to to bytes ≡ true
    → IsWithin (length (mark to) + digits_size to (drop (length (mark to)) bytes)) (length bytes)
stands_within to bytes h =
    let m = length (mark to) in
    let digits = drop m bytes in
    let d : begins_with_digit to digits ≡ true = (and_both (starts_with nat_eq bytes (mark to)) (begins_with_digit to digits) h).1 in
    let some : 0 < digits_size to digits = digits_some to digits d in
    let less : digits_size to digits ≤ length digits = digits_within to digits in
    let left : length digits ≡ length bytes - m = length-drop m bytes in
    record { some = omega (arith, some); enough = omega (arith, some, less, left) }

number_within : (to : Base) (bytes : List ℕ) → Within number_bytes (length bytes) (number_to to bytes)
number_within to bytes =
    choose number_bytes (length bytes) (stands_to to bytes) (Some (digits_behind (length (mark to)) to (drop (length (mark to)) bytes))) None
    (λ h. stands_within to bytes h) (λ h. tt)

-- Literals

abbrev literal_bytes : Literal → ℕ
literal_bytes literal = literal.size

truth_within : (before most : ℕ) (word : List ℕ) → 0 < before → length word ≤ most → Within literal_bytes (before + most) (truth_named before word)
truth_within before most word some h =
    choose literal_bytes (before + most) (is_same_word word (codes "TRUE")) _ _ (λ e. record { some = omega (arith, some); enough = omega (arith, h) })
    (λ e. choose literal_bytes (before + most) (is_same_word word (codes "FALSE")) _ None
    (λ e. record { some = omega (arith, some); enough = omega (arith, h) }) (λ e. tt))

or_within : (most : ℕ) (o p : Option Literal) → Within literal_bytes most o → Within literal_bytes most p → Within literal_bytes most (or_else o p)
or_within most (Some x) p v w = v
or_within most None p v w = w

-- a number at the front as a literal
as_literal : (kind : StType) (minus : Bool) (before more : ℕ) (bytes : List ℕ) (to : Base) → before + length bytes ≤ more →
    Within literal_bytes more (option_map (literal_of_number kind minus before) (number_to to bytes))
as_literal kind minus before more bytes to h =
    mapped number_bytes literal_bytes (literal_of_number kind minus before) before
    (length bytes) more h (λ n. refl) (number_to to bytes) (number_within to bytes)

truth_behind_within : (before : ℕ) (bytes : List ℕ) → 0 < before → Within literal_bytes (before + length bytes) (truth_behind before bytes)
truth_behind_within before bytes some =
    let word = take (word_size bytes) bytes in
    let less : word_size bytes ≤ length bytes = prefix_len-le-length is_word_byte bytes in
    let size : length word ≡ word_size bytes = length-take-le (word_size bytes) bytes less in
    or_within (before + length bytes) (truth_named before word) _ (truth_within before (length bytes) word some (omega (arith, less, size)))
    (as_literal type.Bool false before (before + length bytes) bytes base.Ten (omega arith))

number_behind_within : (kind : StType) (before : ℕ) (bytes : List ℕ) → Within literal_bytes (before + length bytes) (number_behind kind before bytes)
number_behind_within kind before bytes =
    choose literal_bytes (before + length bytes) (is_signed kind && begins_with 45 bytes) _ _
    (λ h.
    let some : 0 < length bytes = some_first 45 bytes (and_both (is_signed kind) (begins_with 45 bytes) h).1 in
    let left : length (drop 1 bytes) ≡ length bytes - 1 = length-drop 1 bytes in
    as_literal kind true (before + 1) (before + length bytes) (drop 1 bytes) base.Ten (omega (arith, some, left)))
    (λ h. as_literal kind false before (before + length bytes) bytes (base_at bytes) (omega arith))

value_within : (kind : StType) (before : ℕ) (bytes : List ℕ) → 0 < before → Within literal_bytes (before + length bytes) (value_behind kind before bytes)
value_within type.Bool before bytes some = truth_behind_within before bytes some
value_within type.Byte before bytes some = number_behind_within type.Byte before bytes
value_within type.Word before bytes some = number_behind_within type.Word before bytes
value_within type.Dword before bytes some = number_behind_within type.Dword before bytes
value_within type.Int before bytes some = number_behind_within type.Int before bytes
value_within type.Dint before bytes some = number_behind_within type.Dint before bytes
value_within type.Lint before bytes some = number_behind_within type.Lint before bytes

chosen : (b : Bool) (o : Option StType) (kind : StType) → (if b then o else None) ≡ Some kind → b ≡ true
chosen true o kind e = refl
chosen false o kind e = absurd cc

-- a `#` stands after the word of a type
pub type_before : (bytes : List ℕ) (kind : StType) → type_at bytes ≡ Some kind → word_size bytes < length bytes
type_before bytes kind e =
    let size = word_size bytes in
    let h : begins_with 35 (drop size bytes) ≡ true = chosen (begins_with 35 (drop size bytes)) (type_named (take size bytes)) kind e in
    let some : 0 < length (drop size bytes) = some_first 35 (drop size bytes) h in
    omega (arith, some, length-drop size bytes)

behind_within : (o : Option StType) (bytes : List ℕ) → type_at bytes ≡ o → Within literal_bytes (length bytes) (literal_behind o bytes)
behind_within None bytes e = as_literal (type_of_base (base_at bytes)) false 0 (length bytes) bytes (base_at bytes) (omega arith)
behind_within (Some kind) bytes e =
    let before = word_size bytes + 1 in
    let rest = drop before bytes in
    let less : word_size bytes < length bytes = type_before bytes kind e in
    let left : length rest ≡ length bytes - before = length-drop before bytes in
    widen literal_bytes (before + length rest) (length bytes) (value_behind kind before rest)
    (omega (arith, less, left)) (value_within kind before rest (omega arith))

literal_within : (bytes : List ℕ) → Within literal_bytes (length bytes) (literal_at bytes)
literal_within bytes = behind_within (type_at bytes) bytes refl

-- Direct variables

abbrev pub direct_bytes : Direct → ℕ
direct_bytes direct = direct.size

bit_within : (name : AreaName) (block : Option ℕ) (before : ℕ) (o : Option Number) (bytes : List ℕ) → Within number_bytes (length bytes) o
    → Within direct_bytes (before + length bytes) (bit_behind name block before o bytes)
bit_within name block before None bytes w = tt
bit_within name block before (Some byte) bytes w =
    let rest = drop byte.size bytes in
    let left : length rest ≡ length bytes - byte.size = length-drop byte.size bytes in
    choose direct_bytes (before + length bytes) (begins_with 46 rest) _ None
    (λ h.
    let some : 0 < length rest = some_first 46 rest h in
    let less : length (drop 1 rest) ≡ length rest - 1 = length-drop 1 rest in
    mapped number_bytes direct_bytes (bit_variable name block before byte) (before + byte.size + 1) (length (drop 1 rest)) (before + length bytes)
    (omega (arith, some, less, left, w.enough)) (λ n. refl) (number_to base.Ten (drop 1 rest)) (number_within base.Ten (drop 1 rest)))
    (λ h. tt)

whole_within : (name : AreaName) (block : Option ℕ) (wide : Width) (before : ℕ) (bytes : List ℕ)
    → Within direct_bytes (before + length bytes) (whole_at name block wide before bytes)
whole_within name block wide before bytes =
    mapped number_bytes direct_bytes (whole_variable name block wide before) before (length bytes) (before + length bytes) (omega arith) (λ n. refl)
    (number_to base.Ten bytes) (number_within base.Ten bytes)

place_within : (name : AreaName) (block : Option ℕ) (wide : Option Width) (before : ℕ) (bytes : List ℕ)
    → Within direct_bytes (before + length bytes) (place_at name block wide before bytes)
place_within name block None before bytes = tt
place_within name block (Some width.Bit) before bytes = bit_within name block before (number_to base.Ten bytes) bytes (number_within base.Ten bytes)
place_within name block (Some width.Byte) before bytes = whole_within name block width.Byte before bytes
place_within name block (Some width.Word) before bytes = whole_within name block width.Word before bytes
place_within name block (Some width.Dword) before bytes = whole_within name block width.Dword before bytes

lettered_within : (name : AreaName) (block : Option ℕ) (before : ℕ) (bytes : List ℕ)
    → Within direct_bytes (before + length bytes) (lettered_at name block before bytes)
lettered_within name block before [] = tt
lettered_within name block before (letter ∷ rest) =
    widen direct_bytes (before + 1 + length rest) (before + suc (length rest)) (lettered_at name block before (letter ∷ rest)) (omega arith)
    (place_within name block _ (before + 1) rest)

unlettered_within : (name : AreaName) (bytes : List ℕ) → Within direct_bytes (2 + length bytes) (unlettered_at name bytes)
unlettered_within name bytes =
    choose direct_bytes (2 + length bytes) (begins_with_digit base.Ten bytes) (bit_at name None 2 bytes) (lettered_at name None 2 bytes)
    (λ h. bit_within name None 2 (number_to base.Ten bytes) bytes (number_within base.Ten bytes)) (λ h. lettered_within name None 2 bytes)

pub block_long : (bytes : List ℕ) → begins_with_block bytes ≡ true → 3 ≤ length bytes
block_long [] h = absurd cc
block_long (a ∷ []) h = absurd cc
block_long (a ∷ b ∷ []) h = absurd cc
block_long (a ∷ b ∷ c ∷ rest) h = omega arith

block_within : (o : Option Number) (bytes : List ℕ) → Within number_bytes (length bytes) o → Within direct_bytes (3 + length bytes) (block_at o bytes)
block_within None bytes w = lettered_within area.Db None 3 bytes
block_within (Some block) bytes w =
    let rest = drop block.size bytes in
    let left : length rest ≡ length bytes - block.size = length-drop block.size bytes in
    choose direct_bytes (3 + length bytes) (begins_with_block rest) _ None
    (λ h.
    let long : 3 ≤ length rest = block_long rest h in
    let less : length (drop 3 rest) ≡ length rest - 3 = length-drop 3 rest in
    widen direct_bytes (block.size + 6 + length (drop 3 rest)) (3 + length bytes) _ (omega (arith, long, less, left, w.enough))
    (lettered_within area.Db _ (block.size + 6) (drop 3 rest)))
    (λ h. tt)

data_within : (bytes : List ℕ) → Within direct_bytes (2 + length bytes) (data_at bytes)
data_within [] = tt
data_within (letter ∷ rest) =
    let other = if to_ascii_uppercase letter == 73 then lettered_at area.Di None 3 rest else None in
    widen direct_bytes (3 + length rest) (2 + suc (length rest)) (data_at (letter ∷ rest)) (omega arith)
    (choose direct_bytes (3 + length rest) (to_ascii_uppercase letter == 66) (block_at (number_to base.Ten rest) rest) other
    (λ h. block_within (number_to base.Ten rest) rest (number_within base.Ten rest))
    (λ h. choose direct_bytes (3 + length rest) (to_ascii_uppercase letter == 73)
    (lettered_at area.Di None 3 rest) None (λ h. lettered_within area.Di None 3 rest) (λ h. tt)))

area_within : (o : Option AreaName) (letter : ℕ) (bytes : List ℕ) → Within direct_bytes (2 + length bytes) (area_at o letter bytes)
area_within (Some name) letter bytes = unlettered_within name bytes
area_within None letter bytes = choose direct_bytes (2 + length bytes) (letter == 68) (data_at bytes) None (λ h. data_within bytes) (λ h. tt)

direct_within : (bytes : List ℕ) → Within direct_bytes (length bytes) (direct_at bytes)
direct_within [] = tt
direct_within (percent ∷ []) = tt
direct_within (percent ∷ letter ∷ rest) =
    widen direct_bytes (2 + length rest) (suc (suc (length rest))) (direct_at (percent ∷ letter ∷ rest)) (omega arith)
    (choose direct_bytes (2 + length rest) (percent == 37) _ None
    (λ h. area_within (area_named (to_ascii_uppercase letter)) (to_ascii_uppercase letter) rest) (λ h. tt))

-- Pieces

ranged_within : (most : ℕ) (o : Option Literal) → Within literal_bytes most o → Within piece_size most (ranged_piece o)
ranged_within most None w = tt
ranged_within most (Some literal) w = choose piece_size most (is_in_range literal) (Some (token sort.Literal literal.size)) None (λ h. w) (λ h. tt)

numbered_within : (most : ℕ) (to : Base) (o : Option Literal) → Within literal_bytes most o → Within piece_size most (number_piece to o)
numbered_within most base.Ten (Some literal) w = w
numbered_within most base.Ten None w = tt
numbered_within most base.Two o w = ranged_within most o w
numbered_within most base.Eight o w = ranged_within most o w
numbered_within most base.Sixteen o w = ranged_within most o w

letter_of_word : (b : ℕ) → is_letter b ≡ true → is_word_byte b ≡ true
letter_of_word b h = grind (arith, nat_tests)

word_some : (first : ℕ) (rest : List ℕ) → is_letter first ≡ true → 0 < word_size (first ∷ rest)
word_some first rest h =
    let e : word_size (first ∷ rest) ≡ 1 + word_size rest = ap (λ (b : Bool). cond b (1 + prefix_len is_word_byte rest) 0) (letter_of_word first h) in
    omega (arith, e)

word_within : (o : Option StType) (bytes : List ℕ) → 0 < word_size bytes → Within piece_size (length bytes) (word_piece o bytes)
word_within None bytes some = record { some = some; enough = prefix_len-le-length is_word_byte bytes }
word_within (Some kind) bytes some = ranged_within (length bytes) (literal_at bytes) (literal_within bytes)

abbrev itself : ℕ → ℕ
itself n = n

comment_within : (bytes : List ℕ) → Within itself (length bytes) (comment_size bytes)
comment_within [] = tt
comment_within (first ∷ rest) =
    choose itself (suc (length rest)) (first == 42 && begins_with 41 rest) (Some 2) _
    (λ h.
    let some : 0 < length rest = some_first 41 rest (and_both (first == 42) (begins_with 41 rest) h).1 in
    record { some = omega arith; enough = omega (arith, some) })
    (λ h. mapped itself itself suc 1 (length rest) (suc (length rest)) (omega arith) (λ n. omega arith) (comment_size rest) (comment_within rest))

sign_within : (first : ℕ) (rest : List ℕ) → Within piece_size (suc (length rest)) (sign_piece first rest)
sign_within first [] =
    choose piece_size (suc 0) (is_sign first) (Some (token sort.Sign 1)) None (λ h. record { some = omega arith; enough = omega arith }) (λ h. tt)
sign_within first (second ∷ rest) =
    choose piece_size (suc (suc (length rest))) (is_double_sign first second)
    (Some (token sort.Sign 2)) _ (λ h. record { some = omega arith; enough = omega arith })
    (λ h. choose piece_size (suc (suc (length rest))) (is_sign first) (Some (token sort.Sign 1)) None
    (λ h. record { some = omega arith; enough = omega arith }) (λ h. tt))

mark_within : (first : ℕ) (rest : List ℕ) → Within piece_size (suc (length rest)) (mark_piece first rest)
mark_within first rest =
    choose piece_size (suc (length rest)) (first == 40 && begins_with 42 rest) _ _
    (λ h.
    let some : 0 < length rest = some_first 42 rest (and_both (first == 40) (begins_with 42 rest) h).1 in
    let less : length (drop 1 rest) ≡ length rest - 1 = length-drop 1 rest in
    mapped itself piece_size (λ size. gap (size + 2)) 2 (length (drop 1 rest)) (suc (length rest)) (omega (arith, some, less)) (λ n. omega arith)
    (comment_size (drop 1 rest)) (comment_within (drop 1 rest)))
    (λ h. choose piece_size (suc (length rest)) (first == 47 && begins_with 47 rest) (Some (gap (line_size rest + 1))) (sign_piece first rest)
    (λ h. record { some = omega arith; enough = omega (arith, prefix_len-le-length (λ b. not (b == 10)) rest) }) (λ h. sign_within first rest))

direct_piece_within : (most : ℕ) (o : Option Direct) → Within direct_bytes most o → Within piece_size most (direct_piece o)
direct_piece_within most None w = tt
direct_piece_within most (Some direct) w = w

other_within : (bytes : List ℕ) → Within piece_size (length bytes) (other_piece bytes)
other_within [] = tt
other_within (first ∷ rest) =
    choose piece_size (suc (length rest)) (first == 37) (direct_piece (direct_at (first ∷ rest))) (mark_piece first rest)
    (λ h. direct_piece_within (suc (length rest)) (direct_at (first ∷ rest)) (direct_within (first ∷ rest))) (λ h. mark_within first rest)

-- a piece at the front has a byte, and no more than there are
pub piece_within : (bytes : List ℕ) → Within piece_size (length bytes) (piece_at bytes)
piece_within [] = tt
piece_within (first ∷ rest) =
    choose piece_size (suc (length rest)) (is_blank first) (Some (gap 1)) _ (λ h. record { some = omega arith; enough = omega arith })
    (λ h. choose piece_size (suc (length rest)) (is_letter first) _ _ (λ h. word_within (type_at (first ∷ rest)) (first ∷ rest) (word_some first rest h))
    (λ h. choose piece_size (suc (length rest)) (is_digit_to base.Ten first) _ (other_piece (first ∷ rest))
    (λ h. numbered_within (suc (length rest)) (base_at (first ∷ rest)) (literal_at (first ∷ rest)) (literal_within (first ∷ rest)))
    (λ h. other_within (first ∷ rest))))

-- Places of a canonical text, whatever stands after them that does not go on with them.
use Rattle.st_tree.proofs.Common.{◌≡◌, ℕ, ◌+◌, ◌^◌, ◌<◌, true, false, ◌&&◌, ◌==◌, List, [], ◌∷◌, ◌++◌, length, Option, Some, None, refl, sym, ap, ◌∙◌, arith, append_assoc, append-nil, length-append, decimal, codes, option_map, nat_tests, drop-append_seam, AreaName, Width, bit_text, place_text, area_word, width_word}
use Rattle.memory_areas.specs.declared.place.AreaName.TheVariants as area
use Rattle.s7_base.specs.declared.word.Width.TheVariants as width
use Rattle.st_lexer.proofs.NumberCuts.{decimal_to}
use Rattle.st_lexer.proofs.Words.{and_both, if_false}
use Rattle.st_lexer.proofs.Common.{clamped_value, bit_variable, whole_variable, bit_behind, place_at, lettered_at, block_at, direct_at, begins_with_digit, number_to, ends_word, is_kept, is_bit_of, is_block_of, place_in, direct_piece, piece_at, Direct, Number}
use Rattle.st_lexer.specs.Direct.{bit_of_byte, numbered_at}
use Rattle.st_lexer.specs.SpellingLaws.{IsDirect, PlacesAreTokens}
use Rattle.st_lexer.specs.declared.number.Base.TheVariants.{Ten}

abbrev variable_of : AreaName → Option ℕ → Width → ℕ → ℕ → ℕ → Direct
variable_of a block w byte bit size = record { area = a; block = block; width = w; byte = byte; bit = bit; size = size }

abbrev number : ℕ → ℕ → Number
number n size = record { value = n; size = size }

-- Numbers of places

-- a number of 32 bits is kept as it is
keeps : (n : ℕ) → is_kept n ≡ true → n < 2 ^ 32
keeps n h = grind (arith, nat_tests)

kept_same : (n size : ℕ) → is_kept n ≡ true → clamped_value (number n size) ≡ n
kept_same n size h = omega (arith, keeps n h)

decimal_kept : (n : ℕ) (more : List ℕ) → is_kept n ≡ true → ends_word more ≡ true → number_to Ten (decimal n ++ more) ≡ Some (number n (length (decimal n)))
decimal_kept n more h ends = decimal_to n more (omega (arith, keeps n h)) ends

is_zero : (n : ℕ) → (n == 0) ≡ true → n ≡ 0
is_zero n h = grind (arith, nat_tests)

-- the numbers after the letter of a width
abbrev numbers : Width → ℕ → ℕ → List ℕ
numbers w byte bit = decimal byte ++ bit_text w bit

bit_found : (a : AreaName) (block : Option ℕ) (before byte bit : ℕ) (more : List ℕ) → is_kept byte ≡ true → is_kept bit ≡ true → ends_word more ≡ true
    → place_at a block (Some width.Bit) before (numbers width.Bit byte bit ++ more)
    ≡ Some (variable_of a block width.Bit byte bit (before + length (numbers width.Bit byte bit)))
bit_found a block before byte bit more h k ends =
    let size : before + length (decimal byte) + 1 + length (decimal bit) ≡ before + length (decimal byte ++ 46 ∷ decimal bit) =
    omega (arith, length-append (decimal byte) (46 ∷ decimal bit)) in
    ap (place_at a block (Some width.Bit) before) (append_assoc (decimal byte) (46 ∷ decimal bit) more)
    ∙ ap (λ (o : Option Number). bit_behind a block before o (decimal byte ++ 46 ∷ (decimal bit ++ more)))
    (decimal_kept byte (46 ∷ (decimal bit ++ more)) h refl)
    ∙ ap (bit_of_byte a block before (number byte (length (decimal byte)))) (drop-append_seam (decimal byte) (46 ∷ (decimal bit ++ more)))
    ∙ ap (option_map (bit_variable a block before (number byte (length (decimal byte))))) (decimal_kept bit more k ends)
    ∙ ap (λ (n : ℕ).
    Some (variable_of a block width.Bit n (clamped_value (number bit (length (decimal bit)))) (before + length (decimal byte) + 1 + length (decimal bit))))
    (kept_same byte (length (decimal byte)) h)
    ∙ ap (λ (n : ℕ). Some (variable_of a block width.Bit byte n (before + length (decimal byte) + 1 + length (decimal bit))))
    (kept_same bit (length (decimal bit)) k)
    ∙ ap (λ (n : ℕ). Some (variable_of a block width.Bit byte bit n)) size

whole_found : (a : AreaName) (block : Option ℕ) (w : Width) (before byte bit : ℕ) (more : List ℕ)
    → is_kept byte ≡ true → (bit == 0) ≡ true → ends_word more ≡ true
    → option_map (whole_variable a block w before) (number_to Ten ((decimal byte ++ []) ++ more))
    ≡ Some (variable_of a block w byte bit (before + length (decimal byte ++ [])))
whole_found a block w before byte bit more h k ends =
    ap (λ (text : List ℕ). option_map (whole_variable a block w before) (number_to Ten (text ++ more))) (append-nil (decimal byte))
    ∙ ap (option_map (whole_variable a block w before)) (decimal_kept byte more h ends)
    ∙ ap (λ (n : ℕ). Some (variable_of a block w n 0 (before + length (decimal byte)))) (kept_same byte (length (decimal byte)) h)
    ∙ ap (λ (n : ℕ). Some (variable_of a block w byte n (before + length (decimal byte)))) (sym (is_zero bit k))
    ∙ ap (λ (text : List ℕ). Some (variable_of a block w byte bit (before + length text))) (sym (append-nil (decimal byte)))

-- the numbers of a place, whatever stands after them
numbers_found : (a : AreaName) (block : Option ℕ) (w : Width) (before byte bit : ℕ) (more : List ℕ)
    → is_kept byte ≡ true → is_bit_of w bit ≡ true → ends_word more ≡ true
    → place_at a block (Some w) before (numbers w byte bit ++ more) ≡ Some (variable_of a block w byte bit (before + length (numbers w byte bit)))
numbers_found a block width.Bit before byte bit more h k ends = bit_found a block before byte bit more h k ends
numbers_found a block width.Byte before byte bit more h k ends = whole_found a block width.Byte before byte bit more h k ends
numbers_found a block width.Word before byte bit more h k ends = whole_found a block width.Word before byte bit more h k ends
numbers_found a block width.Dword before byte bit more h k ends = whole_found a block width.Dword before byte bit more h k ends

-- Letters

no_digit : (w : Width) (x : List ℕ) → begins_with_digit Ten (width_word w ++ x) ≡ false
no_digit width.Bit x = refl
no_digit width.Byte x = refl
no_digit width.Word x = refl
no_digit width.Dword x = refl

letter_found : (a : AreaName) (block : Option ℕ) (w : Width) (before : ℕ) (x : List ℕ)
    → lettered_at a block before (width_word w ++ x) ≡ place_at a block (Some w) (before + 1) x
letter_found a block width.Bit before x = refl
letter_found a block width.Byte before x = refl
letter_found a block width.Word before x = refl
letter_found a block width.Dword before x = refl

letter_size : (w : Width) → length (width_word w) ≡ 1
letter_size width.Bit = refl
letter_size width.Byte = refl
letter_size width.Word = refl
letter_size width.Dword = refl

-- a place stands after the letters of an area, where no digit stands after them
area_found : (a : AreaName) (x : List ℕ) → begins_with_digit Ten x ≡ false
    → direct_at ((codes "%" ++ area_word a) ++ x) ≡ lettered_at a None (length (codes "%" ++ area_word a)) x
area_found area.I x h = if_false (begins_with_digit Ten x) _ _ h
area_found area.Q x h = if_false (begins_with_digit Ten x) _ _ h
area_found area.M x h = if_false (begins_with_digit Ten x) _ _ h
area_found area.L x h = if_false (begins_with_digit Ten x) _ _ h
area_found area.Db x h = ap (λ (o : Option Number). block_at o x) (if_false (begins_with_digit Ten x) _ _ h)
area_found area.Di x h = refl

-- and after those of a data block with its number
block_found : (n : ℕ) (x : List ℕ) → is_kept n ≡ true
    → direct_at (codes "%DB" ++ (decimal n ++ (codes ".DB" ++ x))) ≡ lettered_at area.Db (Some n) (length (decimal n) + 6) x
block_found n x h =
    ap (λ (o : Option Number). block_at o (decimal n ++ (codes ".DB" ++ x))) (decimal_kept n (codes ".DB" ++ x) h refl)
    ∙ ap (numbered_at (number n (length (decimal n)))) (drop-append_seam (decimal n) (codes ".DB" ++ x))
    ∙ ap (λ (k : ℕ). lettered_at area.Db (Some k) (length (decimal n) + 6) x) (kept_same n (length (decimal n)) h)

-- Places

-- a text is a direct variable where its place is found, whatever stands after it
direct_is : (a : AreaName) (block : Option ℕ) (w : Width) (byte bit : ℕ)
    → ((more : List ℕ) → ends_word more ≡ true
    → direct_at (place_in a block w byte bit ++ more) ≡ Some (variable_of a block w byte bit (length (place_in a block w byte bit))))
    → ((more : List ℕ) → piece_at (place_in a block w byte bit ++ more) ≡ direct_piece (direct_at (place_in a block w byte bit ++ more)))
    → IsDirect a block w byte bit
direct_is a block w byte bit at piece = record {
  is_token = λ more ends. record { found = piece more ∙ ap direct_piece (at more ends); size = refl };
  found = ap direct_at (sym (append-nil (place_in a block w byte bit))) ∙ at [] refl;
}

-- the text of a place with the letters before it
place_apart : (front : List ℕ) (w : Width) (byte bit : ℕ) (more : List ℕ)
    → (front ++ place_text w byte bit) ++ more ≡ front ++ (width_word w ++ (numbers w byte bit ++ more))
place_apart front w byte bit more =
    append_assoc front (place_text w byte bit) more
    ∙ ap (λ (x : List ℕ). front ++ (x ++ more)) (append_assoc (width_word w) (decimal byte) (bit_text w bit))
    ∙ ap (λ (x : List ℕ). front ++ x) (append_assoc (width_word w) (numbers w byte bit) more)

place_size : (front : List ℕ) (w : Width) (byte bit : ℕ) → length front + 1 + length (numbers w byte bit) ≡ length (front ++ place_text w byte bit)
place_size front w byte bit =
    omega (
      arith,
      length-append front (place_text w byte bit),
      length-append (width_word w ++ decimal byte) (bit_text w bit),
      length-append (width_word w) (decimal byte),
      length-append (decimal byte) (bit_text w bit),
      letter_size w,
    )

-- a place whose letters are found
placed : (a : AreaName) (block : Option ℕ) (front : List ℕ) (before : ℕ) (w : Width) (byte bit : ℕ) (more : List ℕ)
    → direct_at (front ++ (width_word w ++ (numbers w byte bit ++ more))) ≡ lettered_at a block before (width_word w ++ (numbers w byte bit ++ more))
    → before ≡ length front
    → is_kept byte ≡ true → is_bit_of w bit ≡ true → ends_word more ≡ true
    → direct_at ((front ++ place_text w byte bit) ++ more) ≡ Some (variable_of a block w byte bit (length (front ++ place_text w byte bit)))
placed a block front before w byte bit more letters e h k ends =
    let size : before + 1 + length (numbers w byte bit) ≡ length (front ++ place_text w byte bit) = omega (arith, place_size front w byte bit) in
    ap direct_at (place_apart front w byte bit more) ∙ letters ∙ letter_found a block w before (numbers w byte bit ++ more)
    ∙ numbers_found a block w (before + 1) byte bit more h k ends ∙ ap (λ (n : ℕ). Some (variable_of a block w byte bit n)) size

area_is : (a : AreaName) (w : Width) (byte bit : ℕ) → is_kept byte ≡ true → is_bit_of w bit ≡ true → IsDirect a None w byte bit
area_is a w byte bit h k = direct_is a None w byte bit
    (λ more ends. placed a None (codes "%" ++ area_word a) (length (codes "%" ++ area_word a)) w byte bit more
    (area_found a (width_word w ++ (numbers w byte bit ++ more)) (no_digit w (numbers w byte bit ++ more))) refl h k ends)
    (λ more. refl)

block_is : (n : ℕ) (w : Width) (byte bit : ℕ) → is_kept n ≡ true → is_kept byte ≡ true → is_bit_of w bit ≡ true → IsDirect area.Db (Some n) w byte bit
block_is n w byte bit b h k = direct_is area.Db (Some n) w byte bit
    (λ more ends. placed area.Db (Some n) ((codes "%DB" ++ decimal n) ++ codes ".DB") (length (decimal n) + 6) w byte bit more
    (letters (width_word w ++ (numbers w byte bit ++ more))) size h k ends)
    (λ more. refl)
  where
    letters : (x : List ℕ) → direct_at (((codes "%DB" ++ decimal n) ++ codes ".DB") ++ x) ≡ lettered_at area.Db (Some n) (length (decimal n) + 6) x
    letters x = ap (λ (text : List ℕ). direct_at (codes "%DB" ++ text)) (append_assoc (decimal n) (codes ".DB") x) ∙ block_found n x b

    size : length (decimal n) + 6 ≡ length ((codes "%DB" ++ decimal n) ++ codes ".DB")
    size = omega (arith, length-append (decimal n) (codes ".DB"))

pub places_stand : PlacesAreTokens
places_stand a block w byte bit h =
    let first = and_both (is_block_of a block && is_kept byte) (is_bit_of w bit) h in
    let both = and_both (is_block_of a block) (is_kept byte) first.0 in
    by a block both.0 both.1 first.1
  where
    by : (a : AreaName) (block : Option ℕ) → is_block_of a block ≡ true → is_kept byte ≡ true → is_bit_of w bit ≡ true → IsDirect a block w byte bit
    by a None b h k = area_is a w byte bit h k
    by area.Db (Some n) b h k = block_is n w byte bit b h k
    by other (Some n) b h k = absurd cc

-- Numbers, places and values that tokens can have.
use Rattle.std.specs.Prelude.{ℕ, ◌^◌, ℤ, pos, unsigned_abs, int_lt, Bool, true, false, not, ◌==◌, ◌&&◌, nat_lt, nat_le, if◌then◌else◌, List, [], ◌∷◌, Option, Some, None}
use Rattle.memory_areas.specs.declared.place.AreaName.{AreaName}
use Rattle.memory_areas.specs.declared.place.AreaName.TheVariants as area
use Rattle.s7_base.specs.Tokens.{is_word_byte}
use Rattle.s7_base.specs.declared.word.Width.{Width}
use Rattle.s7_base.specs.declared.word.Width.TheVariants as width
use Rattle.st_lexer.specs.Literals.{greatest, is_signed}
use Rattle.st_tree.specs.declared.expr.StType.{StType}
use Rattle.st_tree.specs.declared.expr.StType.TheVariants as type

-- a decimal without a type is a DINT from 0 on
abbrev pub is_decimal : ℕ → Bool
is_decimal n = nat_le n (greatest type.Dint false)

-- a number that a byte can hold, 0 to 255, as the initial value of a data block's byte
abbrev pub is_byte : ℕ → Bool
is_byte b = nat_le b 255

-- a type has a value; only types with a sign have values below 0
abbrev pub has_value : StType → ℤ → Bool
has_value ty n =
    if int_lt n (pos 0) then is_signed ty && nat_le (unsigned_abs n) (greatest ty true)
    else nat_le (unsigned_abs n) (greatest ty false)

-- a number of at most 32 bits, as numbers of places are kept
abbrev pub is_kept : ℕ → Bool
is_kept n = nat_lt n (2 ^ 32)

-- only a place in the area of data blocks may have the number of one
abbrev pub is_block_of : AreaName → Option ℕ → Bool
is_block_of a None = true
is_block_of area.Db (Some n) = is_kept n
is_block_of a (Some n) = false

-- only a bit has a bit number other than 0
abbrev pub is_bit_of : Width → ℕ → Bool
is_bit_of width.Bit bit = is_kept bit
is_bit_of w bit = bit == 0

-- a place with numbers of 32 bits
abbrev pub is_place : AreaName → Option ℕ → Width → ℕ → ℕ → Bool
is_place a block w byte bit = is_block_of a block && is_kept byte && is_bit_of w bit

-- the text does not begin with a byte that would continue a word, a number or a type before it
abbrev pub ends_word : List ℕ → Bool
ends_word [] = true
ends_word (b ∷ rest) = not (is_word_byte b) && not (b == 35)

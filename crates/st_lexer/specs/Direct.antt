-- Direct variables in a text. They begin with `%`, as `%IX0.7` and `%MW10`, and name a place.
-- Held against: IEC 61131-3, 'Directly represented variables'.
use Rattle.std.specs.Prelude.{ℕ, ◌+◌, ◌-◌, ◌^◌, min, Bool, false, ◌==◌, ◌&&◌, if◌then◌else◌, List, [], ◌∷◌, drop, Option, Some, None, option_map}
use Rattle.std.specs.Char.{to_ascii_uppercase}
use Rattle.s7_base.specs.Tokens.{begins_with}
use Rattle.memory_areas.specs.declared.place.AreaName.{AreaName}
use Rattle.memory_areas.specs.declared.place.AreaName.TheVariants.{I, Q, M, L, Db, Di}
use Rattle.s7_base.specs.declared.word.Width.{Width}
use Rattle.s7_base.specs.declared.word.Width.TheVariants.{Bit, Byte, Word, Dword}
use Rattle.st_lexer.specs.Literals.{number_to, begins_with_digit}
use Rattle.st_lexer.specs.declared.direct.Direct.{Direct}
use Rattle.st_lexer.specs.declared.number.Base.TheVariants.{Ten}
use Rattle.st_lexer.specs.declared.number.Number.{Number}

-- Each place is in an area, in the data block whose number is written or in none, and comes after `before` bytes of
-- its direct variable.

-- a number that is kept in 32 bits; one above 4,294,967,295 is kept as that number
abbrev pub clamped_value : Number → ℕ
clamped_value number = min number.value (2 ^ 32 - 1)

-- the direct variable of a bit, `%IX0.7`; its text has `before` bytes, the byte's number, a point and
-- the bit's number
abbrev pub bit_variable : AreaName → Option ℕ → ℕ → Number → Number → Direct
bit_variable area block before byte bit =
    record {
      area = area;
      block = block;
      width = Bit;
      byte = clamped_value byte;
      bit = clamped_value bit;
      size = before + byte.size + 1 + bit.size;
    }

-- the direct variable of a byte, a word or a double word, `%MW10`, with no bit number
abbrev pub whole_variable : AreaName → Option ℕ → Width → ℕ → Number → Direct
whole_variable area block width before byte =
    record { area = area; block = block; width = width; byte = clamped_value byte; bit = 0; size = before + byte.size }

-- the bit of a byte whose number was read: a point and the number of the bit must follow it
abbrev pub bit_of_byte : AreaName → Option ℕ → ℕ → Number → List ℕ → Option Direct
bit_of_byte area block before byte rest =
    if begins_with 46 rest then option_map (bit_variable area block before byte) (number_to Ten (drop 1 rest)) else None

-- the bit after the number of its byte; none where no number comes
abbrev pub bit_behind : AreaName → Option ℕ → ℕ → Option Number → List ℕ → Option Direct
bit_behind area block before None bytes = None
bit_behind area block before (Some byte) bytes = bit_of_byte area block before byte (drop byte.size bytes)

-- a bit after the letters of an area: the number of a byte, a point and that of a bit
abbrev pub bit_at : AreaName → Option ℕ → ℕ → List ℕ → Option Direct
bit_at area block before bytes = bit_behind area block before (number_to Ten bytes) bytes

-- a place of a byte or more after the letters of an area: the number of its first byte
abbrev pub whole_at : AreaName → Option ℕ → Width → ℕ → List ℕ → Option Direct
whole_at area block width before bytes = option_map (whole_variable area block width before) (number_to Ten bytes)

-- the letter of a width
abbrev pub width_named : ℕ → Option Width
width_named letter =
    if letter == 88 then Some Bit
    else if letter == 66 then Some Byte
    else if letter == 87 then Some Word
    else if letter == 68 then Some Dword
    else None

-- the numbers of a place of a width; none after a letter that is no width
abbrev pub place_at : AreaName → Option ℕ → Option Width → ℕ → List ℕ → Option Direct
place_at area block None before bytes = None
place_at area block (Some Bit) before bytes = bit_at area block before bytes
place_at area block (Some width) before bytes = whole_at area block width before bytes

-- the letter of a width, and the numbers of the place
abbrev pub lettered_at : AreaName → Option ℕ → ℕ → List ℕ → Option Direct
lettered_at area block before [] = None
lettered_at area block before (letter ∷ rest) =
    place_at area block (width_named (to_ascii_uppercase letter)) (before + 1) rest

-- a bit in I, Q, M or L without the letter X, which may be left out there
abbrev pub unlettered_at : AreaName → List ℕ → Option Direct
unlettered_at area bytes =
    if begins_with_digit Ten bytes then bit_at area None 2 bytes else lettered_at area None 2 bytes

-- the text begins with `.DB`, in any case
abbrev pub begins_with_block : List ℕ → Bool
begins_with_block (point ∷ d ∷ b ∷ rest) = point == 46 && to_ascii_uppercase d == 68 && to_ascii_uppercase b == 66
begins_with_block bytes = false

-- the place after the number of a data block
abbrev pub numbered_at : Number → List ℕ → Option Direct
numbered_at block rest =
    if begins_with_block rest then lettered_at Db (Some (clamped_value block)) (block.size + 6) (drop 3 rest) else None

-- a place in the data block whose number is written, or in the one that the DB register names
abbrev pub block_at : Option Number → List ℕ → Option Direct
block_at None bytes = lettered_at Db None 3 bytes
block_at (Some block) bytes = numbered_at block (drop block.size bytes)

-- a place after `%D`
abbrev pub data_at : List ℕ → Option Direct
data_at [] = None
data_at (letter ∷ rest) =
    if to_ascii_uppercase letter == 66 then block_at (number_to Ten rest) rest
    else if to_ascii_uppercase letter == 73 then lettered_at Di None 3 rest
    else None

-- the letter of an area without data blocks
abbrev pub area_named : ℕ → Option AreaName
area_named letter =
    if letter == 73 then Some I
    else if letter == 81 then Some Q
    else if letter == 77 then Some M
    else if letter == 76 then Some L
    else None

-- a direct variable by the letter after `%`: I, Q, M and L name their area, D begins a data block's
abbrev pub area_at : Option AreaName → ℕ → List ℕ → Option Direct
area_at (Some area) letter bytes = unlettered_at area bytes
area_at None letter bytes = if letter == 68 then data_at bytes else None

-- the longest direct variable at the front of a text
abbrev pub direct_at : List ℕ → Option Direct
direct_at [] = None
direct_at (percent ∷ []) = None
direct_at (percent ∷ letter ∷ rest) =
    if percent == 37 then area_at (area_named (to_ascii_uppercase letter)) (to_ascii_uppercase letter) rest else None

-- the place that the text of a direct variable's token names
abbrev pub direct_of : List ℕ → Option Direct
direct_of text = direct_at text

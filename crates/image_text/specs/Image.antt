-- Images, and the memory they give. What each line of an image says, and the memory after it or why it is refused.
-- Held against: this project's own images.
use Rattle.std.specs.Prelude.{ℕ, ◌+◌, ◌-◌, ◌*◌, Bool, true, false, not, ◌==◌, ◌&&◌, ◌||◌, nat_le, if◌then◌else◌, List, [], ◌∷◌, length, take, slice_index, Option, Some, None, option_map, Result, Ok, Err}
use Rattle.std.specs.List.{slice_split, list_any, list_all}
use Rattle.std.specs.Str.Lines.{strip_carriage_return}
use Rattle.s7_base.specs.Tokens.{line_after}
use Rattle.s7_base.specs.declared.reason.Line.{Line}
use Rattle.digit_texts.specs.Digits.{hex_value, is_digit, written_from}
use Rattle.memory_areas.specs.Access.{and_then, bytes_there}
use Rattle.memory_areas.specs.Areas.{Contents, bytes_of, with_bytes, overwrite, fresh}
use Rattle.memory_areas.specs.declared.data_block.DataBlock.{DataBlock}
use Rattle.memory_areas.specs.declared.place.Area.{Area}
use Rattle.memory_areas.specs.declared.place.Area.TheVariants as area
use Rattle.image_text.specs.declared.refusal.ImageRefusal.{ImageRefusal}
use Rattle.image_text.specs.declared.refusal.ImageRefusal.TheVariants.{BadLine, BadByte, OutsideArea}

-- Numbers and areas

-- one or more digits, the first of several no zero
abbrev pub is_number : List ℕ → Bool
is_number [] = false
is_number (d ∷ []) = is_digit d
is_number (d ∷ e ∷ rest) = not (d == 48) && list_all is_digit (d ∷ e ∷ rest)

-- the number that a word writes, which has no leading zeros
abbrev pub image_number : List ℕ → Option ℕ
image_number word = if is_number word then Some (written_from 0 word) else None

-- the area of a letter: I, Q or M
abbrev pub area_of_letter : ℕ → Option Area
area_of_letter b =
    if b == 73 then Some area.I else if b == 81 then Some area.Q else if b == 77 then Some area.M else None

-- the area of a word: a letter, or D, B and the number of a data block
abbrev pub area_of : List ℕ → Option Area
area_of [] = None
area_of (b ∷ []) = area_of_letter b
area_of (b ∷ c ∷ digits) = if b == 68 && c == 66 then option_map area.Db (image_number digits) else None

-- the number before a colon
abbrev pub byte_number : List ℕ → Option ℕ
byte_number word = if slice_index word (length word - 1) == 58 then image_number (take (length word - 1) word) else None

-- Fields

-- the byte of its high and its low digit, where both are digits
abbrev pub two_digits : Option ℕ → Option ℕ → Option ℕ
two_digits None low = None
two_digits (Some high) None = None
two_digits (Some high) (Some low) = Some (16 * high + low)

-- the byte that a field writes with exactly two digits
abbrev pub byte_of : List ℕ → Option ℕ
byte_of [] = None
byte_of (a ∷ []) = None
byte_of (a ∷ b ∷ []) = two_digits (hex_value a) (hex_value b)
byte_of (a ∷ b ∷ c ∷ rest) = None

-- a byte before others, where all of these are bytes
abbrev pub before_all : Option ℕ → Option (List ℕ) → Option (List ℕ)
before_all None values = None
before_all (Some value) None = None
before_all (Some value) (Some values) = Some (value ∷ values)

-- the bytes of some fields, where each writes one
abbrev pub values_of : List (List ℕ) → Option (List ℕ)
values_of [] = Some []
values_of (field ∷ more) = before_all (byte_of field) (values_of more)

-- The form of a line

-- a byte is a space or TAB
abbrev pub is_blank : ℕ → Bool
is_blank b = b == 32 || b == 9

-- a word has no character
abbrev pub is_empty : List ℕ → Bool
is_empty word = length word == 0

-- a line of the form AREA N: FIELD FIELD ..
pub record AreaLine : Type 0 where
  pub area : Area
  pub byte : ℕ
  pub fields : List (List ℕ)

-- the line of these parts, where each exists and no field is empty
abbrev pub line_of_parts : Option Area → Option ℕ → List (List ℕ) → Option AreaLine
line_of_parts None byte fields = None
line_of_parts (Some a) None fields = None
line_of_parts (Some a) (Some n) fields =
    if list_any is_empty fields then None else Some (record { area = a; byte = n; fields = fields })

-- the form of a line that is cut at each blank: an area, a byte number, and one field or more
abbrev pub area_line_of : List (List ℕ) → Option AreaLine
area_line_of [] = None
area_line_of (name ∷ []) = None
area_line_of (name ∷ number ∷ []) = None
area_line_of (name ∷ number ∷ field ∷ more) = line_of_parts (area_of name) (byte_number number) (field ∷ more)

-- What a line says

-- what a line says: nothing, or bytes from a byte of an area on; or it has another form, or a field that is no byte
pub data Said : Type 0 where
  nothing : Said
  misshapen : Said
  miswritten : Said
  bytes_at : Area → ℕ → List ℕ → Said

-- a line is empty, or it begins with `#`
abbrev pub says_nothing : List ℕ → Bool
says_nothing [] = true
says_nothing (b ∷ rest) = b == 35

-- what a line of the right form says, by the bytes of its fields
abbrev pub values_said : Area → ℕ → Option (List ℕ) → Said
values_said a byte None = miswritten
values_said a byte (Some values) = bytes_at a byte values

-- what a line says by its form
abbrev pub area_line_said : Option AreaLine → Said
area_line_said None = misshapen
area_line_said (Some s) = values_said s.area s.byte (values_of s.fields)

-- what a line says, without its line end
abbrev pub line_said : List ℕ → Said
line_said line = if says_nothing line then nothing else area_line_said (area_line_of (slice_split is_blank line))

-- The effect of a line on a memory

-- an area exists, and has this many bytes from a byte on
abbrev pub has_room : Option (List ℕ) → ℕ → ℕ → Bool
has_room None byte count = false
has_room (Some bytes) byte count = nat_le (byte + count) (length bytes)

-- the memory with these bytes from a byte of an area on, and all else as it was
abbrev pub with_bytes_from : Area → ℕ → List ℕ → Contents → Contents
with_bytes_from a byte values m = with_bytes a (overwrite (bytes_there (Some a) m) byte values) m

-- the memory after a line, or why the line is refused
abbrev pub line_on : Line → Said → Contents → Result Contents ImageRefusal
line_on line nothing m = Ok m
line_on line misshapen m = Err (BadLine line)
line_on line miswritten m = Err (BadByte line)
line_on line (bytes_at a byte values) m =
    if has_room (bytes_of a m) byte (length values) then Ok (with_bytes_from a byte values m)
    else Err (OutsideArea line)

-- the memory after lines, the first of them at a number, or the first refusal
abbrev pub lines_on : ℕ → List (List ℕ) → Contents → Result Contents ImageRefusal
lines_on line [] m = Ok m
lines_on line (text ∷ more) m =
    and_then (line_on (record { 0 = line }) (line_said (strip_carriage_return text)) m)
    (λ n. lines_on (line_after line) more n)

-- the memory of an image, which begins as a new one with these data blocks
abbrev pub image_of : List ℕ → List DataBlock → Result Contents ImageRefusal
image_of bytes blocks = lines_on 1 (slice_split (λ b. b == 10) bytes) (fresh blocks)

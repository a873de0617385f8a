-- What the argument CALL means. It is the block that is called, the instance of a function block and the actuals of a
-- function, as in `OB1`, `FC10(MW4,M0.0)` and `FB1/DB5`. Letters count in any case.
-- Held against: this project's own commands.
use Rattle.std.specs.Prelude.{ℕ, ◌-◌, Bool, false, ◌==◌, ◌&&◌, nat_le, if◌then◌else◌, List, [], ◌∷◌, length, take, drop, codes, Option, Some, None, option_map, option_and_then}
use Rattle.std.specs.Char.{to_ascii_uppercase}
use Rattle.std.specs.List.{prefix_len}
use Rattle.std.specs.Option.{option_or}
use Rattle.std.specs.Str.{bytes_eq}
use Rattle.digit_texts.specs.Digits.{number_up_to}
use Rattle.memory_areas.specs.declared.place.Area.{Area}
use Rattle.memory_areas.specs.declared.place.Area.TheVariants as area
use Rattle.memory_areas.specs.declared.place.Place.{Place}
use Rattle.s7_base.specs.Tokens.{is_between, is_word_byte}
use Rattle.s7_base.specs.declared.word.Width.{Width}
use Rattle.s7_base.specs.declared.word.Width.TheVariants as width
use Rattle.memory_areas.specs.declared.call.BlockName.{BlockName}
use Rattle.memory_areas.specs.declared.call.BlockName.TheVariants.{Ob, Fc, Fb}
use Rattle.memory_areas.specs.declared.call.Call.{Call}

-- Parts of a word

-- a decimal number of one digit to a greatest count, and of a value of `most` at most
abbrev pub number_in : ℕ → ℕ → List ℕ → Option ℕ
number_in places most digits = if nat_le (length digits) places then number_up_to most digits else None

-- the number of a block or of a byte
abbrev pub short_number : List ℕ → Option ℕ
short_number digits = number_in 5 65535 digits

-- a text begins with a letter, in either case
abbrev pub begins_with_letter : ℕ → List ℕ → Bool
begins_with_letter letter [] = false
begins_with_letter letter (first ∷ rest) = to_ascii_uppercase first == letter

-- the rest of a text after letters with which it begins, in any case
abbrev pub behind : List ℕ → List ℕ → Option (List ℕ)
behind [] text = Some text
behind (letter ∷ letters) text = if begins_with_letter letter text then behind letters (drop 1 text) else None

-- the number after letters
abbrev pub number_behind : List ℕ → List ℕ → Option ℕ
number_behind letters text = option_and_then short_number (behind letters text)

-- how many letters and digits a text begins with
abbrev pub front_size : List ℕ → ℕ
front_size text = prefix_len is_word_byte text

-- the letters and digits that a text begins with
abbrev pub front : List ℕ → List ℕ
front text = take (front_size text) text

-- the rest of a text after the letters and digits that it begins with
abbrev pub back : List ℕ → List ℕ
back text = drop (front_size text) text

-- Actuals

-- the area of a letter
abbrev pub letter_area : ℕ → Option Area
letter_area letter =
    if letter == 73 then Some area.I
    else if letter == 81 then Some area.Q
    else if letter == 77 then Some area.M
    else None

-- the width of a letter
abbrev pub letter_width : ℕ → Option Width
letter_width letter =
    if letter == 66 then Some width.Byte
    else if letter == 87 then Some width.Word
    else if letter == 68 then Some width.Dword
    else None

-- a point and a digit from 0 to 7
abbrev pub bit_number : List ℕ → Option ℕ
bit_number [] = None
bit_number (point ∷ []) = None
bit_number (point ∷ digit ∷ []) = if point == 46 && is_between 48 55 digit then Some (digit - 48) else None
bit_number (point ∷ digit ∷ more ∷ rest) = None

-- `0.7`: a bit of an area
abbrev pub bit_actual : Area → List ℕ → Option (Place × Width)
bit_actual area text =
    option_and_then
    (λ byte. option_map (λ bit. (record { area = area; byte = byte; bit = bit }, width.Bit)) (bit_number (back text)))
    (short_number (front text))

-- `B4`, `W4` or `D4`: a byte or more of an area
abbrev pub bytes_actual : Area → List ℕ → Option (Place × Width)
bytes_actual area [] = None
bytes_actual area (letter ∷ digits) =
    option_and_then
    (λ width. option_map (λ byte. (record { area = area; byte = byte; bit = 0 }, width)) (short_number digits))
    (letter_width (to_ascii_uppercase letter))

-- `I0.7` or `MW4`
abbrev pub area_actual : List ℕ → Option (Place × Width)
area_actual [] = None
area_actual (letter ∷ text) =
    option_and_then (λ area. option_or (bit_actual area text) (bytes_actual area text))
    (letter_area (to_ascii_uppercase letter))

-- `.DBX0.7` or `.DBW4`, after the name of a data block
abbrev pub part_of : Area → List ℕ → Option (Place × Width)
part_of area text =
    option_or (option_and_then (bit_actual area) (behind (codes ".DBX") text))
    (option_and_then (bytes_actual area) (behind (codes ".DB") text))

-- `DB5.DBX0.7` or `DB5.DBW4`
abbrev pub block_actual : List ℕ → Option (Place × Width)
block_actual text =
    option_and_then (λ number. part_of (area.Db number) (back text)) (number_behind (codes "DB") (front text))

-- an actual: its place and its width
abbrev pub actual_of : List ℕ → Option (Place × Width)
actual_of text = option_or (area_actual text) (block_actual text)

-- the first of some pieces with one more byte before it; the others stay
abbrev pub with_byte : ℕ → List (List ℕ) → List (List ℕ)
with_byte b [] = (b ∷ []) ∷ []
with_byte b (piece ∷ more) = (b ∷ piece) ∷ more

-- a text cut at each of its commas
abbrev pub pieces : List ℕ → List (List ℕ)
pieces [] = [] ∷ []
pieces (b ∷ rest) = if b == 44 then [] ∷ pieces rest else with_byte b (pieces rest)

-- the actuals that pieces are, if each is one
abbrev pub actuals_in : List (List ℕ) → Option (List (Place × Width))
actuals_in [] = Some []
actuals_in (piece ∷ more) =
    option_and_then (λ actual. option_map (λ actuals. actual ∷ actuals) (actuals_in more)) (actual_of piece)

-- nothing, or actuals in brackets
abbrev pub actuals_behind : List ℕ → Option (List (Place × Width))
actuals_behind [] = Some []
actuals_behind (first ∷ rest) =
    let size = length rest - 1 in
    if first == 40 && bytes_eq (drop size rest) (codes ")") then actuals_in (pieces (take size rest)) else None

-- Calls

-- `OB1`, `FC10` or `FB1`
abbrev pub block_meant : List ℕ → Option BlockName
block_meant word =
    option_or (option_map Ob (number_behind (codes "OB") word))
    (option_or (option_map Fc (number_behind (codes "FC") word)) (option_map Fb (number_behind (codes "FB") word)))

-- the call of a block by what follows its name: nothing, actuals or `/DB5`
abbrev pub call_with : BlockName → List ℕ → Option Call
call_with (Ob number) [] = Some (record { block = Ob number; instance = 0; actuals = [] })
call_with (Ob number) (first ∷ rest) = None
call_with (Fc number) text =
    option_map (λ actuals. record { block = Fc number; instance = 0; actuals = actuals }) (actuals_behind text)
call_with (Fb number) text =
    option_map (λ instance. record { block = Fb number; instance = instance; actuals = [] })
    (number_behind (codes "/DB") text)

-- the call that the argument CALL means, if it is one
abbrev pub call_meant : List ℕ → Option Call
call_meant word = option_and_then (λ block. call_with block (back word)) (block_meant (front word))

-- The symbol table. Its lines, and the addresses that they give.
-- Held against: this project's own source form.
use Rattle.std.specs.Prelude.{ℕ, ◌-◌, Bool, true, ◌==◌, ◌&&◌, ◌||◌, if◌then◌else◌, List, [], ◌∷◌, length, take, drop, reverse, codes, Option, Some, None, option_map}
use Rattle.std.specs.Char.{to_ascii_uppercase}
use Rattle.std.specs.List.{prefix_len}
use Rattle.memory_areas.specs.declared.place.AreaName.{AreaName}
use Rattle.memory_areas.specs.declared.place.AreaName.TheVariants as area
use Rattle.s7_base.specs.Tokens.{after_blanks, is_between, is_blank, is_same_word}
use Rattle.s7_base.specs.declared.reason.Line.{Line}
use Rattle.s7_base.specs.declared.token.Token.{Token}
use Rattle.s7_base.specs.declared.word.Width.{Width}
use Rattle.s7_base.specs.declared.word.Width.TheVariants as width
use Rattle.stl_grammar.specs.Headings.{is_behind, is_on}
use Rattle.stl_statement_grammar.specs.BlockNames.{kind_word}
use Rattle.digit_texts.specs.Digits.{digits_size, kept_number}
use Rattle.stl_statement_grammar.specs.Words.{is_sign, is_word, is_quoted_kind}
use Rattle.stl_tree.specs.declared.raw.BlockKind.{BlockKind}
use Rattle.stl_tree.specs.declared.raw.BlockKind.TheVariants as block
use Rattle.stl_tree.specs.declared.raw.SymbolAddress.{SymbolAddress}
use Rattle.stl_tree.specs.declared.raw.SymbolAddress.TheVariants as address
use Rattle.stl_tree.specs.declared.raw.SymbolLine.{SymbolLine}

-- a field without the blanks at its ends
abbrev pub trimmed_field : List ℕ → List ℕ
trimmed_field field = let text = after_blanks field in take (length text - prefix_len is_blank (reverse text)) text

-- Addresses

-- a byte is a letter
abbrev pub is_letter : ℕ → Bool
is_letter b = is_between 65 90 b || is_between 97 122 b

-- the kind of a block, by the letters before its number
abbrev pub kind_of : List ℕ → Option BlockKind
kind_of letters =
    if is_same_word letters (kind_word block.Ob) then Some block.Ob
    else if is_same_word letters (kind_word block.Fc) then Some block.Fc
    else if is_same_word letters (kind_word block.Fb) then Some block.Fb
    else if is_same_word letters (kind_word block.Db) then Some block.Db
    else None

-- the area of an address, by its letter
abbrev pub area_by : ℕ → Option AreaName
area_by letter =
    if letter == 73 then Some area.I
    else if letter == 81 then Some area.Q
    else if letter == 77 then Some area.M
    else None

-- the width of an address, by the letters after that of the area
abbrev pub width_by : List ℕ → Option Width
width_by [] = Some width.Bit
width_by (letter ∷ more) =
    if is_same_word (letter ∷ more) (codes "B") then Some width.Byte
    else if is_same_word (letter ∷ more) (codes "W") then Some width.Word
    else if is_same_word (letter ∷ more) (codes "D") then Some width.Dword
    else None

-- a place of the symbol table, by its width, its byte and its bit
abbrev pub place_of : AreaName → Width → ℕ → ℕ → SymbolAddress
place_of name w byte bit = address.At (record { block = None; area = name; width = w; byte = byte; bit = bit })

-- an address, where there is one, or else another one
abbrev pub or_other : Option SymbolAddress → SymbolAddress
or_other None = address.Other
or_other (Some its) = its

-- the number of a bit after a point
abbrev pub bit_behind : List ℕ → Option ℕ
bit_behind [] = None
bit_behind (point ∷ digits) = if point == 46 then kept_number digits else None

-- the address of a bit, by its byte and what follows it
abbrev pub bit_with : AreaName → List ℕ → Option ℕ → Option SymbolAddress
bit_with name rest None = None
bit_with name rest (Some byte) = option_map (λ bit. place_of name width.Bit byte bit) (bit_behind rest)

-- the address of a bit, by its area and what follows the letter of the area
abbrev pub bit_address : AreaName → List ℕ → Option SymbolAddress
bit_address name text = let size = digits_size text in bit_with name (drop size text) (kept_number (take size text))

-- the address of a place, by its area, its width, and what follows their letters
abbrev pub place_address : Option AreaName → Option Width → List ℕ → Option SymbolAddress
place_address None w text = None
place_address (Some name) None text = None
place_address (Some name) (Some width.Bit) text = bit_address name text
place_address (Some name) (Some w) text = option_map (λ byte. place_of name w byte 0) (kept_number text)

-- an address that is no block, by its letters, and what follows them and the blanks after them
abbrev pub address_by : List ℕ → List ℕ → Option SymbolAddress
address_by [] text = None
address_by (letter ∷ more) text = place_address (area_by (to_ascii_uppercase letter)) (width_by more) text

-- an address by its letters and what follows them, where the letters may be those of a kind of blocks
abbrev pub named_address : Option BlockKind → List ℕ → List ℕ → Option SymbolAddress
named_address None letters text = address_by letters text
named_address (Some kind) letters text = option_map (address.Block kind) (kept_number text)

-- the address of a field: `I 0.0`, `MW5` or `DB 7`, or another one
abbrev pub address_of : List ℕ → SymbolAddress
address_of field =
    let size = prefix_len is_letter field in
    or_other (named_address (kind_of (take size field)) (take size field) (after_blanks (drop size field)))

-- Lines of the table

-- a comma and a field follow on the line
abbrev pub is_next : Line → Token → Token → Bool
is_next line comma field =
    is_sign (codes ",") comma && is_on line comma && is_quoted_kind field.kind && is_on line field

-- a line of the table, by its name and its address
abbrev pub symbol_with : Token → SymbolAddress → SymbolLine
symbol_with name its = record { name = trimmed_field name.text; line = name.line; address = its }

-- a line of the table, by its fields
abbrev pub symbol_line : Token → Token → SymbolLine
symbol_line name its = symbol_with name (address_of (trimmed_field its.text))

-- four fields with commas between them, on one line; the last two are not used
abbrev pub symbol_at : Token → List Token → Option SymbolLine
symbol_at name (a ∷ its ∷ b ∷ type ∷ c ∷ comment ∷ rest) =
    if is_quoted_kind name.kind && is_next name.line a its && is_next name.line b type && is_next name.line c comment
    then Some (symbol_line name its)
    else None
symbol_at name fewer = None

-- nothing more follows on the line
abbrev pub ends_line : Line → List Token → Bool
ends_line line [] = true
ends_line line (next ∷ rest) = is_behind line next

-- the end word of the table is on a line of its own here
abbrev pub ends_table : Line → Token → List Token → Bool
ends_table line first rest =
    is_behind line first && is_word (codes "END_SYMBOL_TABLE") first && ends_line first.line rest

-- a line of the table after another line
abbrev pub symbol_behind : Line → Token → List Token → Option SymbolLine
symbol_behind line first rest = if is_behind line first then symbol_at first rest else None

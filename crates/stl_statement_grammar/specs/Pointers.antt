-- Pointers as they are written. Constants `P#M 10.3` and `P#10.3`, and operands that are found by a pointer, as
-- `MW [MD 4]`, `M [AR1,P#0.6]` and `W [AR1,P#2.0]`. Blanks are free inside the brackets, and before them.
-- Held against: the manual's chapter 'Load and Transfer'.
use Rattle.std.specs.Prelude.{ℕ, ◌+◌, ◌*◌, ◌^◌, Bool, ◌==◌, ◌&&◌, nat_le, if◌then◌else◌, List, [], ◌∷◌, codes, Option, Some, None, is_none}
use Rattle.std.specs.List.{find}
use Rattle.memory_areas.specs.Access.{bytes_wide, code_of}
use Rattle.memory_areas.specs.declared.place.AreaName.{AreaName}
use Rattle.s7_base.specs.declared.token.Token.{Token}
use Rattle.s7_base.specs.declared.word.Width.{Width}
use Rattle.s7_base.specs.declared.word.Width.TheVariants as width
use Rattle.stl_statement_grammar.specs.Constants.{begins_glued}
use Rattle.stl_statement_grammar.specs.Paths.{number_word}
use Rattle.stl_statement_grammar.specs.Places.{PlaceWord, bit_at, place_at, place_words}
use Rattle.stl_statement_grammar.specs.Readers.{and_then, fitting, further, or_else, read_as}
use Rattle.stl_statement_grammar.specs.Words.{is_joined, is_sign, is_word}
use Rattle.stl_statement_grammar.specs.declared.mnemonic.Read.{Read}
use Rattle.stl_statement_grammar.specs.declared.mnemonic.Read.TheVariants.{Fits, No}
use Rattle.stl_tree.specs.Accepted.{may_hold_pointers}
use Rattle.stl_tree.specs.declared.program.Ar.{Ar}
use Rattle.stl_tree.specs.declared.program.Ar.TheVariants as ar
use Rattle.stl_tree.specs.declared.raw.RawOperand.{RawOperand}
use Rattle.stl_tree.specs.declared.raw.RawOperand.TheVariants.{ByMemory, ByRegister, Crossing}
use Rattle.stl_tree.specs.declared.raw.RawPlace.{RawPlace}
use Rattle.stl_tree.specs.declared.raw.RawPointer.{RawPointer}

-- Constants

abbrev pub pointer : ℕ → ℕ → ℕ → RawPointer
pointer code byte bit = record { code = code; byte = byte; bit = bit }

-- byte and bit are ones that a pointer has: a byte up to 65,535, a bit up to 7
abbrev pub is_in_reach : RawPointer → Bool
is_in_reach p = nat_le p.byte 65535 && nat_le p.bit 7

-- the pattern of an offset: byte and bit in their places
abbrev pub offset_of : RawPointer → ℕ
offset_of p = p.byte * 2 ^ 3 + p.bit

-- the pattern of a pointer: area code, byte and bit in their places
abbrev pub value_of : RawPointer → ℕ
value_of p = p.code * 2 ^ 24 + offset_of p

-- an offset has no area: `10.3`
abbrev pub offset_by : Option ℕ → Read ℕ → Read RawPointer
offset_by (Some byte) (Fits bit size) = Fits (pointer 0 byte bit) (size + 1)
offset_by byte bit = No

abbrev pub offset_behind : List Token → Read RawPointer
offset_behind [] = No
offset_behind (byte ∷ rest) = offset_by (number_word byte) (bit_at rest)

-- a bit of an area, which has no data block named before it: `M 10.3`
abbrev pub pointer_by : Option ℕ → Width → AreaName → ℕ → ℕ → Option RawPointer
pointer_by None width.Bit name byte bit = Some (pointer (code_of name) byte bit)
pointer_by block w name byte bit = None

abbrev pub pointer_to : RawPlace → Option RawPointer
pointer_to place = pointer_by place.block place.width place.area place.byte place.bit

abbrev pub pointer_with : Read RawPlace → Read RawPointer
pointer_with (Fits place size) = fitting size (pointer_to place)
pointer_with other = No

abbrev pub pointer_behind : List Token → Read RawPointer
pointer_behind tokens = or_else (pointer_with (place_at tokens)) (offset_behind tokens)

-- `P#`, and a pointer or an offset with no blank before it
abbrev pub behind_hash : (List Token → Read RawPointer) → List Token → Read RawPointer
behind_hash read (word ∷ hash ∷ rest) =
    if is_word (codes "P") word && is_joined (codes "#") hash && begins_glued rest then further 2 (read rest) else No
behind_hash read fewer = No

-- a pointer constant
abbrev pub pointer_at : List Token → Read RawPointer
pointer_at tokens = behind_hash pointer_behind tokens

-- an offset: `P#10.3`
abbrev pub offset_at : List Token → Read RawPointer
offset_at tokens = behind_hash offset_behind tokens

-- Brackets

-- an operand, if the end of its bracket follows
abbrev pub closing : RawOperand → List Token → Read RawOperand
closing operand [] = No
closing operand (first ∷ rest) = if is_sign (codes "]") first then Fits operand 1 else No

abbrev pub with_closing : List Token → Read RawOperand → Read RawOperand
with_closing tokens read = and_then tokens read closing

-- a pointer, or the number of a data block, may be stored at the place: in M, L or an open data block, and of this
-- width
abbrev pub is_held : Width → RawPlace → Bool
is_held w place = is_none place.block && may_hold_pointers place.area && bytes_wide place.width == bytes_wide w

abbrev pub held_by : (RawPlace → RawOperand) → Width → Read RawPlace → Read RawOperand
held_by make w (Fits place size) = if is_held w place then Fits (make place) size else No
held_by make w other = No

-- a place where a pointer, or the number of a data block, may be stored, and the end of its bracket: `MD 4]`
abbrev pub memory_at : (RawPlace → RawOperand) → Width → List Token → Read RawOperand
memory_at make w tokens = with_closing tokens (held_by make w (place_at tokens))

-- an address register
abbrev pub register_named : Token → Option Ar
register_named word =
    if is_word (codes "AR1") word then Some ar.One else if is_word (codes "AR2") word then Some ar.Two else None

abbrev pub register_with : (Ar → RawPointer → RawOperand) → Option Ar → Token → List Token → Read RawOperand
register_with make None comma rest = No
register_with make (Some r) comma rest =
    if is_sign (codes ",") comma then further 2 (with_closing rest (read_as (make r) (offset_at rest))) else No

-- a register, an offset and the end of their bracket: `AR1,P#0.6]`
abbrev pub register_at : (Ar → RawPointer → RawOperand) → List Token → Read RawOperand
register_at make [] = No
register_at make (a ∷ []) = No
register_at make (word ∷ comma ∷ rest) = register_with make (register_named word) comma rest

-- Operands

-- a token is the word of an area and a width, without a number: `MW`
abbrev pub has_word : Token → PlaceWord → Bool
has_word token row = is_word row.word token

-- an operand after the word of its area and width: a pointer in a bracket
abbrev pub indirect_by : Option PlaceWord → List Token → Read RawOperand
indirect_by None tokens = No
indirect_by (Some row) tokens =
    or_else (memory_at (ByMemory row.area row.width) width.Dword tokens)
    (register_at (ByRegister row.area row.width) tokens)

-- an operand that names its area
abbrev pub indirect_at : List Token → Read RawOperand
indirect_at [] = No
indirect_at (a ∷ []) = No
indirect_at (word ∷ before ∷ rest) =
    if is_sign (codes "[") before then further 2 (indirect_by (find (has_word word) place_words) rest) else No

-- the word of a width before a pointer that has its area
abbrev pub width_named : Token → Option Width
width_named word =
    if is_word (codes "B") word then Some width.Byte
    else if is_word (codes "W") word then Some width.Word
    else if is_word (codes "D") word then Some width.Dword
    else None

abbrev pub crossing_by : Option Width → List Token → Read RawOperand
crossing_by None tokens = No
crossing_by (Some w) [] = No
crossing_by (Some w) (before ∷ rest) =
    if is_sign (codes "[") before then further 2 (register_at (Crossing w) rest) else No

-- an operand whose area is in its pointer: a bit, or with its width before the bracket
abbrev pub crossing_at : List Token → Read RawOperand
crossing_at [] = No
crossing_at (first ∷ rest) =
    if is_sign (codes "[") first then further 1 (register_at (Crossing width.Bit) rest)
    else crossing_by (width_named first) rest

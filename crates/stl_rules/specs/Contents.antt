-- Initial contents of declarations. They are given bit by bit, the lowest bit of a byte first.
-- Held against: this project's own layout.
use Rattle.std.specs.Prelude.{ℕ, zero, suc, ◌+◌, ◌-◌, ◌*◌, ◌/◌, ◌%◌, ◌^◌, Bool, false, ◌==◌, if◌then◌else◌, List, [], ◌∷◌, ◌++◌, map, length, get_or, drop, replicate}
use Rattle.std.specs.Int.{next_multiple_of}
use Rattle.std.specs.List.{flat_map, fold}
use Rattle.s7_base.specs.declared.word.Width.{Width}
use Rattle.s7_base.specs.declared.word.Width.TheVariants as width
use Rattle.stl_statement_grammar.specs.Constants.{value_in}
use Rattle.stl_tree.specs.declared.raw.Constant.{Constant}
use Rattle.stl_tree.specs.declared.raw.Declaration.{Declaration, Declaration-F, para-Declaration}
use Rattle.stl_tree.specs.declared.raw.DeclType.{DeclType, para-DeclType}
use Rattle.stl_tree.specs.declared.raw.DeclType.TheOpen as T
use Rattle.stl_tree.specs.declared.raw.InitialItem.{InitialItem}
use Rattle.stl_rules.specs.Extents.{elements_in, extent_of, extent_of_width, width_of}

-- Values

-- the lowest bits of a number, as many as a count says
abbrev pub low_bits : ℕ → ℕ → List Bool
low_bits zero n = []
low_bits (suc count) n = (n % 2 == 1) ∷ low_bits count (n / 2)

-- the bits of a word, the high byte first
abbrev pub word_bits : ℕ → List Bool
word_bits n = low_bits 8 (n / 2 ^ 8) ++ low_bits 8 n

-- the bits of a number of a width, the high word first
abbrev pub number_bits : Width → ℕ → List Bool
number_bits width.Bit n = low_bits 1 n
number_bits width.Byte n = low_bits 8 n
number_bits width.Word n = word_bits n
number_bits width.Dword n = word_bits (n / 2 ^ 16) ++ word_bits n

-- bits that are 0
abbrev pub zeros : ℕ → List Bool
zeros count = replicate count false

-- the bits of the first of some values, or of 0 where there is none
abbrev pub value_bits : Width → List Constant → List Bool
value_bits w [] = zeros (extent_of_width w).bits
value_bits w (c ∷ more) = number_bits w (value_in w c)

-- a list repeated this many times
abbrev pub times : {X : Type 0} → ℕ → List X → List X
times n xs = flat_map (λ ys. ys) (replicate n xs)

-- the values of some items, those in brackets as often as their count says
abbrev pub values_of : List InitialItem → List Constant
values_of items = flat_map (λ (item : InitialItem). times item.count item.values) items

-- Types

-- bits filled up with zeros to a multiple of an alignment
abbrev pub filled_to : ℕ → List Bool → List Bool
filled_to alignment bits = bits ++ zeros (next_multiple_of (length bits) alignment - length bits)

-- a declaration's bits after others
abbrev pub laid_behind : List Bool → Declaration × List Bool → List Bool
laid_behind bits part = filled_to (extent_of part.0.ty).alignment bits ++ part.1

-- the contents of a type with some values: elements one after another, the first ones with the values
abbrev pub bits_step : T.DeclType-F (DeclType × (List Constant → List Bool)) (Declaration × List Bool)
    → List Constant → List Bool
bits_step (T.Elementary e) values = value_bits (width_of e) values
bits_step T.DateAndTime values = zeros 64
bits_step (T.Array bounds element) values =
    filled_to 16 (flat_map (λ (c : Constant). element.1 (c ∷ [])) values
    ++ times (elements_in bounds - length values) (element.1 []))
bits_step (T.Struct parts) values = filled_to 16 (fold laid_behind [] parts)

abbrev pub declared_step : Declaration-F (DeclType × (List Constant → List Bool)) (Declaration × List Bool) → List Bool
declared_step d = d.ty.1 (values_of d.initial)

unfoldable pub type_bits : DeclType → List Constant → List Bool
type_bits = para-DeclType (List Constant → List Bool) (List Bool) bits_step declared_step

unfoldable pub declaration_bits : Declaration → List Bool
declaration_bits = para-Declaration (List Constant → List Bool) (List Bool) bits_step declared_step

-- the bits of declarations one after another, after others
unfoldable pub bits_behind : List Bool → List Declaration → List Bool
bits_behind bits decls = fold laid_behind bits (map (λ (d : Declaration). (d, declaration_bits d)) decls)

-- the bits of sections one after another, after others
abbrev pub bits_of_sections : List Bool → List (List Declaration) → List Bool
bits_of_sections bits sections = fold (λ before section. bits_behind (filled_to 16 before) section) bits sections

-- Bytes

-- one of some bits as a number, 0 past their end
abbrev pub bit_of : List Bool → ℕ → ℕ
bit_of bits at = if get_or bits at false then 1 else 0

-- the number of the first eight bits
abbrev pub byte_of : List Bool → ℕ
byte_of bits =
    bit_of bits 0 + 2 * bit_of bits 1 + 4 * bit_of bits 2 + 8 * bit_of bits 3
    + 16 * bit_of bits 4 + 32 * bit_of bits 5 + 64 * bit_of bits 6 + 128 * bit_of bits 7

-- the first bytes of some bits, as many as a count says
abbrev pub first_bytes : ℕ → List Bool → List ℕ
first_bytes zero bits = []
first_bytes (suc count) bits = byte_of bits ∷ first_bytes count (drop 8 bits)

-- bits as bytes, filled up to an even length
abbrev pub bytes_of : List Bool → List ℕ
bytes_of bits = first_bytes (next_multiple_of (length bits) 16 / 8) (filled_to 16 bits)

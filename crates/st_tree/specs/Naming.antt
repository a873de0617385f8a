-- Names and reserved words. What a name is, which words are reserved, what a name may be given to, and by what names
-- are compared.
-- Held against: IEC 61131-3, 'Identifiers' and 'Keywords'.
use Rattle.std.specs.Prelude.{ℕ, ◌-◌, min, Bool, true, false, not, ◌&&◌, ◌||◌, ◌==◌, nat_eq, if◌then◌else◌, List, [], ◌∷◌, ◌++◌, map, take, drop, length, codes}
use Rattle.std.specs.List.{list_all, list_any, prefix_len}
use Rattle.std.specs.Char.{to_ascii_uppercase}
use Rattle.std.specs.Cmp.Lexicographic.{pointwise}
use Rattle.digit_texts.specs.Digits.{are_digits}
use Rattle.s7_base.specs.Tokens.{is_among, is_between, is_same_word, is_word_byte}
use Rattle.s7_base.specs.declared.register.Reg.{Reg}
use Rattle.s7_base.specs.declared.register.Reg.TheVariants as reg
use Rattle.st_tree.specs.TypeRules.{is_type}
use Rattle.st_tree.specs.Words.{register_word, type_word}
use Rattle.st_tree.specs.declared.expr.StType.{StType}
use Rattle.st_tree.specs.declared.expr.StType.TheVariants as type

-- Letters and digits

-- a letter or `_`
abbrev pub is_letter : ℕ → Bool
is_letter b = is_between 65 90 b || is_between 97 122 b || b == 95

-- a name is two letters in any case, and a number after them
abbrev pub is_numbered : List ℕ → List ℕ → Bool
is_numbered letters name = is_same_word (take 2 name) letters && are_digits (drop 2 name)

-- Words that are reserved

-- the words of declarations and statements, of operators, types and functions
abbrev pub keywords : List (List ℕ)
keywords =
    codes "VAR_GLOBAL" ∷ codes "VAR_IN_OUT" ∷ codes "VAR_TEMP" ∷ codes "END_VAR" ∷ codes "AT" ∷ codes "ARRAY"
    ∷ codes "OF" ∷ codes "PROGRAM" ∷ codes "END_PROGRAM" ∷ codes "FUNCTION" ∷ codes "END_FUNCTION" ∷ codes "IF"
    ∷ codes "THEN" ∷ codes "ELSIF" ∷ codes "ELSE" ∷ codes "END_IF" ∷ codes "CASE" ∷ codes "END_CASE"
    ∷ codes "WHILE" ∷ codes "DO" ∷ codes "END_WHILE" ∷ codes "EXIT" ∷ codes "CONTINUE" ∷ codes "RETURN"
    ∷ codes "TRUE" ∷ codes "FALSE" ∷ codes "NOT" ∷ codes "AND" ∷ codes "XOR" ∷ codes "OR" ∷ codes "MOD"
    ∷ codes "BOOL" ∷ codes "BYTE" ∷ codes "WORD" ∷ codes "DWORD" ∷ codes "INT" ∷ codes "DINT" ∷ codes "LINT"
    ∷ codes "BCD_TO_INT" ∷ codes "BCD_TO_DINT" ∷ codes "AREA_READ_X" ∷ codes "AREA_READ_B" ∷ codes "AREA_READ_W"
    ∷ codes "AREA_READ_D" ∷ codes "SHL" ∷ codes "SHR" ∷ codes "ROL" ∷ codes "ROR" ∷ codes "SEL"
    ∷ codes "AREA_WRITE_X" ∷ codes "AREA_WRITE_B" ∷ codes "AREA_WRITE_W" ∷ codes "AREA_WRITE_D" ∷ []

-- the registers
abbrev pub registers : List Reg
registers =
    reg.Accu1 ∷ reg.Accu2 ∷ reg.Ar1 ∷ reg.Ar2 ∷ reg.DbNo ∷ reg.DiNo ∷ reg.Nfc ∷ reg.Rlo ∷ reg.Sta ∷ reg.Orb
    ∷ reg.Os ∷ reg.Ov ∷ reg.Cc0 ∷ reg.Cc1 ∷ reg.Br ∷ []

-- the variables that need no declaration
abbrev pub register_names : List (List ℕ)
register_names = map register_word registers

-- the types
abbrev pub types : List StType
types = type.Bool ∷ type.Byte ∷ type.Word ∷ type.Dword ∷ type.Int ∷ type.Dint ∷ type.Lint ∷ []

-- there is a conversion from a type to each other one but BOOL
abbrev pub is_conversion : StType → StType → Bool
is_conversion from type.Bool = false
is_conversion from to = not (is_type from to)

-- the name of a conversion, as INT_TO_WORD
abbrev pub conversion_word : StType → StType → List ℕ
conversion_word from to = type_word from ++ codes "_TO_" ++ type_word to

-- a word is the name of a conversion, in any case
abbrev pub is_conversion_word : List ℕ → Bool
is_conversion_word name =
    list_any (λ from. list_any (λ to. is_conversion from to && is_same_word name (conversion_word from to)) types) types

-- a word is no word of the language, in any case
abbrev pub is_unreserved : List ℕ → Bool
is_unreserved name = not (is_among keywords name) && not (is_conversion_word name)

-- a text is a letter or `_`, then letters, digits and `_`, and no word of the language
abbrev pub is_name : List ℕ → Bool
is_name [] = false
is_name (first ∷ more) = is_letter first && list_all is_word_byte more && is_unreserved (first ∷ more)

-- What a name may be given to

-- a name is that of a register variable, in any case
abbrev pub is_register : List ℕ → Bool
is_register name = is_among register_names name

-- a name is `NEXT`, which may name a local
abbrev pub is_next : List ℕ → Bool
is_next name = is_same_word name (codes "NEXT")

-- a name is that of a data block, as DB5
abbrev pub names_block : List ℕ → Bool
names_block name = is_numbered (codes "DB") name

-- a name is OB, FC or FB with a number
abbrev pub is_unit_number : List ℕ → Bool
is_unit_number name = is_numbered (codes "OB") name || is_numbered (codes "FC") name || is_numbered (codes "FB") name

-- a global on I, Q or M and a formal may have the name
abbrev pub is_free : List ℕ → Bool
is_free name = not (is_register name) && not (is_next name) && not (names_block name) && not (is_unit_number name)

-- a local may have the name
abbrev pub may_name_local : List ℕ → Bool
may_name_local name = is_next name || is_free name

-- a unit may have the name
abbrev pub may_name_unit : List ℕ → Bool
may_name_unit name = is_unit_number name || is_free name

-- a global may have the name
abbrev pub may_name_global : List ℕ → Bool
may_name_global name = names_block name || is_free name

-- The keys by which names are compared

-- how many zeros a text begins with
abbrev pub zeros_before : List ℕ → ℕ
zeros_before digits = prefix_len (λ b. b == 48) digits

-- digits without leading zeros
abbrev pub without_zeros : List ℕ → List ℕ
without_zeros digits = drop (min (zeros_before digits) (length digits - 1)) digits

-- the name of a data block without the leading zeros of its number, so that DB5 and DB05 are one name; any other name
-- as it is
abbrev pub with_plain_number : List ℕ → List ℕ
with_plain_number name = if names_block name then 68 ∷ 66 ∷ without_zeros (drop 2 name) else name

-- the key by which a name is compared: its capitals, and data blocks by their number
unfoldable pub key_of : List ℕ → List ℕ
key_of name = with_plain_number (map to_ascii_uppercase name)

-- two keys are equal
abbrev pub is_same : List ℕ → List ℕ → Bool
is_same a b = pointwise nat_eq a b

-- a key is none of some
abbrev pub is_new : List ℕ → List (List ℕ) → Bool
is_new key keys = not (list_any (λ other. is_same key other) keys)

-- no two keys are equal
abbrev pub are_apart : List (List ℕ) → Bool
are_apart [] = true
are_apart (key ∷ keys) = is_new key keys && are_apart keys

-- Pointer constants, offsets and operands that are found by a pointer, form by form.
use Rattle.std.specs.Prelude.{◌≡◌, ℕ, true, List, [], ◌∷◌, ◌++◌, codes, Some}
use Rattle.s7_base.specs.declared.token.Token.{Token}
use Rattle.s7_base.specs.declared.word.Width.{Width}
use Rattle.s7_base.specs.declared.word.Width.TheVariants as width
use Rattle.stl_statement_grammar.specs.ConstantForms.{IsAmong}
use Rattle.stl_statement_grammar.specs.Constants.{begins_glued}
use Rattle.stl_statement_grammar.specs.Paths.{number_word}
use Rattle.stl_statement_grammar.specs.PlaceForms.{IsBitBehind, IsPlace}
use Rattle.stl_statement_grammar.specs.Places.{PlaceWord, place_words}
use Rattle.stl_statement_grammar.specs.Pointers.{has_word, is_held, pointer, pointer_to, register_named, width_named}
use Rattle.stl_statement_grammar.specs.Words.{is_joined, is_sign, is_word}
use Rattle.stl_tree.specs.declared.program.Ar.{Ar}
use Rattle.stl_tree.specs.declared.raw.RawOperand.{RawOperand}
use Rattle.stl_tree.specs.declared.raw.RawOperand.TheVariants.{ByMemory, ByRegister, Crossing}
use Rattle.stl_tree.specs.declared.raw.RawPlace.{RawPlace}
use Rattle.stl_tree.specs.declared.raw.RawPointer.{RawPointer}

-- a byte, a point and a bit: `10.3`
pub data IsOffset : List Token → RawPointer → Type 0 where
  offset : (word : Token) (rest : List Token) (byte bit : ℕ) →
      number_word word ≡ Some byte → IsBitBehind width.Bit rest bit → IsOffset (word ∷ rest) (pointer 0 byte bit)

-- a bit of an area, or an offset: `M 10.3`
pub data IsPointer : List Token → RawPointer → Type 0 where
  in_area : (tokens : List Token) (place : RawPlace) (p : RawPointer) →
      IsPlace tokens place → pointer_to place ≡ Some p → IsPointer tokens p
  alone : (tokens : List Token) (p : RawPointer) → IsOffset tokens p → IsPointer tokens p

-- `P#` before a pointer or an offset, with no blank after the `#`
pub data IsBehindHash (IsSuch : List Token → RawPointer → Type 0) : List Token → RawPointer → Type 0 where
  behind : (word hash : Token) (rest : List Token) (p : RawPointer) →
      is_word (codes "P") word ≡ true → is_joined (codes "#") hash ≡ true → begins_glued rest ≡ true → IsSuch rest p
      → IsBehindHash IsSuch (word ∷ hash ∷ rest) p

-- a pointer constant: `P#M 10.3`
abbrev pub IsPointerConstant : List Token → RawPointer → Type 0
IsPointerConstant tokens p = IsBehindHash IsPointer tokens p

-- an offset as it is written: `P#10.3`
abbrev pub IsOffsetConstant : List Token → RawPointer → Type 0
IsOffsetConstant tokens p = IsBehindHash IsOffset tokens p

-- the tokens after a bracket: a place where a pointer, or the number of a data block, may be stored, and the
-- bracket's end
pub data IsMemory (make : RawPlace → RawOperand) (w : Width) : List Token → RawOperand → Type 0 where
  memory : (front : List Token) (close : Token) (place : RawPlace) →
      IsPlace front place → is_held w place ≡ true → is_sign (codes "]") close ≡ true
      → IsMemory make w (front ++ (close ∷ [])) (make place)

-- the tokens after a bracket: an address register, an offset and the bracket's end
pub data IsRegister (make : Ar → RawPointer → RawOperand) : List Token → RawOperand → Type 0 where
  register : (word comma : Token) (front : List Token) (close : Token) (r : Ar) (p : RawPointer) →
      register_named word ≡ Some r → is_sign (codes ",") comma ≡ true → IsOffsetConstant front p
      → is_sign (codes "]") close ≡ true → IsRegister make (word ∷ comma ∷ (front ++ (close ∷ []))) (make r p)

-- an area and a pointer: `MW [MD 4]`, `MW [AR1,P#2.0]`
pub data IsIndirect : List Token → RawOperand → Type 0 where
  by_memory : (word before : Token) (rest : List Token) (row : PlaceWord) (operand : RawOperand) →
      IsAmong row place_words → has_word word row ≡ true → is_sign (codes "[") before ≡ true
      → IsMemory (ByMemory row.area row.width) width.Dword rest operand → IsIndirect (word ∷ before ∷ rest) operand
  by_register : (word before : Token) (rest : List Token) (row : PlaceWord) (operand : RawOperand) →
      IsAmong row place_words → has_word word row ≡ true → is_sign (codes "[") before ≡ true
      → IsRegister (ByRegister row.area row.width) rest operand → IsIndirect (word ∷ before ∷ rest) operand

-- a pointer that has its area: `[AR1,P#2.0]`, `W [AR1,P#2.0]`
pub data IsCrossing : List Token → RawOperand → Type 0 where
  bit : (before : Token) (rest : List Token) (operand : RawOperand)
      → is_sign (codes "[") before ≡ true → IsRegister (Crossing width.Bit) rest operand
      → IsCrossing (before ∷ rest) operand
  wide : (word before : Token) (rest : List Token) (w : Width) (operand : RawOperand) →
      width_named word ≡ Some w → is_sign (codes "[") before ≡ true → IsRegister (Crossing w) rest operand
      → IsCrossing (word ∷ before ∷ rest) operand

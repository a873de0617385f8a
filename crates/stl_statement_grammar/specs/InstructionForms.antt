-- The instructions, form by form: a mnemonic of the table, and the operand of its shape.
use Rattle.std.specs.Prelude.{◌≡◌, ℕ, ◌≤◌, true, false, List, [], ◌∷◌, drop, codes, Some, None, Ok}
use Rattle.memory_areas.specs.declared.place.AreaName.{AreaName}
use Rattle.s7_base.specs.declared.token.Token.{Token}
use Rattle.status_word.specs.declared.test.Test.{Test}
use Rattle.stl_statement_grammar.specs.CallForms.{IsCalled, IsCalledAlone}
use Rattle.stl_statement_grammar.specs.ConstantForms.{IsAddend, IsAmong, IsConstant, IsUpTo}
use Rattle.stl_statement_grammar.specs.Constants.{plain}
use Rattle.stl_statement_grammar.specs.Mnemonics.{Row, rows, stands_at, mnemonic_at}
use Rattle.stl_statement_grammar.specs.PathForms.{IsNamed}
use Rattle.stl_statement_grammar.specs.PlaceForms.{IsNumbered, IsPlace}
use Rattle.stl_statement_grammar.specs.Places.{opened_area}
use Rattle.stl_statement_grammar.specs.PointerForms.{IsCrossing, IsIndirect, IsMemory, IsOffsetConstant, IsPointerConstant}
use Rattle.stl_statement_grammar.specs.Statements.{first_of, opened_word, opening, opening_by, second_of, operand_form_of, begins_with_label, is_label_word, name_of, size_with, instr_with, instruction_of}
use Rattle.stl_statement_grammar.specs.Words.{is_quoted_kind, is_sign, is_spelled, is_word}
use Rattle.stl_statement_grammar.specs.declared.mnemonic.OperandForm.{OperandForm}
use Rattle.stl_statement_grammar.specs.declared.mnemonic.OperandForm.TheVariants as shape
use Rattle.s7_base.specs.declared.word.Width.TheVariants as width
use Rattle.stl_tree.specs.declared.program.Ar.{Ar}
use Rattle.stl_tree.specs.declared.program.Ar.TheVariants as ar
use Rattle.stl_tree.specs.declared.raw.Constant.{Constant as Literal}
use Rattle.stl_tree.specs.declared.raw.RawInstr.{RawInstr}
use Rattle.stl_tree.specs.declared.raw.RawName.TheVariants.{Name, Number}
use Rattle.stl_tree.specs.declared.raw.RawOperand.{RawOperand}
use Rattle.stl_tree.specs.declared.raw.RawOperand.TheVariants.{At, Constant, DbNo, DiNo, Flag, Label, Missing, OpenDb, OtherAr, Pointer, Stw}
use Rattle.stl_tree.specs.declared.raw.RawPlace.{RawPlace}
use Rattle.stl_tree.specs.declared.raw.RawPointer.{RawPointer}

-- a test of the status word as it is written: `OV`, or `==0` without a blank
pub data IsStatusOperand : List Token → Test → Type 0 where
  flag : (word : Token) (test : Test) →
      second_of test ≡ [] → is_spelled (first_of test) word ≡ true → IsStatusOperand (word ∷ []) test
  compared : (sign zero : Token) (test : Test) →
      second_of test ≡ codes "0" → is_spelled (first_of test) sign ≡ true
      → is_spelled (codes "0") zero ≡ true → zero.glued ≡ true → IsStatusOperand (sign ∷ zero ∷ []) test

-- an operand that is a written place, a name, or an area and a pointer
pub data IsPlaced : List Token → RawOperand → Type 0 where
  at : (tokens : List Token) (place : RawPlace) → IsPlace tokens place → IsPlaced tokens (At place)
  named : (tokens : List Token) (operand : RawOperand) → IsNamed tokens operand → IsPlaced tokens operand
  indirect : (tokens : List Token) (operand : RawOperand) → IsIndirect tokens operand → IsPlaced tokens operand

-- an operand that is a written place, a name, or a pointer, with or without an area
pub data IsLocated : List Token → RawOperand → Type 0 where
  placed : (tokens : List Token) (operand : RawOperand) → IsPlaced tokens operand → IsLocated tokens operand
  crossing : (tokens : List Token) (operand : RawOperand) → IsCrossing tokens operand → IsLocated tokens operand

-- a data block that is opened: `DB 5`, `DI 5`, `"d"`, `DB "d"`, `DI "d"` or `DB [MW 4]`
pub data IsOpened : List Token → RawOperand → Type 0 where
  by_number : (tokens : List Token) (letters : List ℕ) (n : ℕ) (name : AreaName) →
      IsNumbered tokens letters n → opened_area letters ≡ Some name → IsOpened tokens (opening name (Number n))
  by_name : (quoted : Token) → is_quoted_kind quoted.kind ≡ true → IsOpened (quoted ∷ []) (OpenDb (Name quoted.text))
  by_word : (word quoted : Token) (name : AreaName) →
      opened_word word ≡ Some name → is_quoted_kind quoted.kind ≡ true
      → IsOpened (word ∷ quoted ∷ []) (opening name (Name quoted.text))
  by_memory : (word before : Token) (rest : List Token) (name : AreaName) (operand : RawOperand)
      → opened_word word ≡ Some name → is_sign (codes "[") before ≡ true
      → IsMemory (opening_by name) width.Word rest operand
      → IsOpened (word ∷ before ∷ rest) operand

-- an operand of a form
pub data IsOperand : OperandForm → List Token → RawOperand → Type 0 where
  nothing : IsOperand shape.Nothing [] Missing
  bit : (tokens : List Token) (operand : RawOperand) → IsLocated tokens operand → IsOperand shape.Bit tokens operand
  checked_located : (tokens : List Token) (operand : RawOperand) →
      IsLocated tokens operand → IsOperand shape.Checked tokens operand
  status : (tokens : List Token) (test : Test) → IsStatusOperand tokens test
      → IsOperand shape.Checked tokens (Flag test)
  checked : (tokens : List Token) (operand : RawOperand) →
      IsOperand shape.Checked tokens operand → IsOperand shape.CheckedOrNothing tokens operand
  alone : IsOperand shape.CheckedOrNothing [] Missing
  number : (most : ℕ) (tokens : List Token) (n : ℕ) →
      IsUpTo most tokens n → IsOperand (shape.Number most) tokens (Constant (plain n))
  count : (most : ℕ) (tokens : List Token) (n : ℕ) →
      IsUpTo most tokens n → IsOperand (shape.NumberOrNothing most) tokens (Constant (plain n))
  no_count : (most : ℕ) → IsOperand (shape.NumberOrNothing most) [] Missing
  addend : (tokens : List Token) (c : Literal) → IsAddend tokens c → IsOperand shape.Addend tokens (Constant c)
  loaded_status : (word : Token) → is_word (codes "STW") word ≡ true → IsOperand shape.Loaded (word ∷ []) Stw
  loaded_db : (word : Token) → is_word (codes "DBNO") word ≡ true → IsOperand shape.Loaded (word ∷ []) DbNo
  loaded_di : (word : Token) → is_word (codes "DINO") word ≡ true → IsOperand shape.Loaded (word ∷ []) DiNo
  loaded_constant : (tokens : List Token) (c : Literal) →
      IsConstant tokens c → IsOperand shape.Loaded tokens (Constant c)
  loaded_pointer : (tokens : List Token) (p : RawPointer) →
      IsPointerConstant tokens p → IsOperand shape.Loaded tokens (Pointer p)
  loaded_located : (tokens : List Token) (operand : RawOperand) →
      IsLocated tokens operand → IsOperand shape.Loaded tokens operand
  stored_status : (word : Token) → is_word (codes "STW") word ≡ true → IsOperand shape.Stored (word ∷ []) Stw
  stored_located : (tokens : List Token) (operand : RawOperand) →
      IsLocated tokens operand → IsOperand shape.Stored tokens operand
  combined : (tokens : List Token) (c : Literal) →
      IsConstant tokens c → IsOperand shape.ConstantOrNothing tokens (Constant c)
  combined_pointer : (tokens : List Token) (p : RawPointer) →
      IsPointerConstant tokens p → IsOperand shape.ConstantOrNothing tokens (Pointer p)
  no_constant : IsOperand shape.ConstantOrNothing [] Missing
  other_pointer_loaded : (word : Token) →
      is_word (codes "AR2") word ≡ true → IsOperand (shape.PointerLoaded ar.One) (word ∷ []) OtherAr
  pointer_loaded : (r : Ar) (tokens : List Token) (p : RawPointer) →
      IsPointerConstant tokens p → IsOperand (shape.PointerLoaded r) tokens (Pointer p)
  pointer_loaded_from : (r : Ar) (tokens : List Token) (operand : RawOperand) →
      IsPlaced tokens operand → IsOperand (shape.PointerLoaded r) tokens operand
  pointer_loaded_alone : (r : Ar) → IsOperand (shape.PointerLoaded r) [] Missing
  other_pointer_stored : (word : Token) →
      is_word (codes "AR2") word ≡ true → IsOperand (shape.PointerStored ar.One) (word ∷ []) OtherAr
  pointer_stored_in : (r : Ar) (tokens : List Token) (operand : RawOperand) →
      IsPlaced tokens operand → IsOperand (shape.PointerStored r) tokens operand
  pointer_stored_alone : (r : Ar) → IsOperand (shape.PointerStored r) [] Missing
  offset : (tokens : List Token) (p : RawPointer) →
      IsOffsetConstant tokens p → IsOperand shape.OffsetOrNothing tokens (Pointer p)
  no_offset : IsOperand shape.OffsetOrNothing [] Missing
  opened : (tokens : List Token) (operand : RawOperand) →
      IsOpened tokens operand → IsOperand shape.Opened tokens operand
  label : (word : Token) → is_label_word word ≡ true → IsOperand shape.Label (word ∷ []) (Label word.text)
  called : (tokens : List Token) (operand : RawOperand) →
      IsCalled tokens operand → IsOperand shape.Called tokens operand
  called_alone : (tokens : List Token) (operand : RawOperand) →
      IsCalledAlone tokens operand → IsOperand shape.CalledAlone tokens operand

-- a statement without its label: a mnemonic, and after it an operand of its form; the word before a colon is no
-- mnemonic
pub record IsStatement (tokens : List Token) (row : Row) (operand : RawOperand) : Type 0 where
  pub unlabelled : begins_with_label tokens ≡ false
  pub mnemonic : mnemonic_at tokens ≡ Some row
  pub behind : IsOperand (operand_form_of row.what) (drop (size_with row.second) tokens) operand

-- an instruction: a statement, or a label, a colon and a statement
pub data IsInstruction : List Token → RawInstr → Type 0 where
  plain_instruction : (first : Token) (rest : List Token) (row : Row) (operand : RawOperand) →
      IsStatement (first ∷ rest) row operand
      → IsInstruction (first ∷ rest) (instr_with None first.line (name_of row) operand)
  labelled_instruction : (label colon : Token) (rest : List Token) (row : Row) (operand : RawOperand) →
      is_label_word label ≡ true → is_sign (codes ":") colon ≡ true → IsStatement rest row operand
      → IsInstruction (label ∷ colon ∷ rest) (instr_with (Some label.text) label.line (name_of row) operand)

-- tokens are an instruction exactly where they have its form
pub record InstructionsHaveForms : Type 0 where
  pub sound : (tokens : List Token) (instr : RawInstr) → instruction_of tokens ≡ Ok instr → IsInstruction tokens instr
  pub complete : (tokens : List Token) (instr : RawInstr)
      → IsInstruction tokens instr → instruction_of tokens ≡ Ok instr

-- the mnemonic at the front is the longest of the table with which the tokens begin, and there is none where they
-- begin with none
pub record MnemonicsAreLongest : Type 0 where
  pub listed : (tokens : List Token) (row : Row) → mnemonic_at tokens ≡ Some row → IsAmong row rows
  pub stands : (tokens : List Token) (row : Row) → mnemonic_at tokens ≡ Some row → stands_at tokens row ≡ true
  pub longest : (tokens : List Token) (row other : Row) → mnemonic_at tokens ≡ Some row → IsAmong other rows
      → stands_at tokens other ≡ true → size_with other.second ≤ size_with row.second
  pub none : (tokens : List Token) (other : Row) → mnemonic_at tokens ≡ None → IsAmong other rows
      → stands_at tokens other ≡ false

-- The statement that tokens spell. It is a mnemonic and its operand, without the `;`. An operand is a form that fits,
-- a listed form that is left out, whatever follows it, or neither.
-- Held against: each chapter of the manual.
use Rattle.std.specs.Prelude.{ℕ, Bool, true, false, not, ◌==◌, ◌&&◌, ◌||◌, nat_lt, if◌then◌else◌, List, [], ◌∷◌, ◌++◌, length, drop, codes, Option, Some, None, option_map, Result, Ok, Err}
use Rattle.std.specs.List.{find}
use Rattle.memory_areas.specs.Access.{is_byte_in, is_unaligned}
use Rattle.memory_areas.specs.declared.place.AreaName.{AreaName}
use Rattle.memory_areas.specs.declared.place.AreaName.TheVariants as area
use Rattle.s7_base.specs.declared.check.Check.{Check}
use Rattle.s7_base.specs.declared.check.Check.TheVariants as check
use Rattle.s7_base.specs.declared.reason.Kind.TheVariants as kind
use Rattle.s7_base.specs.declared.reason.Line.{Line}
use Rattle.s7_base.specs.declared.reason.Reason.{Reason}
use Rattle.s7_base.specs.declared.reason.Reason.TheVariants.{BadStatement, Unsupported}
use Rattle.s7_base.specs.declared.reason.Rejection.{Rejection}
use Rattle.s7_base.specs.declared.reason.Rejection.TheVariants.{Refused}
use Rattle.s7_base.specs.declared.token.Token.{Token}
use Rattle.status_word.specs.declared.test.Test.{Test}
use Rattle.status_word.specs.declared.test.Test.TheVariants as test
use Rattle.stl_statement_grammar.specs.CallOperands.{called_alone_at, called_at}
use Rattle.stl_statement_grammar.specs.Constants.{addend_at, left_out_prefixes, marked_at, number_at}
use Rattle.stl_statement_grammar.specs.LocatedOperands.{any_constant_at, left_out_at, located_at, placed_at, timers_and_counters}
use Rattle.stl_statement_grammar.specs.Mnemonics.{Row, goes_on, mnemonic_at}
use Rattle.digit_texts.specs.Digits.{is_digit}
use Rattle.stl_statement_grammar.specs.Places.{numbered_at, opened_area}
use Rattle.stl_statement_grammar.specs.Pointers.{memory_at, offset_at, pointer_at}
use Rattle.stl_statement_grammar.specs.Readers.{and_then, fitting, further, or_else, read_as}
use Rattle.stl_tree.specs.Shifts.{most_steps}
use Rattle.stl_statement_grammar.specs.Words.{is_quoted_kind, is_word, is_sign, is_spelled, is_word_kind}
use Rattle.stl_statement_grammar.specs.declared.mnemonic.Mnemonic.{Mnemonic}
use Rattle.stl_statement_grammar.specs.declared.mnemonic.Mnemonic.TheVariants as is
use Rattle.stl_statement_grammar.specs.declared.mnemonic.Read.{Read}
use Rattle.stl_statement_grammar.specs.declared.mnemonic.Read.TheVariants.{Fits, LeftOut, No}
use Rattle.stl_statement_grammar.specs.declared.mnemonic.OperandForm.{OperandForm}
use Rattle.stl_statement_grammar.specs.declared.mnemonic.OperandForm.TheVariants as shape
use Rattle.s7_base.specs.declared.word.Width.TheVariants as width
use Rattle.stl_tree.specs.declared.program.Ar.{Ar}
use Rattle.stl_tree.specs.declared.program.Ar.TheVariants as ar
use Rattle.stl_tree.specs.declared.raw.RawInstr.{RawInstr}
use Rattle.stl_tree.specs.declared.raw.RawName.{RawName}
use Rattle.stl_tree.specs.declared.raw.RawName.TheVariants.{Name, Number}
use Rattle.stl_tree.specs.declared.raw.RawOp.{RawOp}
use Rattle.stl_tree.specs.declared.raw.RawOperand.{RawOperand}
use Rattle.stl_tree.specs.declared.raw.RawOperand.TheVariants.{At, Constant, DbNo, DiNo, Flag, Label, Missing, OpenDb, OpenDbBy, OpenDi, OpenDiBy, OtherAr, Pointer, Stw}
use Rattle.stl_tree.specs.declared.raw.RawPlace.{RawPlace}
use Rattle.stl_tree.specs.declared.raw.RawPointer.{RawPointer}

-- the place lies in its area, with a bit number that its width has
abbrev pub is_in_area : RawPlace → Bool
is_in_area place = is_byte_in place.area place.width place.byte && not (is_unaligned place.width place.bit)

-- how many tokens a mnemonic or a test of the status word takes, by its second part
abbrev pub size_with : List ℕ → ℕ
size_with [] = 1
size_with (b ∷ second) = 2

-- a test of the status word as it is written: a word, or a sign with 0 after it
abbrev pub first_of : Test → List ℕ
first_of test.Eq = codes "=="
first_of test.Ne = codes "<>"
first_of test.Gt = codes ">"
first_of test.Lt = codes "<"
first_of test.Ge = codes ">="
first_of test.Le = codes "<="
first_of test.Uo = codes "UO"
first_of test.Ov = codes "OV"
first_of test.Os = codes "OS"
first_of test.Br = codes "BR"

abbrev pub second_of : Test → List ℕ
second_of test.Eq = codes "0"
second_of test.Ne = codes "0"
second_of test.Gt = codes "0"
second_of test.Lt = codes "0"
second_of test.Ge = codes "0"
second_of test.Le = codes "0"
second_of test.Uo = []
second_of test.Ov = []
second_of test.Os = []
second_of test.Br = []

-- the tests of the status word
abbrev pub tests : List Test
tests =
    test.Eq ∷ test.Ne ∷ test.Gt ∷ test.Lt ∷ test.Ge ∷ test.Le ∷ test.Uo ∷ test.Ov ∷ test.Os ∷ test.Br ∷ []

-- the tokens begin with the test, with no blank inside
abbrev pub is_asked : List Token → Test → Bool
is_asked [] test = false
is_asked (first ∷ rest) test = is_spelled (first_of test) first && goes_on (second_of test) rest

abbrev pub asked_by : Option Test → Read RawOperand
asked_by None = No
asked_by (Some test) = Fits (Flag test) (size_with (second_of test))

-- the operand at a place where a test of the status word may be written
abbrev pub status_at : List Token → Read RawOperand
status_at tokens = asked_by (find (is_asked tokens) tests)

-- the status word as an operand
abbrev pub stw_at : List Token → Read RawOperand
stw_at [] = No
stw_at (first ∷ rest) = if is_word (codes "STW") first then Fits Stw 1 else No

-- the number of the open data block or of the open instance as an operand
abbrev pub block_number_at : List Token → Read RawOperand
block_number_at [] = No
block_number_at (first ∷ rest) =
    if is_word (codes "DBNO") first then Fits DbNo 1 else if is_word (codes "DINO") first then Fits DiNo 1 else No

-- the length of a data block as an operand, which is not supported
abbrev pub length_at : List Token → Read RawOperand
length_at [] = No
length_at (first ∷ rest) =
    if is_word (codes "DBLG") first || is_word (codes "DILG") first then LeftOut kind.DbLength else No

-- no operand after the mnemonic
abbrev pub nothing_at : List Token → Read RawOperand
nothing_at [] = Fits Missing 0
nothing_at (first ∷ rest) = No

-- the operand of a check: a place, a name, or a test of the status word
abbrev pub checked_at : List Token → Read RawOperand
checked_at tokens = or_else (status_at tokens) (located_at tokens)

-- the operand of `T`: the status word, a place or a name
abbrev pub stored_at : List Token → Read RawOperand
stored_at tokens = or_else (stw_at tokens) (located_at tokens)

-- the operand of `L`: the status word, the number of an open data block, a constant, a place or a name
abbrev pub loaded_at : List Token → Read RawOperand
loaded_at tokens =
    or_else (stw_at tokens) (or_else (block_number_at tokens)
    (or_else (any_constant_at tokens) (or_else (located_at tokens) (length_at tokens))))

-- a pointer where no other constant may be written; constants that are not supported are named too
abbrev pub pointer_alone_at : (List Token → Read RawPointer) → List Token → Read RawOperand
pointer_alone_at read tokens =
    or_else (read_as Constant (marked_at left_out_prefixes tokens)) (read_as Pointer (read tokens))

-- AR2 as the operand of `LAR1` and `TAR1`, which alone take it
abbrev pub other_at : Ar → List Token → Read RawOperand
other_at ar.One (first ∷ rest) = if is_word (codes "AR2") first then Fits OtherAr 1 else No
other_at r tokens = No

-- the operand of `LAR1` and `LAR2`: the other register, a pointer, or a place that names its area
abbrev pub pointer_loaded_at : Ar → List Token → Read RawOperand
pointer_loaded_at r tokens =
    or_else (other_at r tokens) (or_else (pointer_alone_at pointer_at tokens) (placed_at tokens))

-- the operand of `TAR1` and `TAR2`: the other register, or a place that names its area
abbrev pub pointer_stored_at : Ar → List Token → Read RawOperand
pointer_stored_at r tokens = or_else (other_at r tokens) (placed_at tokens)

-- the operand of `OPN` for the data block of this name
abbrev pub opening : AreaName → RawName → RawOperand
opening area.Di name = OpenDi name
opening other name = OpenDb name

-- a data block by its number
abbrev pub opened_number_at : List Token → Read RawOperand
opened_number_at tokens =
    and_then tokens (numbered_at tokens)
    (λ found rest. fitting 0 (option_map (λ name. opening name (Number found.number)) (opened_area found.letters)))

-- a data block by its name, after the word of data blocks
abbrev pub opened_behind : Option AreaName → List Token → Read RawOperand
opened_behind None rest = No
opened_behind (Some name) [] = No
opened_behind (Some name) (first ∷ rest) =
    if is_quoted_kind first.kind then Fits (opening name (Name first.text)) 2 else No

-- the area that is opened, by its word
abbrev pub opened_word : Token → Option AreaName
opened_word word = if is_word_kind word.kind then opened_area word.text else None

-- a data block by its name, after its word or alone
abbrev pub opened_name_at : List Token → Read RawOperand
opened_name_at [] = No
opened_name_at (first ∷ rest) =
    if is_quoted_kind first.kind then Fits (OpenDb (Name first.text)) 1 else opened_behind (opened_word first) rest

-- the operand of `OPN` for the data block whose number is in a word
abbrev pub opening_by : AreaName → RawPlace → RawOperand
opening_by area.Di place = OpenDiBy place
opening_by other place = OpenDbBy place

abbrev pub opened_in : Option AreaName → Token → List Token → Read RawOperand
opened_in None before rest = No
opened_in (Some name) before rest =
    if is_sign (codes "[") before then further 2 (memory_at (opening_by name) width.Word rest) else No

-- a data block by its number in memory: `DB [MW 4]`
abbrev pub opened_by_memory_at : List Token → Read RawOperand
opened_by_memory_at [] = No
opened_by_memory_at (a ∷ []) = No
opened_by_memory_at (word ∷ before ∷ rest) = opened_in (opened_word word) before rest

-- the operand of `OPN`
abbrev pub opened_at : List Token → Read RawOperand
opened_at tokens = or_else (opened_number_at tokens) (or_else (opened_name_at tokens) (opened_by_memory_at tokens))

-- a word is one to four letters, digits or `_`, the first of them no digit
abbrev pub is_label : List ℕ → Bool
is_label [] = false
is_label (first ∷ rest) = nat_lt (length rest) 4 && not (is_digit first)

-- the token is a label
abbrev pub is_label_word : Token → Bool
is_label_word token = is_word_kind token.kind && is_label token.text

-- a label as an operand
abbrev pub label_at : List Token → Read RawOperand
label_at [] = No
label_at (first ∷ rest) = if is_label_word first then Fits (Label first.text) 1 else No

-- what was read, or no operand
abbrev pub or_nothing : List Token → Read RawOperand → Read RawOperand
or_nothing tokens read = or_else (nothing_at tokens) read

-- an operand of a form
abbrev pub operand_by : OperandForm → List Token → Read RawOperand
operand_by shape.Nothing tokens = nothing_at tokens
operand_by shape.Bit tokens = located_at tokens
operand_by shape.Checked tokens = checked_at tokens
operand_by shape.CheckedOrNothing tokens = or_nothing tokens (checked_at tokens)
operand_by (shape.Number most) tokens = read_as Constant (number_at most tokens)
operand_by (shape.NumberOrNothing most) tokens = or_nothing tokens (read_as Constant (number_at most tokens))
operand_by shape.Addend tokens = read_as Constant (addend_at tokens)
operand_by shape.Loaded tokens = loaded_at tokens
operand_by shape.Stored tokens = stored_at tokens
operand_by shape.ConstantOrNothing tokens = or_nothing tokens (any_constant_at tokens)
operand_by (shape.PointerLoaded r) tokens = or_nothing tokens (pointer_loaded_at r tokens)
operand_by (shape.PointerStored r) tokens = or_nothing tokens (pointer_stored_at r tokens)
operand_by shape.OffsetOrNothing tokens = or_nothing tokens (pointer_alone_at offset_at tokens)
operand_by shape.Opened tokens = opened_at tokens
operand_by shape.Label tokens = label_at tokens
operand_by shape.TimerOrCounter tokens = read_as At (left_out_at timers_and_counters tokens)
operand_by shape.Called tokens = called_at tokens
operand_by shape.CalledAlone tokens = called_alone_at tokens
operand_by (shape.LeftOut kind) tokens = LeftOut kind

-- the form of the operand of a check: a place, a name or the status word is checked; `O` may have no operand
abbrev pub checked_form : Check → OperandForm
checked_form check.A = shape.Checked
checked_form check.An = shape.Checked
checked_form check.O = shape.CheckedOrNothing
checked_form check.On = shape.Checked
checked_form check.X = shape.Checked
checked_form check.Xn = shape.Checked

-- the form of a mnemonic's operand
abbrev pub operand_form_of : Mnemonic → OperandForm
operand_form_of (is.Check check) = checked_form check
operand_form_of (is.Bracket check) = shape.Nothing
operand_form_of is.Close = shape.Nothing
operand_form_of is.Assign = shape.Bit
operand_form_of is.Set = shape.Bit
operand_form_of is.Reset = shape.Bit
operand_form_of is.SetRlo = shape.Nothing
operand_form_of is.ClearRlo = shape.Nothing
operand_form_of is.NotRlo = shape.Nothing
operand_form_of is.Save = shape.Nothing
operand_form_of is.EdgeUp = shape.Bit
operand_form_of is.EdgeDown = shape.Bit
operand_form_of is.Load = shape.Loaded
operand_form_of is.Transfer = shape.Stored
operand_form_of (is.Arith row) = shape.Nothing
operand_form_of (is.Compare test w) = shape.Nothing
operand_form_of is.Plus = shape.Addend
operand_form_of is.Inc = shape.Number 255
operand_form_of is.Dec = shape.Number 255
operand_form_of (is.Shift row) = shape.NumberOrNothing (most_steps row)
operand_form_of is.Rlda = shape.Nothing
operand_form_of is.Rrda = shape.Nothing
operand_form_of (is.Logic row) = shape.ConstantOrNothing
operand_form_of (is.Unary row) = shape.Nothing
operand_form_of is.Tak = shape.Nothing
operand_form_of is.Push = shape.Nothing
operand_form_of is.Pop = shape.Nothing
operand_form_of (is.LoadAr r) = shape.PointerLoaded r
operand_form_of (is.StoreAr r) = shape.PointerStored r
operand_form_of is.ExchangeAr = shape.Nothing
operand_form_of (is.AddAr r) = shape.OffsetOrNothing
operand_form_of is.Open = shape.Opened
operand_form_of is.ExchangeDb = shape.Nothing
operand_form_of is.Nop = shape.Number 255
operand_form_of (is.Jump test) = shape.Label
operand_form_of is.Loop = shape.Label
operand_form_of is.JumpList = shape.Label
operand_form_of is.BlockEnd = shape.Nothing
operand_form_of is.BlockEndIf = shape.Nothing
operand_form_of is.TimerOrCounter = shape.TimerOrCounter
operand_form_of is.Call = shape.Called
operand_form_of is.CallAlone = shape.CalledAlone
operand_form_of is.CallIf = shape.CalledAlone
operand_form_of (is.LeftOut kind) = shape.LeftOut kind

-- the operand of an instruction
abbrev pub operand_of : Mnemonic → List Token → Read RawOperand
operand_of what tokens = operand_by (operand_form_of what) tokens

-- Statements

-- the tokens begin with a label and its colon
abbrev pub begins_with_label : List Token → Bool
begins_with_label [] = false
begins_with_label (first ∷ []) = false
begins_with_label (first ∷ second ∷ rest) = is_label_word first && is_sign (codes ":") second

-- the name of a mnemonic, in capitals
abbrev pub name_of : Row → List ℕ
name_of row = row.first ++ row.second

-- a mnemonic with the operand that was read, which must take all tokens after the mnemonic
abbrev pub with_operand : List ℕ → ℕ → Read RawOperand → Result RawOp Reason
with_operand name size (Fits operand taken) =
    if taken == size then Ok (record { mnemonic = name; operand = operand }) else Err BadStatement
with_operand name size (LeftOut kind) = Err (Unsupported kind)
with_operand name size No = Err BadStatement

-- a mnemonic and the operand after it
abbrev pub with_mnemonic : List Token → Option Row → Result RawOp Reason
with_mnemonic tokens None = Err BadStatement
with_mnemonic tokens (Some row) =
    let behind = drop (size_with row.second) tokens in
    with_operand (name_of row) (length behind) (operand_of row.what behind)

-- the mnemonic and the operand of a statement without its label, or the rule that its tokens break; the word before a
-- colon is no mnemonic
abbrev pub statement : List Token → Result RawOp Reason
statement tokens = if begins_with_label tokens then Err BadStatement else with_mnemonic tokens (mnemonic_at tokens)

-- an instruction on a line, by its label, its mnemonic and its operand
abbrev pub instr_with : Option (List ℕ) → Line → List ℕ → RawOperand → RawInstr
instr_with label line mnemonic operand =
    record { label = label; line = line; op = record { mnemonic = mnemonic; operand = operand } }

-- the instruction with a label, or the broken rule, on a line
abbrev pub on_line : Option (List ℕ) → Line → Result RawOp Reason → Result RawInstr Rejection
on_line label line (Ok op) = Ok (instr_with label line op.mnemonic op.operand)
on_line label line (Err reason) = Err (Refused line reason)

-- an instruction on the line of its first token, which is its label where it has one
abbrev pub instruction_from : Bool → Token → List Token → Result RawInstr Rejection
instruction_from true first rest = on_line (Some first.text) first.line (statement (drop 1 rest))
instruction_from false first rest = on_line None first.line (statement (first ∷ rest))

-- the instruction that tokens are, on the line of the first of them
unfoldable pub instruction_of : List Token → Result RawInstr Rejection
instruction_of [] = Err (Refused (record { 0 = 1 }) BadStatement)
instruction_of (first ∷ rest) = instruction_from (begins_with_label (first ∷ rest)) first rest

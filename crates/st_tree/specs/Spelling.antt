-- The canonical spelling of a tree. Words are in capitals, names as declared, with four blanks for each level, one
-- blank around an operator and `:=`, and a statement, a heading, a declaration or a label list to a line.
-- Held against: IEC 61131-3, 'Structured Text', and this project's own spelling.
use Rattle.std.specs.Prelude.{ℕ, zero, suc, ◌+◌, ◌-◌, ◌/◌, ◌%◌, ◌==◌, Bool, true, false, ℤ, pos, unsigned_abs, int_lt, List, [], ◌∷◌, ◌++◌, codes, decimal, map, flat_map, length, slice_get, Option, Some, None, if◌then◌else◌}
use Rattle.std.specs.Ordering.{int_eq}
use Rattle.digit_texts.specs.Digits.{hex_digit}
use Rattle.memory_areas.specs.declared.place.Area.{Area}
use Rattle.memory_areas.specs.declared.place.Area.TheVariants as area
use Rattle.memory_areas.specs.declared.data_block.DataBlock.{DataBlock}
use Rattle.s7_base.specs.declared.word.Width.{Width}
use Rattle.s7_base.specs.declared.word.Width.TheVariants as width
use Rattle.st_tree.specs.Form.{Form, literal, variable, group, prefix, infix_of, digits_to, convert, select, shift, area_read, canon}
use Rattle.st_tree.specs.Typing.{Names, type_of}
use Rattle.st_tree.specs.Values.{width_at}
use Rattle.st_tree.specs.Words.{register_word, area_word, width_word, type_word, prefix_word, infix_word, shift_word}
use Rattle.st_tree.specs.declared.expr.StType.{StType}
use Rattle.st_tree.specs.declared.expr.StType.TheVariants as type
use Rattle.st_tree.specs.declared.expr.Var.{Var}
use Rattle.st_tree.specs.declared.expr.Var.TheVariants as var
use Rattle.st_tree.specs.declared.expr.Expr.{Expr}
use Rattle.st_tree.specs.declared.program.Local.{Local}
use Rattle.st_tree.specs.declared.program.Located.{Located}
use Rattle.st_tree.specs.declared.program.Stmt.{Stmt, fold-Stmt}
use Rattle.st_tree.specs.declared.program.Stmt.TheOpen as S
use Rattle.st_tree.specs.declared.program.Arm.{Arm, Arm-F, fold-Arm}
use Rattle.st_tree.specs.declared.program.CaseArm.{CaseArm, CaseArm-F, fold-CaseArm}
use Rattle.st_tree.specs.declared.program.Pou.{Pou}
use Rattle.st_tree.specs.declared.program.StProgram.{StProgram}

-- Pieces

-- texts with a comma and a blank between each two
abbrev pub comma_list : List (List ℕ) → List ℕ
comma_list [] = []
comma_list (first ∷ more) = first ++ flat_map (λ text. codes ", " ++ text) more

-- four blanks for each level
abbrev pub blanks : ℕ → List ℕ
blanks zero = []
blanks (suc level) = codes "    " ++ blanks level

-- a line at a level
unfoldable pub line : ℕ → List ℕ → List ℕ
line level text = blanks level ++ text ++ codes "\n"

-- the lowest hexadecimal digits of a number, as many as a count says
unfoldable pub hexadecimal : ℕ → ℕ → List ℕ
hexadecimal zero n = []
hexadecimal (suc count) n = hexadecimal count (n / 16) ++ hex_digit (n % 16) ∷ []

-- Variables and literals

-- the name of a local or a formal
abbrev pub local_name : Option Local → List ℕ
local_name None = []
local_name (Some local) = local.name

-- the name of a global on I, Q or M
abbrev pub global_name : Option Located → List ℕ
global_name None = []
global_name (Some global) = global.name

-- the number of a bit; a byte or more has none
abbrev pub bit_text : Width → ℕ → List ℕ
bit_text width.Bit bit = codes "." ++ decimal bit
bit_text width.Byte bit = []
bit_text width.Word bit = []
bit_text width.Dword bit = []

-- a place after the letters of its area, as `X0.0` or `W10`
abbrev pub place_text : Width → ℕ → ℕ → List ℕ
place_text w byte bit = width_word w ++ decimal byte ++ bit_text w bit

-- a variable, as `RLO`, `%IX0.0`, `%MW10` or `%DB5.DBW4`
abbrev pub var_text : Names → Var → List ℕ
var_text names (var.Register r) = register_word r
var_text names (var.Local i) = local_name (slice_get names.locals i)
var_text names (var.Formal i) = local_name (slice_get names.formals i)
var_text names (var.Global i) = global_name (slice_get names.globals i)
var_text names (var.Direct a byte bit w) = codes "%" ++ area_word a ++ place_text w byte bit
var_text names (var.InBlock block byte bit w) = codes "%DB" ++ decimal block ++ codes ".DB" ++ place_text w byte bit

-- a whole number with its sign
abbrev pub integer_text : ℤ → List ℕ
integer_text n = if int_lt n (pos 0) then codes "-" ++ decimal (unsigned_abs n) else decimal (unsigned_abs n)

-- a literal of its type: a DINT from 0 on is plain, patterns have all their hexadecimal digits
unfoldable pub literal_text : StType → ℤ → List ℕ
literal_text type.Bool n = if int_eq n (pos 0) then codes "FALSE" else codes "TRUE"
literal_text type.Byte n = codes "BYTE#16#" ++ hexadecimal 2 (unsigned_abs n)
literal_text type.Word n = codes "WORD#16#" ++ hexadecimal 4 (unsigned_abs n)
literal_text type.Dword n = codes "DWORD#16#" ++ hexadecimal 8 (unsigned_abs n)
literal_text type.Int n = codes "INT#" ++ integer_text n
literal_text type.Dint n = if int_lt n (pos 0) then codes "DINT#" ++ integer_text n else decimal (unsigned_abs n)
literal_text type.Lint n = codes "LINT#" ++ integer_text n

-- Expressions

-- an expression with its brackets
abbrev pub form_text : Names → Form → List ℕ
form_text names (literal ty n) = literal_text ty n
form_text names (variable v) = var_text names v
form_text names (group f) = codes "(" ++ form_text names f ++ codes ")"
form_text names (prefix op f) = prefix_word op ++ form_text names f
form_text names (infix_of op f g) = form_text names f ++ infix_word op ++ form_text names g
form_text names (digits_to op f) = prefix_word op ++ form_text names f ++ codes ")"
form_text names (convert from to f) =
    type_word from ++ codes "_TO_" ++ type_word to ++ codes "(" ++ form_text names f ++ codes ")"
form_text names (select f g h) =
    codes "SEL(" ++ form_text names f ++ codes ", " ++ form_text names g ++ codes ", " ++ form_text names h ++ codes ")"
form_text names (shift op f g) =
    shift_word op ++ codes "(" ++ form_text names f ++ codes ", " ++ form_text names g ++ codes ")"
form_text names (area_read w f) = codes "AREA_READ_" ++ width_word w ++ codes "(" ++ form_text names f ++ codes ")"

-- the text of an expression, in brackets only where precedence asks for them
abbrev pub expr_text : Names → Expr → List ℕ
expr_text names e = form_text names (canon e)

-- Statements

-- the text of a statement at a level, each level four blanks
abbrev pub Text : Type 0
Text = ℕ → List ℕ

-- the text of an arm of an IF after its first word, `IF ` or `ELSIF `, at the level of its statement
abbrev pub ArmText : Type 0
ArmText = List ℕ → ℕ → List ℕ

-- the text of an arm of a CASE, by the type of the selector, in which labels are spelled, at the level of its
-- statement
abbrev pub CaseText : Type 0
CaseText = StType → ℕ → List ℕ

-- statements at a level
abbrev pub texts_at : ℕ → List Text → List ℕ
texts_at level texts = flat_map (λ text. text level) texts

-- ELSE and the statements after it; without statements it is not written
abbrev pub else_text : ℕ → List Text → List ℕ
else_text level [] = []
else_text level (first ∷ more) = line level (codes "ELSE") ++ texts_at (level + 1) (first ∷ more)

-- the text of the arms of an IF: the first begins with IF, each other with ELSIF
abbrev pub arms_text : ℕ → List ArmText → List ℕ
arms_text level [] = []
arms_text level (first ∷ more) = first (codes "IF ") level ++ flat_map (λ arm. arm (codes "ELSIF ") level) more

-- the name of the unit that a call means
abbrev pub unit_name : Option Pou → List ℕ
unit_name None = []
unit_name (Some unit) = unit.name

-- the formals of the unit that a call means
abbrev pub formals_of : Option Pou → List Local
formals_of None = []
formals_of (Some unit) = unit.formals

-- each formal with its variable
abbrev pub actuals_text : Names → List Local → List Var → List (List ℕ)
actuals_text names [] vars = []
actuals_text names (formal ∷ formals) [] = []
actuals_text names (formal ∷ formals) (v ∷ vars) =
    (formal.name ++ codes " := " ++ var_text names v) ∷ actuals_text names formals vars

-- a call of a unit: its name, and each formal with its variable in brackets
abbrev pub call_text : Names → Option Pou → List Var → List ℕ
call_text names unit vars =
    unit_name unit ++ codes "(" ++ comma_list (actuals_text names (formals_of unit) vars) ++ codes ");"

-- a label of an arm of a CASE after others, a literal of the selector's type
unfoldable pub label_text : StType → ℤ → List ℕ
label_text ty label = codes ", " ++ literal_text ty label

-- the labels of an arm
abbrev pub labels_text : StType → ℤ → List ℤ → List ℕ
labels_text ty first more = literal_text ty first ++ flat_map (label_text ty) more

-- labels on a line one level in, and statements after them; an arm without labels, which never applies, is not
-- written
abbrev pub labelled_text : StType → ℕ → List ℤ → List ℕ → List ℕ
labelled_text ty level [] body = []
labelled_text ty level (first ∷ more) body = line (level + 1) (labels_text ty first more ++ codes ":") ++ body

-- an arm of an IF: its word, its test and THEN on a line, and its statements one level in
abbrev pub arm_step : Names → Arm-F Text ArmText CaseText → ArmText
arm_step names arm word level =
    line level (word ++ expr_text names arm.test ++ codes " THEN") ++ texts_at (level + 1) arm.body

-- an arm of a CASE: its labels, and its statements two levels in
abbrev pub case_step : CaseArm-F Text ArmText CaseText → CaseText
case_step arm ty level = labelled_text ty level arm.labels (texts_at (level + 2) arm.body)

-- a statement whose inner statements are spelled as given; a CASE spells its labels in the type of its
-- selector
abbrev pub statement_step : Names → S.Stmt-F Text ArmText CaseText → Text
statement_step names (S.Assign v e) level =
    line level (var_text names v ++ codes " := " ++ expr_text names e ++ codes ";")
statement_step names (S.AreaWrite w p e) level =
    line level
    (codes "AREA_WRITE_" ++ width_word w ++ codes "(" ++ expr_text names p ++ codes ", " ++ expr_text names e
    ++ codes ");")
statement_step names (S.Invoke unit vars) level = line level (call_text names (slice_get names.units unit) vars)
statement_step names (S.If arms other) level =
    arms_text level arms ++ else_text level other ++ line level (codes "END_IF;")
statement_step names (S.Case e arms other) level =
    line level (codes "CASE " ++ expr_text names e ++ codes " OF")
    ++ flat_map (λ arm. arm (type_of names e) level) arms ++ else_text level other
    ++ line level (codes "END_CASE;")
statement_step names (S.While e body) level =
    line level (codes "WHILE " ++ expr_text names e ++ codes " DO") ++ texts_at (level + 1) body
    ++ line level (codes "END_WHILE;")
statement_step names S.Exit level = line level (codes "EXIT;")
statement_step names S.Continue level = line level (codes "CONTINUE;")
statement_step names S.Return level = line level (codes "RETURN;")

-- a statement at a level
abbrev pub statement_text : Names → Stmt → Text
statement_text names = fold-Stmt Text ArmText CaseText (statement_step names) (arm_step names) case_step

-- the text of an arm of an IF
abbrev pub arm_text : Names → Arm → ArmText
arm_text names = fold-Arm Text ArmText CaseText (statement_step names) (arm_step names) case_step

-- the text of an arm of a CASE
abbrev pub case_text : Names → CaseArm → CaseText
case_text names = fold-CaseArm Text ArmText CaseText (statement_step names) (arm_step names) case_step

-- the statements of a body at a level
abbrev pub body_text : Names → ℕ → List Stmt → List ℕ
body_text names level body = texts_at level (map (statement_text names) body)

-- Units

-- a declaration of a formal or a local, on a line two levels in
unfoldable pub local_text : Local → List ℕ
local_text local = line 2 (local.name ++ codes " : " ++ type_word local.ty ++ codes ";")

-- a section of a unit; an empty one is not written
abbrev pub section_text : List ℕ → List Local → List ℕ
section_text word [] = []
section_text word (first ∷ more) = line 1 word ++ flat_map local_text (first ∷ more) ++ line 1 (codes "END_VAR")

-- the first word of a unit
abbrev pub unit_word : Bool → List ℕ
unit_word true = codes "PROGRAM"
unit_word false = codes "FUNCTION"

-- what the statements of a unit of a text can name
abbrev pub names_in : StProgram → Pou → Names
names_in tree unit = record { globals = tree.globals; units = tree.pous; formals = unit.formals; locals = unit.locals }

-- a unit between its heading and its end word
unfoldable pub unit_text : StProgram → Pou → List ℕ
unit_text tree unit =
    line 0 (unit_word unit.program ++ codes " " ++ unit.name) ++ section_text (codes "VAR_IN_OUT") unit.formals
    ++ section_text (codes "VAR_TEMP") unit.locals
    ++ body_text (names_in tree unit) 1 unit.body ++ line 0 (codes "END_" ++ unit_word unit.program)

-- Globals

-- a byte as `16#` and two digits
abbrev pub byte_text : ℕ → List ℕ
byte_text b = codes "16#" ++ hexadecimal 2 b

-- equal bytes; two or more have their count
abbrev pub run_text : ℕ → ℕ → List ℕ
run_text count b = if count == 1 then byte_text b else decimal count ++ codes "(" ++ byte_text b ++ codes ")"

-- the list of these bytes after equal ones
abbrev pub list_behind : ℕ → ℕ → List ℕ → List ℕ
list_behind count b [] = run_text count b
list_behind count b (next ∷ rest) =
    if b == next then list_behind (count + 1) b rest else run_text count b ++ codes ", " ++ list_behind 1 next rest

-- the initial value: bytes, equal ones in sequence as one item; without bytes there is none
abbrev pub initial_text : List ℕ → List ℕ
initial_text [] = []
initial_text (b ∷ rest) = codes " := [" ++ list_behind 1 b rest ++ codes "]"

-- a data block as a global: its location, its last index, and its bytes, which are always written
unfoldable pub block_text : DataBlock → List ℕ
block_text block =
    line 1
    (codes "DB" ++ decimal block.number ++ codes " AT %DB" ++ decimal block.number ++ codes ".DBB0 : ARRAY[0.."
    ++ decimal (length block.bytes - 1) ++ codes "] OF BYTE" ++ initial_text block.bytes ++ codes ";")

-- the letter of the area of a global's place; no proper tree has a global on an area but I, Q and M
abbrev pub place_word : Area → List ℕ
place_word area.I = codes "I"
place_word area.Q = codes "Q"
place_word area.M = codes "M"
place_word (area.Db n) = codes "M"
place_word (area.Local d) = codes "M"
place_word (area.Cell d) = codes "M"

-- a global on I, Q or M: its name, its location and its type, on a line one level in
unfoldable pub global_text : Located → List ℕ
global_text global =
    line 1
    (global.name ++ codes " AT %" ++ place_word global.place.area
    ++ place_text (width_at global.ty) global.place.byte global.place.bit ++ codes " : " ++ type_word global.ty
    ++ codes ";")

-- the section of globals, data blocks first; an empty one is not written
abbrev pub globals_text : List DataBlock → List Located → List ℕ
globals_text [] [] = []
globals_text blocks globals =
    line 0 (codes "VAR_GLOBAL") ++ flat_map block_text blocks ++ flat_map global_text globals
    ++ line 0 (codes "END_VAR")

-- the whole text: data blocks, other globals, units
abbrev pub spelling : StProgram → List ℕ
spelling tree = globals_text tree.dbs tree.globals ++ flat_map (unit_text tree) tree.pous

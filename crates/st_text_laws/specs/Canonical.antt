-- The canonical form of a tree: the form of its canonical text, with the lines on which its parts stand
-- there. Each statement, label list, heading and declaration has a line of its own.
use Rattle.std.specs.Prelude.{ℕ, ◌+◌, ◌-◌, ◌==◌, ℤ, pos, unsigned_abs, int_lt, List, [], ◌∷◌, ◌++◌, codes, decimal, length, map, slice_get, Some, None, if◌then◌else◌}
use Rattle.memory_areas.specs.declared.data_block.DataBlock.{DataBlock}
use Rattle.memory_areas.specs.declared.place.Area.{Area}
use Rattle.memory_areas.specs.declared.place.Area.TheVariants as place
use Rattle.memory_areas.specs.declared.place.AreaName.{AreaName}
use Rattle.memory_areas.specs.declared.place.AreaName.TheVariants as area
use Rattle.s7_base.specs.Tokens.{line_after}
use Rattle.s7_base.specs.declared.reason.Line.{Line}
use Rattle.s7_base.specs.declared.word.Width.TheVariants as width
use Rattle.st_grammar.specs.Forms.{Form, literal, variable, group, prefix, infix_of, apply, shift, select, Actuals, no_actual, actual, Labels, label, more_labels, Statement, assign, write, invoke, choice, choice_else, cases, cases_else, loop, jump, Statements, none, further, Arms, no_arm, arm, CaseArms, no_case, case_arm, Items, no_item, single, times, plain, bytes, Globals, no_global, global, Locals, no_local, local, Section, absent, present, Units, no_unit, unit, Source}
use Rattle.st_grammar.specs.declared.kind.Jump.TheVariants as jump_word
use Rattle.st_grammar.specs.declared.kind.Literal.{Literal}
use Rattle.st_grammar.specs.declared.kind.Literal.TheVariants as lit
use Rattle.st_grammar.specs.declared.kind.OneOperand.TheVariants as one
use Rattle.st_grammar.specs.declared.kind.Prefix.TheVariants as before
use Rattle.st_tree.specs.Form as tree
use Rattle.st_tree.specs.Form.{canon}
use Rattle.st_tree.specs.Spelling.{formals_of, global_name, local_name, names_in, unit_name}
use Rattle.st_tree.specs.Typing.{Names, type_of}
use Rattle.st_tree.specs.Values.{width_at}
use Rattle.st_tree.specs.Words.{register_word}
use Rattle.st_tree.specs.declared.expr.Expr.{Expr}
use Rattle.st_tree.specs.declared.expr.StType.{StType}
use Rattle.st_tree.specs.declared.expr.StType.TheVariants as type
use Rattle.st_tree.specs.declared.expr.UnaryOp.{UnaryOp}
use Rattle.st_tree.specs.declared.expr.UnaryOp.TheVariants as unary
use Rattle.st_tree.specs.declared.expr.Var.{Var}
use Rattle.st_tree.specs.declared.expr.Var.TheVariants as var
use Rattle.st_tree.specs.declared.program.Arm.{Arm, Arm-F, fold-Arm}
use Rattle.st_tree.specs.declared.program.CaseArm.{CaseArm, CaseArm-F, fold-CaseArm}
use Rattle.st_tree.specs.declared.program.Local.{Local}
use Rattle.st_tree.specs.declared.program.Located.{Located}
use Rattle.st_tree.specs.declared.program.Pou.{Pou}
use Rattle.st_tree.specs.declared.program.StProgram.{StProgram}
use Rattle.st_tree.specs.declared.program.Stmt.{Stmt, fold-Stmt}
use Rattle.st_tree.specs.declared.program.Stmt.TheOpen as S
use Rattle.st_tree.specs.declared.raw.RawVar.{RawVar}
use Rattle.st_tree.specs.declared.raw.RawVar.TheVariants as raw

-- a line by its number
abbrev pub on : ℕ → Line
on line = record { 0 = line }

-- Expressions

-- a variable by its name or its place
abbrev pub raw_var : Names → Var → RawVar
raw_var names (var.Register r) = raw.Name (register_word r)
raw_var names (var.Local i) = raw.Name (local_name (slice_get names.locals i))
raw_var names (var.Formal i) = raw.Name (local_name (slice_get names.formals i))
raw_var names (var.Global i) = raw.Name (global_name (slice_get names.globals i))
raw_var names (var.Direct a byte bit w) = raw.Direct a None w byte bit
raw_var names (var.InBlock block byte bit w) = raw.Direct area.Db (Some block) w byte bit

-- a DINT from 0 on is a plain decimal, other literals have their type
abbrev pub literal_form : StType → ℤ → Literal
literal_form type.Dint n = if int_lt n (pos 0) then lit.Typed type.Dint n else lit.Decimal (unsigned_abs n)
literal_form ty n = lit.Typed ty n

-- an operator on one operand
abbrev pub unary_form : UnaryOp → Form → Form
unary_form unary.Minus f = prefix before.Minus f
unary_form unary.Not f = prefix before.Not f
unary_form unary.BcdToInt f = apply one.BcdToInt f
unary_form unary.BcdToDint f = apply one.BcdToDint f

-- an expression on a line, with its brackets
abbrev pub form_of : Names → ℕ → tree.Form → Form
form_of names line (tree.literal ty n) = literal (literal_form ty n)
form_of names line (tree.variable v) = variable (raw_var names v) (on line)
form_of names line (tree.group f) = group (form_of names line f)
form_of names line (tree.prefix op f) = unary_form op (form_of names line f)
form_of names line (tree.infix_of op f g) = infix_of op (form_of names line f) (form_of names line g)
form_of names line (tree.digits_to op f) = unary_form op (form_of names line f)
form_of names line (tree.convert from to f) = apply (one.Convert from to) (form_of names line f)
form_of names line (tree.select f g h) = select (form_of names line f) (form_of names line g) (form_of names line h)
form_of names line (tree.shift op f g) = shift op (form_of names line f) (form_of names line g)
form_of names line (tree.area_read w f) = apply (one.AreaRead w) (form_of names line f)

-- an expression of a tree on a line, with the brackets that precedence asks for and no others
abbrev pub expr_form : Names → ℕ → Expr → Form
expr_form names line e = form_of names line (canon e)

-- Statements: each part from the line on which it begins, with the line after it

-- a part and the line after it
abbrev pub Placed : Type 0 → Type 0
Placed X = X × ℕ

-- a statement by the line on which it begins
abbrev pub FromLine : Type 0
FromLine = ℕ → Placed Statement

-- the arms of an IF with one more, by the line on which this begins
abbrev pub ArmFromLine : Type 0
ArmFromLine = Arms → ℕ → Placed Arms

-- the arms of a CASE with one more, by the line on which this begins and by the type of the selector
abbrev pub CaseFromLine : Type 0
CaseFromLine = StType → CaseArms → ℕ → Placed CaseArms

-- statements after others
abbrev pub all_from : Statements → ℕ → List FromLine → Placed Statements
all_from others line [] = (others, line)
all_from others line (first ∷ more) = let s = first line in all_from (further others s.0) s.1 more

-- the statements of a body from a line on
abbrev pub body_from : ℕ → List FromLine → Placed Statements
body_from line body = all_from none line body

-- arms of an IF after others
abbrev pub arms_from : Arms → ℕ → List ArmFromLine → Placed Arms
arms_from others line [] = (others, line)
arms_from others line (first ∷ more) = let a = first others line in arms_from a.0 a.1 more

-- arms of a CASE after others
abbrev pub cases_from : StType → CaseArms → ℕ → List CaseFromLine → Placed CaseArms
cases_from ty others line [] = (others, line)
cases_from ty others line (first ∷ more) = let a = first ty others line in cases_from ty a.0 a.1 more

-- a part whose last line is its end word
abbrev pub up_to_end_word : {X : Type 0} → X → ℕ → Placed X
up_to_end_word x line = (x, line_after line)

-- an IF; where no arm applies and statements follow, they begin on the line after ELSE
abbrev pub choice_from : ℕ → Placed Arms → List FromLine → Placed Statement
choice_from line arms [] = up_to_end_word (choice (on line) arms.0) arms.1
choice_from line arms (first ∷ more) =
    let body = body_from (line_after arms.1) (first ∷ more) in
    up_to_end_word (choice_else (on line) arms.0 body.0) body.1

-- a CASE; where no arm applies and statements follow, they begin on the line after ELSE
abbrev pub cases_else_from : ℕ → Form → Placed CaseArms → List FromLine → Placed Statement
cases_else_from line e arms [] = up_to_end_word (cases (on line) e arms.0) arms.1
cases_else_from line e arms (first ∷ more) =
    let body = body_from (line_after arms.1) (first ∷ more) in
    up_to_end_word (cases_else (on line) e arms.0 body.0) body.1

-- a WHILE, whose statements begin on the line after its test
abbrev pub loop_from : ℕ → Form → Placed Statements → Placed Statement
loop_from line e body = up_to_end_word (loop (on line) e body.0) body.1

-- each formal with its variable
abbrev pub actuals_from : Names → ℕ → Actuals → List Local → List Var → Actuals
actuals_from names line others [] vars = others
actuals_from names line others (formal ∷ formals) [] = others
actuals_from names line others (formal ∷ formals) (v ∷ vars) =
    actuals_from names line (actual others formal.name (on line) (raw_var names v) (on line)) formals vars

-- labels of a type, after others
abbrev pub labels_behind : StType → Labels → List ℤ → Labels
labels_behind ty others [] = others
labels_behind ty others (n ∷ ns) = labels_behind ty (more_labels others (literal_form ty n)) ns

-- the labels of an arm
abbrev pub labels_form : StType → ℤ → List ℤ → Labels
labels_form ty n ns = labels_behind ty (label (literal_form ty n)) ns

-- an arm of a CASE after others: its labels on one line, its statements from the next on; one without labels is
-- not written
abbrev pub arm_with_labels : StType → CaseArms → ℕ → List ℤ → List FromLine → Placed CaseArms
arm_with_labels ty others line [] body = (others, line)
arm_with_labels ty others line (n ∷ ns) body =
    let inner = body_from (line_after line) body in (case_arm others (labels_form ty n ns) inner.0, inner.1)

-- an arm of an IF: its test on one line, its statements from the next on
abbrev pub arm_step : Names → Arm-F FromLine ArmFromLine CaseFromLine → ArmFromLine
arm_step names a others line =
    let body = body_from (line_after line) a.body in (arm others (expr_form names line a.test) body.0, body.1)

-- an arm of a CASE from a line on
abbrev pub case_step : CaseArm-F FromLine ArmFromLine CaseFromLine → CaseFromLine
case_step a ty others line = arm_with_labels ty others line a.labels a.body

-- a statement of one line
abbrev pub one_line : ℕ → Statement → Placed Statement
one_line line s = up_to_end_word s line

-- a statement whose inner statements are given; its own first line is that of its word
abbrev pub statement_step : Names → S.Stmt-F FromLine ArmFromLine CaseFromLine → FromLine
statement_step names (S.Assign v e) line = one_line line (assign (on line) (raw_var names v) (expr_form names line e))
statement_step names (S.AreaWrite w p e) line =
    one_line line (write (on line) w (expr_form names line p) (expr_form names line e))
statement_step names (S.Invoke n vars) line =
    one_line line
    (invoke (on line) (unit_name (slice_get names.units n))
    (actuals_from names line no_actual (formals_of (slice_get names.units n)) vars))
statement_step names (S.If arms other) line = choice_from line (arms_from no_arm line arms) other
statement_step names (S.Case e arms other) line =
    cases_else_from line (expr_form names line e) (cases_from (type_of names e) no_case (line_after line) arms) other
statement_step names (S.While e body) line = loop_from line (expr_form names line e) (body_from (line_after line) body)
statement_step names S.Exit line = one_line line (jump (on line) jump_word.Exit)
statement_step names S.Continue line = one_line line (jump (on line) jump_word.Continue)
statement_step names S.Return line = one_line line (jump (on line) jump_word.Return)

-- a statement from a line on
abbrev pub statement_from : Names → Stmt → FromLine
statement_from names = fold-Stmt FromLine ArmFromLine CaseFromLine (statement_step names) (arm_step names) case_step

-- an arm of an IF from a line on
abbrev pub arm_from : Names → Arm → ArmFromLine
arm_from names = fold-Arm FromLine ArmFromLine CaseFromLine (statement_step names) (arm_step names) case_step

-- an arm of a CASE from a line on
abbrev pub case_from : Names → CaseArm → CaseFromLine
case_from names = fold-CaseArm FromLine ArmFromLine CaseFromLine (statement_step names) (arm_step names) case_step

-- Units

-- formals or locals after others, each on a line of its own
abbrev pub locals_from : Locals → ℕ → List Local → Placed Locals
locals_from others line [] = (others, line)
locals_from others line (first ∷ more) = locals_from (local others first.name (on line) first.ty) (line_after line) more

-- a section of formals or locals; an empty one is not written
abbrev pub section_from : ℕ → List Local → Placed (Section Locals)
section_from line [] = (absent, line)
section_from line (first ∷ more) =
    let locals = locals_from no_local (line_after line) (first ∷ more) in up_to_end_word (present locals.0) locals.1

-- a unit after others
abbrev pub unit_from : StProgram → Units → ℕ → Pou → Placed Units
unit_from text others line u =
    let formals = section_from (line_after line) u.formals in
    let locals = section_from formals.1 u.locals in
    let body = body_from locals.1 (map (statement_from (names_in text u)) u.body) in
    up_to_end_word
    (unit others (record { program = u.program; name = u.name; line = on line; place = on line })
    formals.0 locals.0 body.0)
    body.1

-- units after others, in the tree's order
abbrev pub units_from : StProgram → Units → ℕ → List Pou → Placed Units
units_from text others line [] = (others, line)
units_from text others line (first ∷ more) = let u = unit_from text others line first in units_from text u.0 u.1 more

-- Globals

-- this many equal bytes after others; two or more have their count
abbrev pub run_behind : Items → ℕ → ℕ → Items
run_behind others count b = if count == 1 then single others b else times others count b

-- bytes after this many equal ones, after others
abbrev pub items_behind : Items → ℕ → ℕ → List ℕ → Items
items_behind others count b [] = run_behind others count b
items_behind others count b (next ∷ rest) =
    if b == next then items_behind others (count + 1) b rest else items_behind (run_behind others count b) 1 next rest

-- the bytes of a data block, equal ones in sequence as one item
abbrev pub items_form : List ℕ → Items
items_form [] = no_item
items_form (b ∷ rest) = items_behind no_item 1 b rest

-- the name of a data block
abbrev pub block_name : ℕ → List ℕ
block_name number = codes "DB" ++ decimal number

-- data blocks after others
abbrev pub blocks_from : Globals → ℕ → List DataBlock → Placed Globals
blocks_from others line [] = (others, line)
blocks_from others line (b ∷ more) =
    blocks_from
    (global others (block_name b.number) (on line) (raw.Direct area.Db (Some b.number) width.Byte 0 0) (on line)
    (bytes (length b.bytes - 1) (items_form b.bytes)))
    (line_after line) more

-- the area of a global's place; no proper tree has a global on an area but I, Q and M
abbrev pub area_form : Area → AreaName
area_form place.I = area.I
area_form place.Q = area.Q
area_form place.M = area.M
area_form (place.Db n) = area.M
area_form (place.Local d) = area.M
area_form (place.Cell d) = area.M

-- globals after others
abbrev pub located_from : Globals → ℕ → List Located → Placed Globals
located_from others line [] = (others, line)
located_from others line (g ∷ more) =
    located_from
    (global others g.name (on line)
    (raw.Direct (area_form g.place.area) None (width_at g.ty) g.place.byte g.place.bit) (on line) (plain g.ty))
    (line_after line) more

-- data blocks, then other globals
abbrev pub globals_form : ℕ → List DataBlock → List Located → Placed Globals
globals_form line blocks globals = let first = blocks_from no_global line blocks in located_from first.0 first.1 globals

-- the section of globals; an empty one is not written
abbrev pub globals_from : ℕ → List DataBlock → List Located → Placed (Section Globals)
globals_from line [] [] = (absent, line)
globals_from line blocks globals =
    let inner = globals_form (line_after line) blocks globals in up_to_end_word (present inner.0) inner.1

-- the canonical form of a tree, from line 1 on
abbrev pub source_of : StProgram → Source
source_of text =
    let globals = globals_from 1 text.dbs text.globals in
    record { globals = globals.0; units = (units_from text no_unit globals.1 text.pous).0 }

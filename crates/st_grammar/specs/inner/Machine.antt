-- The states of the parser's pass over the tokens: a stack of what is open, and what may come next.
-- It mirrors the code. A state holds what it has read, in one of two modes: as it is
-- written, or as the code has it.
use Rattle.std.specs.Prelude.{ℕ, ◌+◌, max, ℤ, Bool, List, [], ◌∷◌, ◌++◌}
use Rattle.s7_base.specs.declared.reason.Line.{Line}
use Rattle.s7_base.specs.declared.word.Width.{Width}
use Rattle.st_grammar.specs.Forms.{Form, literal, variable, group, prefix, infix_of, apply, shift, select, Actuals, no_actual, actual, Labels, label, more_labels, Statement, assign, write, invoke, choice, choice_else, cases, cases_else, loop, jump, Statements, none, empty, further, Arms, no_arm, arm, CaseArms, no_case, case_arm, Items, no_item, single, times, GlobalType, plain, bytes, Globals, no_global, global, Locals, no_local, local, Section, absent, present, Head, Units, no_unit, unit}
use Rattle.st_grammar.specs.Grammar.{literal_tree, label_tree, prefix_tree, apply_tree, jump_tree, on_line, arm_of, case_of}
use Rattle.st_grammar.specs.Levels.{height}
use Rattle.st_grammar.specs.declared.heading.Heading.{Heading}
use Rattle.st_grammar.specs.declared.measured.Measured.{Measured}
use Rattle.st_grammar.specs.declared.kind.Function.{Function}
use Rattle.st_grammar.specs.declared.kind.Jump.{Jump}
use Rattle.st_grammar.specs.declared.kind.Literal.{Literal}
use Rattle.st_grammar.specs.declared.kind.OneOperand.{OneOperand}
use Rattle.st_grammar.specs.declared.kind.Prefix.{Prefix}
use Rattle.st_tree.specs.declared.expr.BinaryOp.{BinaryOp}
use Rattle.st_tree.specs.declared.expr.ShiftOp.{ShiftOp}
use Rattle.st_tree.specs.declared.expr.StType.{StType}
use Rattle.st_tree.specs.declared.raw.RawArm.{RawArm}
use Rattle.st_tree.specs.declared.raw.RawCaseArm.{RawCaseArm}
use Rattle.st_tree.specs.declared.raw.RawExpr.{RawExpr}
use Rattle.st_tree.specs.declared.raw.RawExpr.TheVariants as expr
use Rattle.st_tree.specs.declared.raw.RawGlobal.{RawGlobal}
use Rattle.st_tree.specs.declared.raw.RawGlobalType.{RawGlobalType}
use Rattle.st_tree.specs.declared.raw.RawGlobalType.TheVariants as global_type
use Rattle.st_tree.specs.declared.raw.RawLocal.{RawLocal}
use Rattle.st_tree.specs.declared.raw.RawPou.{RawPou}
use Rattle.st_tree.specs.declared.raw.RawStmt.{RawStmt}
use Rattle.st_tree.specs.declared.raw.RawStmtKind.TheVariants as stmt
use Rattle.st_tree.specs.declared.raw.RawVar.{RawVar}

-- the form in which a state has what it has read: as it is written, with brackets and lines, or as the code has it,
-- in raw trees
pub data Mode : Type 0 where
  written : Mode
  code : Mode

-- What is read, in each mode

-- an expression; the code keeps its height with the tree
abbrev pub ExprIn : Mode → Type 0
ExprIn written = Form
ExprIn code = Measured

-- a statement without its `;`
abbrev pub StatementIn : Mode → Type 0
StatementIn written = Statement
StatementIn code = RawStmt

-- statements, those that are empty as they are written alone
abbrev pub StatementsIn : Mode → Type 0
StatementsIn written = Statements
StatementsIn code = List RawStmt

-- the arms of an IF
abbrev pub ArmsIn : Mode → Type 0
ArmsIn written = Arms
ArmsIn code = List RawArm

-- the arms of a CASE
abbrev pub CasesIn : Mode → Type 0
CasesIn written = CaseArms
CasesIn code = List RawCaseArm

-- a name, as it is written with its line
abbrev pub NameIn : Mode → Type 0
NameIn written = List ℕ × Line
NameIn code = List ℕ

-- a variable, as it is written with its line
abbrev pub VarIn : Mode → Type 0
VarIn written = RawVar × Line
VarIn code = RawVar

-- the actuals of a call
abbrev pub ActualsIn : Mode → Type 0
ActualsIn written = Actuals
ActualsIn code = List (List ℕ × RawVar)

-- the labels of an arm
abbrev pub LabelsIn : Mode → Type 0
LabelsIn written = Labels
LabelsIn code = List (StType × ℤ)

-- the bytes of a data block; the code keeps counts and bytes
abbrev pub ItemsIn : Mode → Type 0
ItemsIn written = Items
ItemsIn code = List (ℕ × ℕ)

-- the type of a global, for a data block its last index and its bytes
abbrev pub TypeIn : Mode → Type 0
TypeIn written = GlobalType
TypeIn code = RawGlobalType

-- globals, data blocks among them
abbrev pub GlobalsIn : Mode → Type 0
GlobalsIn written = Globals
GlobalsIn code = List RawGlobal

-- formals or locals
abbrev pub LocalsIn : Mode → Type 0
LocalsIn written = Locals
LocalsIn code = List RawLocal

-- the section of globals, which may be missing; to the code a missing one is empty
abbrev pub GlobalSectionIn : Mode → Type 0
GlobalSectionIn written = Section Globals
GlobalSectionIn code = List RawGlobal

-- a section of formals or locals, which may be missing; to the code a missing one is empty
abbrev pub LocalSectionIn : Mode → Type 0
LocalSectionIn written = Section Locals
LocalSectionIn code = List RawLocal

-- the heading of a unit
abbrev pub HeadIn : Mode → Type 0
HeadIn written = Head
HeadIn code = Heading

-- units
abbrev pub UnitsIn : Mode → Type 0
UnitsIn written = Units
UnitsIn code = List RawPou

-- How it is built

-- a literal or a variable as the code has it, of height 1
abbrev pub leaf : RawExpr → Measured
leaf e = record { tree = e; height = 1 }

-- a literal as an expression
abbrev pub of_literal : (m : Mode) → Literal → ExprIn m
of_literal written c = literal c
of_literal code c = leaf (literal_tree c)

-- a variable as an expression
abbrev pub of_variable : (m : Mode) → RawVar → Line → ExprIn m
of_variable written v line = variable v line
of_variable code v line = leaf (expr.Read v)

-- an expression in brackets, which the code does not keep
abbrev pub of_group : (m : Mode) → ExprIn m → ExprIn m
of_group written f = group f
of_group code e = e

-- `-` or NOT on an operand
abbrev pub of_prefix : (m : Mode) → Prefix → ExprIn m → ExprIn m
of_prefix written op f = prefix op f
of_prefix code op e = record { tree = prefix_tree op e.tree; height = 1 + e.height }

-- an operator between two operands
abbrev pub of_infix : (m : Mode) → BinaryOp → ExprIn m → ExprIn m → ExprIn m
of_infix written op f g = infix_of op f g
of_infix code op a b = record { tree = expr.Binary op a.tree b.tree; height = 1 + max a.height b.height }

-- a function of one operand
abbrev pub of_apply : (m : Mode) → OneOperand → ExprIn m → ExprIn m
of_apply written op f = apply op f
of_apply code op e = record { tree = apply_tree op e.tree; height = 1 + e.height }

-- a shift or a rotation of an operand by another
abbrev pub of_shift : (m : Mode) → ShiftOp → ExprIn m → ExprIn m → ExprIn m
of_shift written op f g = shift op f g
of_shift code op a b = record { tree = expr.Shift op a.tree b.tree; height = 1 + max a.height b.height }

-- SEL of three operands
abbrev pub of_select : (m : Mode) → ExprIn m → ExprIn m → ExprIn m → ExprIn m
of_select written f g h = select f g h
of_select code a b c =
    record { tree = expr.Select a.tree b.tree c.tree; height = 1 + max (max a.height b.height) c.height }

-- how high the tree of an expression is
abbrev pub height_in : (m : Mode) → ExprIn m → ℕ
height_in written f = height f
height_in code e = e.height

-- no statement yet
abbrev pub no_statements : (m : Mode) → StatementsIn m
no_statements written = none
no_statements code = []

-- one more empty statement, which counts as nothing in the code
abbrev pub add_empty : (m : Mode) → StatementsIn m → StatementsIn m
add_empty written before = empty before
add_empty code before = before

-- one more statement
abbrev pub add_statement : (m : Mode) → StatementsIn m → StatementIn m → StatementsIn m
add_statement written before s = further before s
add_statement code before s = before ++ s ∷ []

-- no arm of an IF yet
abbrev pub no_arms : (m : Mode) → ArmsIn m
no_arms written = no_arm
no_arms code = []

-- one more arm of an IF, with its test and its statements
abbrev pub add_arm : (m : Mode) → ArmsIn m → ExprIn m → StatementsIn m → ArmsIn m
add_arm written arms f body = arm arms f body
add_arm code arms e body = arms ++ arm_of e.tree body ∷ []

-- no arm of a CASE yet
abbrev pub no_cases : (m : Mode) → CasesIn m
no_cases written = no_case
no_cases code = []

-- one more arm of a CASE, with its labels and its statements
abbrev pub add_case : (m : Mode) → CasesIn m → LabelsIn m → StatementsIn m → CasesIn m
add_case written arms labels body = case_arm arms labels body
add_case code arms labels body = arms ++ case_of labels body ∷ []

-- the first label of an arm
abbrev pub of_label : (m : Mode) → Literal → LabelsIn m
of_label written c = label c
of_label code c = label_tree c ∷ []

-- one more label of an arm
abbrev pub add_label : (m : Mode) → LabelsIn m → Literal → LabelsIn m
add_label written labels c = more_labels labels c
add_label code labels c = labels ++ label_tree c ∷ []

-- a name on its line
abbrev pub name_on_line : (m : Mode) → List ℕ → Line → NameIn m
name_on_line written name line = (name, line)
name_on_line code name line = name

-- a variable on its line
abbrev pub at_var : (m : Mode) → RawVar → Line → VarIn m
at_var written v line = (v, line)
at_var code v line = v

-- no actual yet
abbrev pub no_actuals : (m : Mode) → ActualsIn m
no_actuals written = no_actual
no_actuals code = []

-- one more actual: a formal's name and the variable that it is given
abbrev pub add_actual : (m : Mode) → ActualsIn m → NameIn m → RawVar → Line → ActualsIn m
add_actual written actuals formal v line = actual actuals formal.0 formal.1 v line
add_actual code actuals formal v line = actuals ++ (formal, v) ∷ []

-- an assignment
abbrev pub of_assign : (m : Mode) → Line → RawVar → ExprIn m → StatementIn m
of_assign written line v f = assign line v f
of_assign code line v e = on_line line (stmt.Assign v e.tree)

-- a write through a pointer
abbrev pub of_write : (m : Mode) → Line → Width → ExprIn m → ExprIn m → StatementIn m
of_write written line w p f = write line w p f
of_write code line w p e = on_line line (stmt.AreaWrite w p.tree e.tree)

-- a call of a function
abbrev pub of_invoke : (m : Mode) → Line → List ℕ → ActualsIn m → StatementIn m
of_invoke written line name actuals = invoke line name actuals
of_invoke code line name actuals = on_line line (stmt.Invoke name actuals)

-- an IF without ELSE
abbrev pub of_choice : (m : Mode) → Line → ArmsIn m → StatementIn m
of_choice written line arms = choice line arms
of_choice code line arms = on_line line (stmt.If arms [])

-- an IF with ELSE
abbrev pub of_choice_else : (m : Mode) → Line → ArmsIn m → StatementsIn m → StatementIn m
of_choice_else written line arms body = choice_else line arms body
of_choice_else code line arms body = on_line line (stmt.If arms body)

-- a CASE without ELSE
abbrev pub of_cases : (m : Mode) → Line → ExprIn m → CasesIn m → StatementIn m
of_cases written line f arms = cases line f arms
of_cases code line e arms = on_line line (stmt.Case e.tree arms [])

-- a CASE with ELSE
abbrev pub of_cases_else : (m : Mode) → Line → ExprIn m → CasesIn m → StatementsIn m → StatementIn m
of_cases_else written line f arms body = cases_else line f arms body
of_cases_else code line e arms body = on_line line (stmt.Case e.tree arms body)

-- a WHILE
abbrev pub of_loop : (m : Mode) → Line → ExprIn m → StatementsIn m → StatementIn m
of_loop written line f body = loop line f body
of_loop code line e body = on_line line (stmt.While e.tree body)

-- EXIT, CONTINUE or RETURN
abbrev pub of_jump : (m : Mode) → Line → Jump → StatementIn m
of_jump written line word = jump line word
of_jump code line word = on_line line (jump_tree word)

-- no byte of a data block yet
abbrev pub no_items : (m : Mode) → ItemsIn m
no_items written = no_item
no_items code = []

-- one more byte, `16#0A`
abbrev pub add_single : (m : Mode) → ItemsIn m → ℕ → ItemsIn m
add_single written items b = single items b
add_single code items b = items ++ (1, b) ∷ []

-- one more run of equal bytes, `3(16#0A)`
abbrev pub add_times : (m : Mode) → ItemsIn m → ℕ → ℕ → ItemsIn m
add_times written items count b = times items count b
add_times code items count b = items ++ (count, b) ∷ []

-- the type of a global on I, Q or M
abbrev pub of_plain : (m : Mode) → StType → TypeIn m
of_plain written ty = plain ty
of_plain code ty = global_type.Plain ty

-- the last index of a data block and its bytes
abbrev pub of_bytes : (m : Mode) → ℕ → ItemsIn m → TypeIn m
of_bytes written last items = bytes last items
of_bytes code last items = global_type.Bytes last items

-- no global yet
abbrev pub no_globals : (m : Mode) → GlobalsIn m
no_globals written = no_global
no_globals code = []

-- one more global
abbrev pub add_global : (m : Mode) → GlobalsIn m → List ℕ → Line → VarIn m → TypeIn m → GlobalsIn m
add_global written globals name line v ty = global globals name line v.0 v.1 ty
add_global code globals name line v ty = globals ++ record { name = name; line = line; at = v; ty = ty } ∷ []

-- no formal or local yet
abbrev pub no_locals : (m : Mode) → LocalsIn m
no_locals written = no_local
no_locals code = []

-- one more formal or local
abbrev pub add_local : (m : Mode) → LocalsIn m → List ℕ → Line → StType → LocalsIn m
add_local written locals name line ty = local locals name line ty
add_local code locals name line ty = locals ++ record { name = name; line = line; ty = ty } ∷ []

-- a text without the section of globals
abbrev pub no_global_section : (m : Mode) → GlobalSectionIn m
no_global_section written = absent
no_global_section code = []

-- the section of globals
abbrev pub global_section : (m : Mode) → GlobalsIn m → GlobalSectionIn m
global_section written globals = present globals
global_section code globals = globals

-- a unit without the section
abbrev pub no_section : (m : Mode) → LocalSectionIn m
no_section written = absent
no_section code = []

-- a section of formals or locals
abbrev pub section_of : (m : Mode) → LocalsIn m → LocalSectionIn m
section_of written locals = present locals
section_of code locals = locals

-- the heading of a unit, with the line of its word and that of its name
abbrev pub head_of : (m : Mode) → Bool → Line → List ℕ → Line → HeadIn m
head_of written program line name place = record { program = program; name = name; line = line; place = place }
head_of code program line name place = record { program = program; name = name; line = line }

-- the unit is a program
abbrev pub is_program : (m : Mode) → HeadIn m → Bool
is_program written head = head.program
is_program code head = head.program

-- no unit yet
abbrev pub no_units : (m : Mode) → UnitsIn m
no_units written = no_unit
no_units code = []

-- one more unit
abbrev pub add_unit : (m : Mode) → UnitsIn m → HeadIn m → LocalSectionIn m → LocalSectionIn m → StatementsIn m
    → UnitsIn m
add_unit written units head formals locals body = unit units head formals locals body
add_unit code units head formals locals body =
    units
    ++ record {
      program = head.program;
      name = head.name;
      line = head.line;
      formals = formals;
      locals = locals;
      body = body;
    } ∷ []

-- What is open

-- a statement that has begun: those before it, and its line
pub record BegunStatement (m : Mode) : Type 0 where
  pub before : StatementsIn m
  pub line : Line

-- an operand of a function, with those before it
pub data Argument (m : Mode) : Type 0 where
  only : OneOperand → Argument m
  shifted : ShiftOp → Argument m
  shifted_by : ShiftOp → ExprIn m → Argument m
  gate : Argument m
  first : ExprIn m → Argument m
  second : ExprIn m → ExprIn m → Argument m

-- what a statement needs an expression for
pub data Need (m : Mode) : Type 0 where
  to_var : RawVar → Need m
  to_area : Width → Need m
  area_value : Width → ExprIn m → Need m
  test : ArmsIn m → Need m
  selector : Need m
  loop_test : Need m

-- a statement whose own statements are read
pub data OuterStatement (m : Mode) : Type 0 where
  choosing : ArmsIn m → ExprIn m → OuterStatement m
  otherwise : ArmsIn m → OuterStatement m
  looping : ExprIn m → OuterStatement m
  selecting : ExprIn m → CasesIn m → LabelsIn m → OuterStatement m
  otherwise_case : ExprIn m → CasesIn m → OuterStatement m

-- what is open: an operator that waits for its operand, a bracket, a function, an expression of a
-- statement, or a statement with statements in it
pub data Frame (m : Mode) : Type 0 where
  unary : Prefix → Frame m
  left : BinaryOp → ExprIn m → Frame m
  bracket : Frame m
  argument : Argument m → Frame m
  waiting : BegunStatement m → Need m → Frame m
  within : BegunStatement m → OuterStatement m → Frame m

-- What may come next

-- a part of a statement that is no expression
pub data Part (m : Mode) : Type 0 where
  target : RawVar → Part m
  write_open : Width → Part m
  first_formal : List ℕ → Part m
  next_formal : List ℕ → ActualsIn m → Part m
  becoming : List ℕ → ActualsIn m → NameIn m → Part m
  giving : List ℕ → ActualsIn m → NameIn m → Part m
  given : List ℕ → ActualsIn m → Part m
  first_label : ExprIn m → CasesIn m → Part m
  next_label : ExprIn m → CasesIn m → LabelsIn m → Part m
  labelled : ExprIn m → CasesIn m → LabelsIn m → Part m

-- what may come next in statements: a statement, a part of one, its `;`, an operand, an operator, or
-- the bracket of a function
pub data Place (m : Mode) : Type 0 where
  statement : StatementsIn m → Place m
  part : BegunStatement m → Part m → Place m
  closing : StatementsIn m → StatementIn m → Place m
  operand : Place m
  operator : ExprIn m → Place m
  opening : Function → Place m

-- where the pass is in statements: the depth, what is open, what may come next
pub record BodyState (m : Mode) : Type 0 where
  pub depth : ℕ
  pub stack : List (Frame m)
  pub place : Place m

-- the part of a global after its name
pub data GlobalTail (m : Mode) : Type 0 where
  at_word : GlobalTail m
  at_place : GlobalTail m
  at_colon : VarIn m → GlobalTail m
  at_type : VarIn m → GlobalTail m
  at_square : VarIn m → GlobalTail m
  at_zero : VarIn m → GlobalTail m
  at_dots : VarIn m → GlobalTail m
  at_last : VarIn m → GlobalTail m
  at_close : VarIn m → ℕ → GlobalTail m
  at_of : VarIn m → ℕ → GlobalTail m
  at_byte : VarIn m → ℕ → GlobalTail m
  at_becomes : VarIn m → ℕ → GlobalTail m
  at_open : VarIn m → ℕ → GlobalTail m
  at_item : VarIn m → ℕ → ItemsIn m → GlobalTail m
  at_count : VarIn m → ℕ → ItemsIn m → ℕ → GlobalTail m
  at_value : VarIn m → ℕ → ItemsIn m → ℕ → GlobalTail m
  at_value_end : VarIn m → ℕ → ItemsIn m → ℕ → ℕ → GlobalTail m
  at_comma : VarIn m → ℕ → ItemsIn m → GlobalTail m
  at_end : VarIn m → TypeIn m → GlobalTail m

-- the part of a local after its name
pub data Typing : Type 0 where
  local_colon : Typing
  local_type : Typing
  local_end : StType → Typing

-- the text so far: its globals, and the units that have ended
pub record TextSoFar (m : Mode) : Type 0 where
  pub globals : GlobalSectionIn m
  pub units : UnitsIn m

-- a unit that has begun: the text before it, and its heading
pub record BegunUnit (m : Mode) : Type 0 where
  pub text : TextSoFar m
  pub head : HeadIn m

-- which section is read: formals, or locals after the formals
pub data SectionKind (m : Mode) : Type 0 where
  formals : SectionKind m
  temps : LocalSectionIn m → SectionKind m

-- where the pass is in a text, with all that it has read so far
pub data State (m : Mode) : Type 0 where
  start : State m
  globals : GlobalsIn m → State m
  global_tail : GlobalsIn m → List ℕ → Line → GlobalTail m → State m
  between : TextSoFar m → State m
  heading : TextSoFar m → Bool → Line → State m
  opened : BegunUnit m → State m
  formals_done : BegunUnit m → LocalSectionIn m → State m
  section : BegunUnit m → SectionKind m → LocalsIn m → State m
  typing : BegunUnit m → SectionKind m → LocalsIn m → List ℕ → Line → Typing → State m
  inside : BegunUnit m → LocalSectionIn m → LocalSectionIn m → BodyState m → State m
  over : TextSoFar m → State m

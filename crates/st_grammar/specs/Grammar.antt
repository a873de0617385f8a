-- The grammar of a Structured Text. Which forms are of the language, the tokens that they spell, and the tree of a
-- text before its names are looked up.
-- Held against: IEC 61131-3, 'Structured Text' and 'Program organization units'.
use Rattle.std.specs.Prelude.{◌≡◌, ℕ, ◌≤◌, ◌<◌, ℤ, pos, Bool, true, false, nat_le, List, [], ◌∷◌, ◌++◌}
use Rattle.s7_base.specs.declared.reason.Line.{Line}
use Rattle.st_grammar.specs.Forms.{Form, literal, variable, group, prefix, infix_of, apply, shift, select, Actuals, no_actual, actual, Labels, label, more_labels, Statement, assign, write, invoke, choice, choice_else, cases, cases_else, loop, jump, Statements, none, empty, further, Arms, no_arm, arm, CaseArms, no_case, case_arm, Items, no_item, single, times, GlobalType, plain, bytes, Globals, no_global, global, Locals, no_local, local, Section, absent, present, Head, Units, no_unit, unit, Source}
use Rattle.st_tree.specs.Form.{infix_level}
use Rattle.st_tree.specs.Naming.{is_free, may_name_local, may_name_unit, names_block}
use Rattle.st_grammar.specs.declared.kind.Fixed.TheVariants as fixed
use Rattle.st_grammar.specs.declared.kind.Function.TheVariants as function
use Rattle.st_grammar.specs.declared.kind.Jump.{Jump}
use Rattle.st_grammar.specs.declared.kind.Jump.TheVariants as jump_word
use Rattle.st_grammar.specs.declared.kind.GrammarKind.{GrammarKind}
use Rattle.st_grammar.specs.declared.kind.GrammarKind.TheVariants as kind
use Rattle.st_grammar.specs.declared.kind.Lead.TheVariants as lead
use Rattle.st_grammar.specs.declared.kind.Literal.{Literal}
use Rattle.st_grammar.specs.declared.kind.Literal.TheVariants as lit
use Rattle.st_grammar.specs.declared.kind.OneOperand.{OneOperand}
use Rattle.st_grammar.specs.declared.kind.OneOperand.TheVariants as one
use Rattle.st_grammar.specs.declared.kind.Prefix.{Prefix}
use Rattle.st_grammar.specs.declared.kind.Prefix.TheVariants as before
use Rattle.st_tree.specs.declared.expr.BinaryOp.{BinaryOp}
use Rattle.st_tree.specs.declared.expr.BinaryOp.TheVariants as binary
use Rattle.st_tree.specs.declared.expr.StType.{StType}
use Rattle.st_tree.specs.declared.expr.StType.TheVariants as type
use Rattle.st_tree.specs.declared.expr.UnaryOp.TheVariants as unary
use Rattle.st_tree.specs.declared.raw.RawArm.{RawArm, roll-RawArm}
use Rattle.st_tree.specs.declared.raw.RawCaseArm.{RawCaseArm, roll-RawCaseArm}
use Rattle.st_tree.specs.declared.raw.RawExpr.{RawExpr}
use Rattle.st_tree.specs.declared.raw.RawExpr.TheVariants as expr
use Rattle.st_tree.specs.declared.raw.RawGlobal.{RawGlobal}
use Rattle.st_tree.specs.declared.raw.RawGlobalType.{RawGlobalType}
use Rattle.st_tree.specs.declared.raw.RawGlobalType.TheVariants as global_type
use Rattle.st_tree.specs.declared.raw.RawLocal.{RawLocal}
use Rattle.st_tree.specs.declared.raw.RawPou.{RawPou}
use Rattle.st_tree.specs.declared.raw.RawSt.{RawSt}
use Rattle.st_tree.specs.declared.raw.RawStmt.{RawStmt}
use Rattle.st_tree.specs.declared.raw.RawStmtKind.{RawStmtKind}
use Rattle.st_tree.specs.declared.raw.RawStmtKind.TheVariants as stmt
use Rattle.st_tree.specs.declared.raw.RawVar.{RawVar}
use Rattle.st_tree.specs.declared.raw.RawVar.TheVariants as var

-- The levels of precedence, the highest first: operands, brackets and functions 0, `-` 1, NOT 2,
-- `*` `/` MOD 3, `+` `-` 4, `<` `>` `<=` `>=` 5, `=` `<>` 6, AND 7, XOR 8, OR 9.

-- the precedence of an operator before its operand, 0 the highest
abbrev pub prefix_level : Prefix → ℕ
prefix_level before.Minus = 1
prefix_level before.Not = 2

-- the precedence of an expression: that of its outermost operator that no brackets enclose
abbrev pub level : Form → ℕ
level (literal c) = 0
level (variable v line) = 0
level (group f) = 0
level (prefix op f) = prefix_level op
level (infix_of op f g) = infix_level op
level (apply op f) = 0
level (shift op f g) = 0
level (select f g h) = 0

-- What is of the language

-- a decimal without a type is a DINT, and is not above the greatest DINT
abbrev pub is_value : Literal → Bool
is_value (lit.Decimal n) = nat_le n 2147483647
is_value (lit.Byte b) = true
is_value (lit.Typed ty n) = true

-- each operand binds as tightly as its place asks; operators between operands group to the left
abbrev pub Binds : Form → Type 0
Binds (literal c) = is_value c ≡ true
Binds (variable v line) = Unit {0}
Binds (group f) = Binds f
Binds (prefix op f) = (level f ≤ prefix_level op) × Binds f
Binds (infix_of op f g) = (level f ≤ infix_level op) × (level g < infix_level op) × Binds f × Binds g
Binds (apply op f) = Binds f
Binds (shift op f g) = Binds f × Binds g
Binds (select f g h) = Binds f × Binds g × Binds h

-- EXIT and CONTINUE are inside a WHILE alone
abbrev pub may_jump : Bool → Jump → Bool
may_jump inside jump_word.Exit = inside
may_jump inside jump_word.Continue = inside
may_jump inside jump_word.Return = true

-- each label has a value
abbrev pub LabelsFit : Labels → Type 0
LabelsFit (label c) = is_value c ≡ true
LabelsFit (more_labels others c) = LabelsFit others × (is_value c ≡ true)

-- an IF has an arm
abbrev pub HasArm : Arms → Type 0
HasArm no_arm = ⊥
HasArm (arm others e body) = Unit {0}

-- a CASE has an arm
abbrev pub HasCase : CaseArms → Type 0
HasCase no_case = ⊥
HasCase (case_arm others labels body) = Unit {0}

-- statements, inside a WHILE or not, are of the language
abbrev mutual
  pub Fits : Bool → Statement → Type 0
  Fits inside (assign line v e) = Binds e
  Fits inside (write line w p e) = Binds p × Binds e
  Fits inside (invoke line name actuals) = Unit {0}
  Fits inside (choice line arms) = HasArm arms × ArmsFit inside arms
  Fits inside (choice_else line arms body) = HasArm arms × ArmsFit inside arms × AllFit inside body
  Fits inside (cases line e arms) = Binds e × HasCase arms × CasesFit inside arms
  Fits inside (cases_else line e arms body) = Binds e × HasCase arms × CasesFit inside arms × AllFit inside body
  Fits inside (loop line e body) = Binds e × AllFit true body
  Fits inside (jump line word) = may_jump inside word ≡ true

  -- each of some statements is of the language
  pub AllFit : Bool → Statements → Type 0
  AllFit inside none = Unit {0}
  AllFit inside (empty before) = AllFit inside before
  AllFit inside (further before s) = AllFit inside before × Fits inside s

  -- each arm of an IF has a test and statements of the language
  pub ArmsFit : Bool → Arms → Type 0
  ArmsFit inside no_arm = Unit {0}
  ArmsFit inside (arm others e body) = ArmsFit inside others × Binds e × AllFit inside body

  -- each arm of a CASE has labels and statements of the language
  pub CasesFit : Bool → CaseArms → Type 0
  CasesFit inside no_case = Unit {0}
  CasesFit inside (case_arm others labels body) = CasesFit inside others × LabelsFit labels × AllFit inside body

-- a global is at a direct variable
abbrev pub is_direct : RawVar → Bool
is_direct (var.Name name) = false
is_direct (var.Direct area block w byte bit) = true

-- the name of a data block goes with its bytes, a free name with a type
abbrev pub is_global : List ℕ → GlobalType → Bool
is_global name (plain ty) = is_free name
is_global name (bytes last items) = names_block name

-- each global is at a direct variable, and its name goes with what is declared
abbrev pub GlobalsFit : Globals → Type 0
GlobalsFit no_global = Unit {0}
GlobalsFit (global others name line v place ty) = GlobalsFit others × (is_direct v ≡ true) × (is_global name ty ≡ true)

-- a formal has another type than LINT
abbrev pub is_formal_type : StType → Bool
is_formal_type type.Lint = false
is_formal_type other = true

-- each formal has a free name and a type that a formal may have
abbrev pub FormalsFit : Locals → Type 0
FormalsFit no_local = Unit {0}
FormalsFit (local others name line ty) = FormalsFit others × (is_free name ≡ true) × (is_formal_type ty ≡ true)

-- each local is named `NEXT` or by a free name
abbrev pub LocalsFit : Locals → Type 0
LocalsFit no_local = Unit {0}
LocalsFit (local others name line ty) = LocalsFit others × (may_name_local name ≡ true)

-- a property of a section, if the section exists
abbrev pub IfPresent : {X : Type 0} → (X → Type 0) → Section X → Type 0
IfPresent P absent = Unit {0}
IfPresent P (present x) = P x

-- only functions have formals
abbrev pub HeadFits : Bool → Section Locals → Type 0
HeadFits program absent = Unit {0}
HeadFits program (present formals) = (program ≡ false) × FormalsFit formals

-- each unit has a name that a unit may have, sections that it may have, and statements of the language
abbrev pub UnitsFit : Units → Type 0
UnitsFit no_unit = Unit {0}
UnitsFit (unit others head formals locals body) =
    UnitsFit others × (may_name_unit head.name ≡ true) × HeadFits head.program formals
    × IfPresent LocalsFit locals × AllFit false body

-- a whole text is of the language
abbrev pub SourceFits : Source → Type 0
SourceFits source = IfPresent GlobalsFit source.globals × UnitsFit source.units

-- What is spelled: each form before the tokens after it

-- the token of an operator before its operand
abbrev pub prefix_kind : Prefix → GrammarKind
prefix_kind before.Minus = kind.Fixed (fixed.Between binary.Sub)
prefix_kind before.Not = kind.Fixed fixed.Not

-- the tokens of an expression, before those after it
abbrev pub spell : Form → List GrammarKind → List GrammarKind
spell (literal c) more = kind.Literal c ∷ more
spell (variable v line) more = kind.Variable v line ∷ more
spell (group f) more = kind.Fixed fixed.Open ∷ spell f (kind.Fixed fixed.Close ∷ more)
spell (prefix op f) more = prefix_kind op ∷ spell f more
spell (infix_of op f g) more = spell f (kind.Fixed (fixed.Between op) ∷ spell g more)
spell (apply op f) more =
    kind.Fixed (fixed.Function (function.One op)) ∷ kind.Fixed fixed.Open ∷ spell f (kind.Fixed fixed.Close ∷ more)
spell (shift op f g) more =
    kind.Fixed (fixed.Function (function.Shift op)) ∷ kind.Fixed fixed.Open
    ∷ spell f (kind.Fixed fixed.Comma ∷ spell g (kind.Fixed fixed.Close ∷ more))
spell (select f g h) more =
    kind.Fixed (fixed.Function function.Select) ∷ kind.Fixed fixed.Open
    ∷ spell f (kind.Fixed fixed.Comma ∷ spell g (kind.Fixed fixed.Comma ∷ spell h (kind.Fixed fixed.Close ∷ more)))

-- a comma after the actuals, before the next one
abbrev pub comma_behind : Actuals → List GrammarKind → List GrammarKind
comma_behind no_actual more = more
comma_behind (actual others name line v place) more = kind.Fixed fixed.Comma ∷ more

-- the tokens of a call's actuals, formal `:=` variable, with commas between them
abbrev pub spell_actuals : Actuals → List GrammarKind → List GrammarKind
spell_actuals no_actual more = more
spell_actuals (actual others name line v place) more =
    spell_actuals others
    (comma_behind others (kind.Variable (var.Name name) line ∷ kind.Fixed fixed.Becomes ∷ kind.Variable v place ∷ more))

-- the tokens of an arm's labels, with commas between them
abbrev pub spell_labels : Labels → List GrammarKind → List GrammarKind
spell_labels (label c) more = kind.Literal c ∷ more
spell_labels (more_labels others c) more = spell_labels others (kind.Fixed fixed.Comma ∷ kind.Literal c ∷ more)

-- the word before the test of an arm: IF for the first, ELSIF for the others
abbrev pub arm_word : Line → Arms → GrammarKind
arm_word line no_arm = kind.Lead lead.If line
arm_word line (arm others e body) = kind.Fixed fixed.Elsif

-- the tokens of statements, before those after them
abbrev mutual
  pub spell_one : Statement → List GrammarKind → List GrammarKind
  spell_one (assign line v e) more = kind.Variable v line ∷ kind.Fixed fixed.Becomes ∷ spell e more
  spell_one (write line w p e) more =
      kind.Lead (lead.AreaWrite w) line ∷ kind.Fixed fixed.Open
      ∷ spell p (kind.Fixed fixed.Comma ∷ spell e (kind.Fixed fixed.Close ∷ more))
  spell_one (invoke line name actuals) more =
      kind.Variable (var.Name name) line ∷ kind.Fixed fixed.Open ∷ spell_actuals actuals (kind.Fixed fixed.Close ∷ more)
  spell_one (choice line arms) more = spell_arms line arms (kind.Fixed fixed.EndIf ∷ more)
  spell_one (choice_else line arms body) more =
      spell_arms line arms (kind.Fixed fixed.Else ∷ spell_all body (kind.Fixed fixed.EndIf ∷ more))
  spell_one (cases line e arms) more =
      kind.Lead lead.Case line ∷ spell e (kind.Fixed fixed.Of ∷ spell_cases arms (kind.Fixed fixed.EndCase ∷ more))
  spell_one (cases_else line e arms body) more =
      kind.Lead lead.Case line
      ∷ spell e
      (kind.Fixed fixed.Of
      ∷ spell_cases arms (kind.Fixed fixed.Else ∷ spell_all body (kind.Fixed fixed.EndCase ∷ more)))
  spell_one (loop line e body) more =
      kind.Lead lead.While line ∷ spell e (kind.Fixed fixed.Do ∷ spell_all body (kind.Fixed fixed.EndWhile ∷ more))
  spell_one (jump line word) more = kind.Lead (lead.Jump word) line ∷ more

  -- statements in their order, each with its `;`; an empty one is its `;` alone
  pub spell_all : Statements → List GrammarKind → List GrammarKind
  spell_all none more = more
  spell_all (empty before) more = spell_all before (kind.Fixed fixed.Semicolon ∷ more)
  spell_all (further before s) more = spell_all before (spell_one s (kind.Fixed fixed.Semicolon ∷ more))

  -- the arms of an IF that begins on a line: word, test, THEN and statements
  pub spell_arms : Line → Arms → List GrammarKind → List GrammarKind
  spell_arms line no_arm more = more
  spell_arms line (arm others e body) more =
      spell_arms line others (arm_word line others ∷ spell e (kind.Fixed fixed.Then ∷ spell_all body more))

  -- the arms of a CASE: labels, `:` and statements
  pub spell_cases : CaseArms → List GrammarKind → List GrammarKind
  spell_cases no_case more = more
  spell_cases (case_arm others labels body) more =
      spell_cases others (spell_labels labels (kind.Fixed fixed.Colon ∷ spell_all body more))

-- a comma after the bytes, before the next ones
abbrev pub comma_past : Items → List GrammarKind → List GrammarKind
comma_past no_item more = more
comma_past (single others b) more = kind.Fixed fixed.Comma ∷ more
comma_past (times others count b) more = kind.Fixed fixed.Comma ∷ more

-- the tokens of the bytes of a data block, `16#0A` or `3(16#0A)`, with commas between them
abbrev pub spell_items : Items → List GrammarKind → List GrammarKind
spell_items no_item more = more
spell_items (single others b) more = spell_items others (comma_past others (kind.Literal (lit.Byte b) ∷ more))
spell_items (times others count b) more =
    spell_items others
    (comma_past others
    (kind.Literal (lit.Decimal count) ∷ kind.Fixed fixed.Open ∷ kind.Literal (lit.Byte b)
    ∷ kind.Fixed fixed.Close ∷ more))

-- `:=` and the bytes in square brackets, if there are any
abbrev pub spell_initial : Items → List GrammarKind → List GrammarKind
spell_initial no_item more = more
spell_initial items more =
    kind.Fixed fixed.Becomes ∷ kind.Fixed fixed.OpenSquare ∷ spell_items items (kind.Fixed fixed.CloseSquare ∷ more)

-- `ARRAY[0..k] OF BYTE` before the tokens after it
abbrev pub spell_array : ℕ → List GrammarKind → List GrammarKind
spell_array last more =
    kind.Fixed fixed.Array ∷ kind.Fixed fixed.OpenSquare ∷ kind.Literal (lit.Decimal 0) ∷ kind.Fixed fixed.Dots
    ∷ kind.Literal (lit.Decimal last)
    ∷ kind.Fixed fixed.CloseSquare ∷ kind.Fixed fixed.Of ∷ kind.Fixed (fixed.Type type.Byte) ∷ more

-- the tokens of a global's type, for a data block with its bytes
abbrev pub spell_type : GlobalType → List GrammarKind → List GrammarKind
spell_type (plain ty) more = kind.Fixed (fixed.Type ty) ∷ more
spell_type (bytes last items) more = spell_array last (spell_initial items more)

-- the tokens of globals: name, AT, place, `:`, type and `;`
abbrev pub spell_globals : Globals → List GrammarKind → List GrammarKind
spell_globals no_global more = more
spell_globals (global others name line v place ty) more =
    spell_globals others
    (kind.Variable (var.Name name) line ∷ kind.Fixed fixed.At ∷ kind.Variable v place ∷ kind.Fixed fixed.Colon
    ∷ spell_type ty (kind.Fixed fixed.Semicolon ∷ more))

-- the tokens of formals or locals: name, `:`, type and `;`
abbrev pub spell_locals : Locals → List GrammarKind → List GrammarKind
spell_locals no_local more = more
spell_locals (local others name line ty) more =
    spell_locals others
    (kind.Variable (var.Name name) line ∷ kind.Fixed fixed.Colon ∷ kind.Fixed (fixed.Type ty)
    ∷ kind.Fixed fixed.Semicolon ∷ more)

-- a section from its word to END_VAR, if it exists
abbrev pub spell_section : {X : Type 0} → GrammarKind → (X → List GrammarKind → List GrammarKind)
    → Section X → List GrammarKind → List GrammarKind
spell_section word spelled absent more = more
spell_section word spelled (present x) more = word ∷ spelled x (kind.Fixed fixed.EndVar ∷ more)

-- the first word of a unit: PROGRAM or FUNCTION, with its line
abbrev pub unit_word : Bool → Line → GrammarKind
unit_word true line = kind.Lead lead.Program line
unit_word false line = kind.Lead lead.Function line

-- the last word of a unit: END_PROGRAM or END_FUNCTION
abbrev pub end_word : Bool → GrammarKind
end_word true = kind.Fixed fixed.EndProgram
end_word false = kind.Fixed fixed.EndFunction

-- the tokens of the section VAR_IN_OUT of a function, if it exists
abbrev pub spell_formals : Section Locals → List GrammarKind → List GrammarKind
spell_formals formals more = spell_section (kind.Fixed fixed.VarInOut) spell_locals formals more

-- the tokens of the section VAR_TEMP of a unit, if it exists
abbrev pub spell_temps : Section Locals → List GrammarKind → List GrammarKind
spell_temps locals more = spell_section (kind.Fixed fixed.VarTemp) spell_locals locals more

-- the tokens of a unit's heading: its first word and its name
abbrev pub spell_head : Head → List GrammarKind → List GrammarKind
spell_head head more = unit_word head.program head.line ∷ kind.Variable (var.Name head.name) head.place ∷ more

-- the tokens of units: heading, sections, statements and end word
abbrev pub spell_units : Units → List GrammarKind → List GrammarKind
spell_units no_unit more = more
spell_units (unit others head formals locals body) more =
    spell_units others
    (spell_head head (spell_formals formals (spell_temps locals (spell_all body (end_word head.program ∷ more)))))

-- the whole text, with its end
abbrev pub spell_source : Source → List GrammarKind
spell_source source =
    spell_section (kind.Fixed fixed.VarGlobal) spell_globals source.globals
    (spell_units source.units (kind.Fixed fixed.End ∷ []))

-- Trees

-- a literal as an expression: a decimal is a DINT, a byte is a DWORD
abbrev pub literal_tree : Literal → RawExpr
literal_tree (lit.Decimal n) = expr.Literal type.Dint (pos n)
literal_tree (lit.Byte b) = expr.Literal type.Dword (pos b)
literal_tree (lit.Typed ty n) = expr.Literal ty n

-- a label as its type and its value: a decimal is a DINT, a byte is a DWORD
abbrev pub label_tree : Literal → StType × ℤ
label_tree (lit.Decimal n) = (type.Dint, pos n)
label_tree (lit.Byte b) = (type.Dword, pos b)
label_tree (lit.Typed ty n) = (ty, n)

-- `-` or NOT on an expression
abbrev pub prefix_tree : Prefix → RawExpr → RawExpr
prefix_tree before.Minus e = expr.Unary unary.Minus e
prefix_tree before.Not e = expr.Unary unary.Not e

-- a function of one operand on an expression
abbrev pub apply_tree : OneOperand → RawExpr → RawExpr
apply_tree (one.Convert from to) e = expr.Convert from to e
apply_tree one.BcdToInt e = expr.Unary unary.BcdToInt e
apply_tree one.BcdToDint e = expr.Unary unary.BcdToDint e
apply_tree (one.AreaRead w) e = expr.AreaRead w e

-- an expression without its brackets
abbrev pub tree : Form → RawExpr
tree (literal c) = literal_tree c
tree (variable v line) = expr.Read v
tree (group f) = tree f
tree (prefix op f) = prefix_tree op (tree f)
tree (infix_of op f g) = expr.Binary op (tree f) (tree g)
tree (apply op f) = apply_tree op (tree f)
tree (shift op f g) = expr.Shift op (tree f) (tree g)
tree (select f g h) = expr.Select (tree f) (tree g) (tree h)

-- the actuals of a call, each its formal's name and its variable, in the order of the text
abbrev pub tree_actuals : Actuals → List (List ℕ × RawVar)
tree_actuals no_actual = []
tree_actuals (actual others name line v place) = tree_actuals others ++ (name, v) ∷ []

-- the labels of an arm in the order of the text, with their types
abbrev pub tree_labels : Labels → List (StType × ℤ)
tree_labels (label c) = label_tree c ∷ []
tree_labels (more_labels others c) = tree_labels others ++ label_tree c ∷ []

-- EXIT, CONTINUE or RETURN
abbrev pub jump_tree : Jump → RawStmtKind
jump_tree jump_word.Exit = stmt.Exit
jump_tree jump_word.Continue = stmt.Continue
jump_tree jump_word.Return = stmt.Return

-- a statement with its line
abbrev pub on_line : Line → RawStmtKind → RawStmt
on_line line what = record { line = line; kind = what }

-- an arm of an IF, with its statements
abbrev pub arm_of : RawExpr → List RawStmt → RawArm
arm_of test body = roll-RawArm (record { test = test; body = body })

-- an arm of a CASE, with its statements
abbrev pub case_of : List (StType × ℤ) → List RawStmt → RawCaseArm
case_of labels body = roll-RawCaseArm (record { labels = labels; body = body })

-- the trees of statements; empty statements and an empty ELSE count as nothing
abbrev mutual
  pub tree_one : Statement → RawStmt
  tree_one (assign line v e) = on_line line (stmt.Assign v (tree e))
  tree_one (write line w p e) = on_line line (stmt.AreaWrite w (tree p) (tree e))
  tree_one (invoke line name actuals) = on_line line (stmt.Invoke name (tree_actuals actuals))
  tree_one (choice line arms) = on_line line (stmt.If (tree_arms arms) [])
  tree_one (choice_else line arms body) = on_line line (stmt.If (tree_arms arms) (tree_all body))
  tree_one (cases line e arms) = on_line line (stmt.Case (tree e) (tree_cases arms) [])
  tree_one (cases_else line e arms body) = on_line line (stmt.Case (tree e) (tree_cases arms) (tree_all body))
  tree_one (loop line e body) = on_line line (stmt.While (tree e) (tree_all body))
  tree_one (jump line word) = on_line line (jump_tree word)

  -- statements in the order of the text
  pub tree_all : Statements → List RawStmt
  tree_all none = []
  tree_all (empty before) = tree_all before
  tree_all (further before s) = tree_all before ++ tree_one s ∷ []

  -- the arms of an IF in the order of the text
  pub tree_arms : Arms → List RawArm
  tree_arms no_arm = []
  tree_arms (arm others e body) = tree_arms others ++ arm_of (tree e) (tree_all body) ∷ []

  -- the arms of a CASE in the order of the text
  pub tree_cases : CaseArms → List RawCaseArm
  tree_cases no_case = []
  tree_cases (case_arm others labels body) = tree_cases others ++ case_of (tree_labels labels) (tree_all body) ∷ []

-- the bytes as counts and values
abbrev pub tree_items : Items → List (ℕ × ℕ)
tree_items no_item = []
tree_items (single others b) = tree_items others ++ (1, b) ∷ []
tree_items (times others count b) = tree_items others ++ (count, b) ∷ []

-- the type of a global, for a data block its last index and its bytes
abbrev pub tree_type : GlobalType → RawGlobalType
tree_type (plain ty) = global_type.Plain ty
tree_type (bytes last items) = global_type.Bytes last (tree_items items)

-- the globals of a text in their order, data blocks among them
abbrev pub tree_globals : Globals → List RawGlobal
tree_globals no_global = []
tree_globals (global others name line v place ty) =
    tree_globals others ++ record { name = name; line = line; at = v; ty = tree_type ty } ∷ []

-- the formals or the locals of a unit in their order
abbrev pub tree_locals : Locals → List RawLocal
tree_locals no_local = []
tree_locals (local others name line ty) = tree_locals others ++ record { name = name; line = line; ty = ty } ∷ []

-- the declarations of a section; none if it is missing
abbrev pub section_items : {X Y : Type 0} → (X → List Y) → Section X → List Y
section_items trees absent = []
section_items trees (present x) = trees x

-- the units of a text in their order
abbrev pub tree_units : Units → List RawPou
tree_units no_unit = []
tree_units (unit others head formals locals body) =
    tree_units others
    ++ record {
      program = head.program;
      name = head.name;
      line = head.line;
      formals = section_items tree_locals formals;
      locals = section_items tree_locals locals;
      body = tree_all body;
    } ∷ []

-- the tree of a whole text before its names are looked up
abbrev pub raw_tree : Source → RawSt
raw_tree source = record { globals = section_items tree_globals source.globals; pous = tree_units source.units }

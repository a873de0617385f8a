-- How statements are judged. What they are in the tree, and the rules that are broken in them. The parts of a
-- statement before its inner statements have the line of its first word.
-- Held against: IEC 61131-3, 'Statements'.
use Rattle.std.specs.Prelude.{ℤ, Bool, ◌&&◌, ◌++◌, if◌then◌else◌, List, [], map, Option, Some, None}
use Rattle.std.specs.List.{list_all}
use Rattle.s7_base.specs.declared.reason.Line.{Line}
use Rattle.s7_base.specs.declared.reason.Reason.TheVariants.{TypeMismatch}
use Rattle.s7_base.specs.declared.word.Width.{Width}
use Rattle.st_tree.specs.Values.{type_of_width}
use Rattle.st_tree.specs.declared.expr.Expr.{Expr}
use Rattle.st_tree.specs.declared.expr.StType.{StType}
use Rattle.st_tree.specs.declared.expr.StType.TheVariants as type
use Rattle.st_tree.specs.declared.program.Arm.{Arm}
use Rattle.st_tree.specs.declared.program.CaseArm.{CaseArm}
use Rattle.st_tree.specs.declared.program.Stmt.{Stmt}
use Rattle.st_tree.specs.declared.program.Stmt.TheVariants as stmt
use Rattle.st_tree.specs.declared.raw.RawExpr.{RawExpr}
use Rattle.st_tree.specs.declared.raw.RawArm.{RawArm, RawArm-F, fold-RawArm}
use Rattle.st_tree.specs.declared.raw.RawCaseArm.{RawCaseArm, RawCaseArm-F, fold-RawCaseArm}
use Rattle.st_tree.specs.declared.raw.RawStmt.{RawStmt, RawStmt-F, fold-RawStmt}
use Rattle.st_tree.specs.declared.raw.RawStmtKind.{RawStmtKind, fold-RawStmtKind}
use Rattle.st_tree.specs.declared.raw.RawStmtKind.TheOpen as K
use Rattle.s7_base.specs.Broken.{rule_break}
use Rattle.st_rules.specs.Judged.{Judged, sound, nothing, breaks_rule, after_breaks, found_in, breaks_in}
use Rattle.st_rules.specs.Expressions.{expression, variable_on}
use Rattle.st_rules.specs.Invocations.{invocation}
use Rattle.st_tree.specs.TypeRules.{is_type, is_selector}
use Rattle.s7_base.specs.declared.rule_break.Break.{Break}
use Rattle.st_rules.specs.declared.expression.Typed.{Typed}
use Rattle.st_names.specs.declared.scope.NameScope.{NameScope}
use Rattle.st_names.specs.declared.variable.TypedVar.{TypedVar}

-- an assignment: both sides have equal types
abbrev pub assignment_of : Line → Option TypedVar → Option Typed → Judged Stmt
assignment_of line None e = nothing
assignment_of line (Some v) None = nothing
assignment_of line (Some v) (Some e) =
    if is_type v.ty e.ty then sound (stmt.Assign v.var e.tree) else breaks_rule line TypeMismatch

-- a write through a pointer, which is a DWORD, of a value of the width's bit type
abbrev pub area_write_of : Line → Width → Option Typed → Option Typed → Judged Stmt
area_write_of line w None e = nothing
area_write_of line w (Some p) None = nothing
area_write_of line w (Some p) (Some e) =
    if is_type p.ty type.Dword && is_type e.ty (type_of_width w) then sound (stmt.AreaWrite w p.tree e.tree)
    else breaks_rule line TypeMismatch

-- the test of an IF or a WHILE, once its expression is judged: it must be a BOOL
abbrev pub test_of : Line → Option Typed → Judged Expr
test_of line None = nothing
test_of line (Some e) = if is_type e.ty type.Bool then sound e.tree else breaks_rule line TypeMismatch

-- the test of an IF or a WHILE, on the line of its statement
abbrev pub test : NameScope → Line → RawExpr → Judged Expr
test scope line e = let j = expression scope line e in after_breaks j.breaks (test_of line j.found)

-- the selector of a CASE, once its expression is judged: it must be an INT or a DINT
abbrev pub selector_of : Line → Option Typed → Judged Typed
selector_of line None = nothing
selector_of line (Some e) = if is_selector e.ty then sound e else breaks_rule line TypeMismatch

-- the selector of a CASE, on the line of its statement
abbrev pub selector : NameScope → Line → RawExpr → Judged Typed
selector scope line e = let j = expression scope line e in after_breaks j.breaks (selector_of line j.found)

-- the type of a selector
abbrev pub type_of_selector : Option Typed → Option StType
type_of_selector None = None
type_of_selector (Some e) = Some e.ty

-- all labels have a type
abbrev pub have_type : StType → List (StType × ℤ) → Bool
have_type ty labels = list_all (λ (label : StType × ℤ). is_type label.0 ty) labels

-- the labels of a CASE have the type of its selector
abbrev pub label_breaks : Line → Option StType → List (StType × ℤ) → List Break
label_breaks line None labels = []
label_breaks line (Some ty) labels = if have_type ty labels then [] else rule_break line TypeMismatch

-- an arm of an IF; none where its test breaks a rule
abbrev pub arm_of : Option Expr → List Stmt → Option Arm
arm_of None body = None
arm_of (Some e) body = Some (record { test = e; body = body })

-- a WHILE; none where its test breaks a rule
abbrev pub while_of : Option Expr → List Stmt → Option Stmt
while_of None body = None
while_of (Some e) body = Some (stmt.While e body)

-- a CASE; none where its selector breaks a rule
abbrev pub case_of : Option Typed → List CaseArm → List Stmt → Option Stmt
case_of None arms other = None
case_of (Some e) arms other = Some (stmt.Case e.tree arms other)

-- an arm of an IF, which waits for the line of its statement
abbrev pub Armed : Type 0
Armed = Line → Judged Arm

-- an arm of a CASE, which waits for the line of its statement and for the type of the selector, if
-- there is one
abbrev pub Labelled : Type 0
Labelled = Line → Option StType → Judged CaseArm

-- a statement of the tree, which waits for its line
abbrev pub Done : Type 0
Done = Line → Judged Stmt

-- an arm of an IF by its test and its statements
abbrev pub arm_step : NameScope → RawArm-F Done Armed Labelled (Judged Stmt) → Armed
arm_step scope a line = record {
  found = arm_of (test scope line a.test).found (found_in a.body);
  breaks = (test scope line a.test).breaks ++ breaks_in a.body;
}

-- an arm of a CASE by its labels and its statements
abbrev pub case_arm_step : RawCaseArm-F Done Armed Labelled (Judged Stmt) → Labelled
case_arm_step a line ty = record {
  found = Some (record { labels = map (λ (label : StType × ℤ). label.1) a.labels; body = found_in a.body });
  breaks = label_breaks line ty a.labels ++ breaks_in a.body;
}

-- the arms of an IF, judged on its line
abbrev pub arms_on : Line → List Armed → List (Judged Arm)
arms_on line arms = map (λ (arm : Armed). arm line) arms

-- the arms of a CASE, judged on its line and by the type of its selector
abbrev pub case_arms_on : Line → Option StType → List Labelled → List (Judged CaseArm)
case_arms_on line ty arms = map (λ (arm : Labelled). arm line ty) arms

-- a statement of the tree, by its parts
abbrev pub kind_step : NameScope → K.RawStmtKind-F Done Armed Labelled (Judged Stmt) → Done
kind_step scope (K.Assign v e) line =
    let j = variable_on scope line v in
    let k = expression scope line e in
    after_breaks (j.breaks ++ k.breaks) (assignment_of line j.found k.found)
kind_step scope (K.AreaWrite w p e) line =
    let j = expression scope line p in
    let k = expression scope line e in
    after_breaks (j.breaks ++ k.breaks) (area_write_of line w j.found k.found)
kind_step scope (K.Invoke name actuals) line = invocation scope line name actuals
kind_step scope (K.If arms other) line = record {
  found = Some (stmt.If (found_in (arms_on line arms)) (found_in other));
  breaks = breaks_in (arms_on line arms) ++ breaks_in other;
}
kind_step scope (K.Case e arms other) line =
    let j = selector scope line e in
    let ks = case_arms_on line (type_of_selector j.found) arms in
    record {
      found = case_of j.found (found_in ks) (found_in other);
      breaks = j.breaks ++ breaks_in ks ++ breaks_in other;
    }
kind_step scope (K.While e body) line = record {
  found = while_of (test scope line e).found (found_in body);
  breaks = (test scope line e).breaks ++ breaks_in body;
}
kind_step scope K.Exit line = sound stmt.Exit
kind_step scope K.Continue line = sound stmt.Continue
kind_step scope K.Return line = sound stmt.Return

-- a statement, judged on its own line
abbrev pub statement_step : RawStmt-F Done Armed Labelled (Judged Stmt) → Judged Stmt
statement_step s = s.kind s.line

-- a statement in a scope: what it is in the tree, and the rules that it breaks
abbrev pub statement : NameScope → RawStmt → Judged Stmt
statement scope =
    fold-RawStmt Done Armed Labelled (Judged Stmt) (kind_step scope) (arm_step scope) case_arm_step statement_step

-- an arm of an IF in a scope
abbrev pub arm : NameScope → RawArm → Armed
arm scope =
    fold-RawArm Done Armed Labelled (Judged Stmt) (kind_step scope) (arm_step scope) case_arm_step statement_step

-- an arm of a CASE in a scope
abbrev pub case_arm : NameScope → RawCaseArm → Labelled
case_arm scope =
    fold-RawCaseArm Done Armed Labelled (Judged Stmt) (kind_step scope) (arm_step scope) case_arm_step statement_step

-- a statement of the tree in a scope, once its line is known
abbrev pub action : NameScope → RawStmtKind → Done
action scope =
    fold-RawStmtKind Done Armed Labelled (Judged Stmt) (kind_step scope) (arm_step scope) case_arm_step statement_step

-- a list of statements
abbrev pub statements : NameScope → List RawStmt → List (Judged Stmt)
statements scope body = map (statement scope) body

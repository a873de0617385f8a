-- How deep a text nests. The IF, CASE, WHILE and brackets count that are open, and each `-` and NOT whose operand is
-- not complete; and of an operator between operands also how high the tree to its left is.
-- Held against: this project's own bounds.
use Rattle.std.specs.Prelude.{ℕ, suc, max, List, map}
use Rattle.s7_base.specs.Numbers.{greatest}
use Rattle.st_tree.specs.Form.{Form, area_read, canon, convert, digits_to, group, infix_of, literal, prefix, select, shift, variable}
use Rattle.st_tree.specs.declared.expr.Expr.{Expr}
use Rattle.st_tree.specs.declared.program.Arm.{Arm, Arm-F, fold-Arm}
use Rattle.st_tree.specs.declared.program.CaseArm.{CaseArm, CaseArm-F, fold-CaseArm}
use Rattle.st_tree.specs.declared.program.Stmt.{Stmt, fold-Stmt}
use Rattle.st_tree.specs.declared.program.Stmt.TheOpen as S

-- how high a tree is; brackets add nothing
abbrev pub form_height : Form → ℕ
form_height (literal ty n) = 1
form_height (variable v) = 1
form_height (group f) = form_height f
form_height (prefix op f) = suc (form_height f)
form_height (infix_of op f g) = suc (max (form_height f) (form_height g))
form_height (digits_to op f) = suc (form_height f)
form_height (convert from to f) = suc (form_height f)
form_height (select f g h) = suc (max (max (form_height f) (form_height g)) (form_height h))
form_height (shift op f g) = suc (max (form_height f) (form_height g))
form_height (area_read w f) = suc (form_height f)

-- how many levels an expression opens, with its brackets: what is in brackets, or after `-` or NOT, is one deeper,
-- and an operator between operands is as deep as the tree to its left is high
abbrev pub form_nesting : Form → ℕ
form_nesting (literal ty n) = 0
form_nesting (variable v) = 0
form_nesting (group f) = suc (form_nesting f)
form_nesting (prefix op f) = suc (form_nesting f)
form_nesting (infix_of op f g) = max (max (form_nesting f) (form_height f)) (form_nesting g)
form_nesting (digits_to op f) = suc (form_nesting f)
form_nesting (convert from to f) = suc (form_nesting f)
form_nesting (select f g h) = suc (max (max (form_nesting f) (form_nesting g)) (form_nesting h))
form_nesting (shift op f g) = suc (max (form_nesting f) (form_nesting g))
form_nesting (area_read w f) = suc (form_nesting f)

-- how many levels an expression opens, with the brackets that it needs
abbrev pub expression_nesting : Expr → ℕ
expression_nesting e = form_nesting (canon e)

-- how many levels a statement opens, by those of its parts; a call opens its bracket
abbrev pub nesting_step : S.Stmt-F ℕ ℕ ℕ → ℕ
nesting_step (S.Assign v e) = expression_nesting e
nesting_step (S.AreaWrite w p e) = suc (max (expression_nesting p) (expression_nesting e))
nesting_step (S.Invoke n vars) = 1
nesting_step (S.If arms other) = suc (max (greatest arms) (greatest other))
nesting_step (S.Case e arms other) = suc (max (expression_nesting e) (max (greatest arms) (greatest other)))
nesting_step (S.While e body) = suc (max (expression_nesting e) (greatest body))
nesting_step S.Exit = 0
nesting_step S.Continue = 0
nesting_step S.Return = 0

-- how many levels an arm of an IF opens inside it, by those of its parts
abbrev pub arm_step : Arm-F ℕ ℕ ℕ → ℕ
arm_step arm = max (expression_nesting arm.test) (greatest arm.body)

-- how many levels an arm of a CASE opens inside it, by those of its statements
abbrev pub case_step : CaseArm-F ℕ ℕ ℕ → ℕ
case_step arm = greatest arm.body

-- how many levels a statement opens
abbrev pub nesting : Stmt → ℕ
nesting = fold-Stmt ℕ ℕ ℕ nesting_step arm_step case_step

-- how many levels an arm of an IF opens inside it
abbrev pub arm_nesting : Arm → ℕ
arm_nesting = fold-Arm ℕ ℕ ℕ nesting_step arm_step case_step

-- how many levels an arm of a CASE opens inside it
abbrev pub case_nesting : CaseArm → ℕ
case_nesting = fold-CaseArm ℕ ℕ ℕ nesting_step arm_step case_step

-- how many levels a body opens
abbrev pub body_nesting : List Stmt → ℕ
body_nesting body = greatest (map nesting body)

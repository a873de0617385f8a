-- How many nodes the expressions of statements have.
use Rattle.std.proofs.Common.{◌≡◌, ℕ, ◌+◌, Bool, false, List, [], ◌∷◌, ◌++◌, refl, ap, ◌∙◌, arith}
use Rattle.std.specs.Prelude.{ℤ}
use Rattle.std.specs.List.{sum_by}
use Rattle.std.proofs.lemmas.List.Sums.{sum_by-append, sum_by-cons}
use Rattle.s7_base.specs.declared.register.Reg.{Reg}
use Rattle.s7_base.specs.declared.register.Reg.TheVariants as reg
use Rattle.s7_base.specs.declared.word.Width.{Width}
use Rattle.st_tree.proofs.Equations.{fold_area_read, fold_binary, fold_convert, fold_literal, fold_read, fold_select, fold_shift, fold_unary}
use Rattle.st_tree.proofs.PartEquations.{expressions_in_append, expressions_in_area_write, expressions_in_assign}
use Rattle.st_tree.specs.BodyParts.{expressions_in}
use Rattle.st_tree.specs.declared.expr.BinaryOp.{BinaryOp}
use Rattle.st_tree.specs.declared.expr.Expr.{Expr}
use Rattle.st_tree.specs.declared.expr.Expr.TheVariants as expr
use Rattle.st_tree.specs.declared.expr.ShiftOp.{ShiftOp}
use Rattle.st_tree.specs.declared.expr.StType.{StType}
use Rattle.st_tree.specs.declared.expr.UnaryOp.{UnaryOp}
use Rattle.st_tree.specs.declared.expr.UnaryOp.TheVariants as unary
use Rattle.st_tree.specs.declared.expr.Var.{Var}
use Rattle.st_tree.specs.declared.expr.Var.TheVariants as var
use Rattle.st_tree.specs.declared.program.Stmt.{Stmt}
use Rattle.st_tree.specs.declared.program.Stmt.TheVariants as stmt
use Rattle.template_parts.specs.Builders.{clear_or, literal_of, not_of, read_of, set_of}
use Rattle.template_parts.specs.Nodes.{nodes, nodes_in, nodes_step}

-- Expressions

pub of_read : (v : Var) → nodes (expr.Read v) ≡ 1
of_read v = fold_read ℕ nodes_step v

pub of_constant : (ty : StType) (n : ℤ) → nodes (expr.Literal ty n) ≡ 1
of_constant ty n = fold_literal ℕ nodes_step ty n

pub of_unary : (op : UnaryOp) (e : Expr) → nodes (expr.Unary op e) ≡ 1 + nodes e
of_unary op e = fold_unary ℕ nodes_step op e

pub of_joined : (op : BinaryOp) (e f : Expr) → nodes (expr.Binary op e f) ≡ 1 + nodes e + nodes f
of_joined op e f = fold_binary ℕ nodes_step op e f

pub of_convert : (from to : StType) (e : Expr) → nodes (expr.Convert from to e) ≡ 1 + nodes e
of_convert from to e = fold_convert ℕ nodes_step from to e

pub of_select : (gate e f : Expr) → nodes (expr.Select gate e f) ≡ 1 + nodes gate + nodes e + nodes f
of_select gate e f = fold_select ℕ nodes_step gate e f

pub of_shift : (op : ShiftOp) (e count : Expr) → nodes (expr.Shift op e count) ≡ 1 + nodes e + nodes count
of_shift op e count = fold_shift ℕ nodes_step op e count

pub of_area_read : (w : Width) (e : Expr) → nodes (expr.AreaRead w e) ≡ 1 + nodes e
of_area_read w e = fold_area_read ℕ nodes_step w e

pub of_literal : (b : Bool) → nodes (literal_of b) ≡ 1
of_literal b = of_constant _ _

pub of_not : (e : Expr) → nodes (not_of e) ≡ 1 + nodes e
of_not e = of_unary unary.Not e

pub of_register : (r : Reg) → nodes (read_of r) ≡ 1
of_register r = of_read (var.Register r)

pub of_not_register : (r : Reg) → nodes (not_of (read_of r)) ≡ 2
of_not_register r = omega (arith, of_not (read_of r), of_register r)

-- Statements

pub of_assign : (v : Var) (e : Expr) (rest : List Stmt) → nodes_in (stmt.Assign v e ∷ rest) ≡ nodes e + nodes_in rest
of_assign v e rest = ap (sum_by nodes) (expressions_in_assign v e rest) ∙ sum_by-cons nodes e (expressions_in rest)

pub of_area_write : (w : Width) (p e : Expr) (rest : List Stmt) → nodes_in (stmt.AreaWrite w p e ∷ rest) ≡ nodes p + (nodes e + nodes_in rest)
of_area_write w p e rest =
    ap (sum_by nodes) (expressions_in_area_write w p e rest)
    ∙ sum_by-cons nodes p (e ∷ expressions_in rest)
    ∙ ap (λ (n : ℕ). nodes p + n) (sum_by-cons nodes e (expressions_in rest))

pub of_append : (xs ys : List Stmt) → nodes_in (xs ++ ys) ≡ nodes_in xs + nodes_in ys
of_append xs ys = ap (sum_by nodes) (expressions_in_append xs ys) ∙ sum_by-append nodes (expressions_in xs) (expressions_in ys)

pub of_nothing : nodes_in [] ≡ 0
of_nothing = refl

pub of_nfc : (b : Bool) → nodes_in (set_of reg.Nfc (literal_of b) ∷ []) ≡ 1
of_nfc b = omega (arith, of_assign (var.Register reg.Nfc) (literal_of b) [], of_literal b, of_nothing)

pub of_cleared : (b : Bool) → nodes_in (clear_or b) ≡ 2
of_cleared b = omega (arith, of_assign (var.Register reg.Orb) (literal_of false) (set_of reg.Nfc (literal_of b) ∷ []), of_literal false, of_nfc b)

-- those of given statements, as a number
pub ruleset counts = (of_assign, of_area_write, of_read, of_constant, of_unary, of_joined, of_convert, of_select, of_shift, of_area_read)

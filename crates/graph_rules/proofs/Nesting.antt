-- An expression that is so high nests at most twice as deep, with the brackets that it needs.
use Rattle.std.proofs.Common.{ℕ, ◌+◌, ◌*◌, ◌-◌, ◌≤◌, Bool, true, false, if◌then◌else◌, arith}
use Rattle.std.specs.Prelude.{nat_lt}
use Rattle.st_tree.proofs.Induction.{Both, folds_related}
use Rattle.st_tree.specs.Form.{Form, canon, canon_step, group, infix_level, level, unary_form, wrap}
use Rattle.st_tree.specs.Nesting.{expression_nesting, form_height, form_nesting}
use Rattle.st_tree.specs.BodyParts.{height, height_step}
use Rattle.st_tree.specs.declared.expr.Expr.{Expr, map-Expr}
use Rattle.st_tree.specs.declared.expr.Expr.TheOpen as E
use Rattle.st_tree.specs.declared.expr.UnaryOp.{UnaryOp}
use Rattle.st_tree.specs.declared.expr.UnaryOp.TheVariants as unary

-- a form of an expression of this height: it is no higher, and nests at most twice as deep, less the two levels of a
-- single operand
abbrev IsBounded : Form → ℕ → Type 0
IsBounded f n = (form_height f ≤ n) × (form_nesting f + 2 ≤ 2 * n)

-- brackets add a level and no height
record IsWrapped (j n : ℕ) (f : Form) : Type 0 where
  high : form_height (wrap j f) ≤ n
  deep : form_nesting (wrap j f) + 1 ≤ 2 * n

wrapped : (j n : ℕ) (f : Form) → IsBounded f n → IsWrapped j n f
wrapped j n f h = record { high = high (nat_lt j (level f)); deep = deep (nat_lt j (level f)) }
  where
    high : (b : Bool) → form_height (if b then group f else f) ≤ n
    high true = h.0
    high false = h.0

    deep : (b : Bool) → form_nesting (if b then group f else f) + 1 ≤ 2 * n
    deep true = omega (arith, h.1)
    deep false = omega (arith, h.1)

one_operand : (op : UnaryOp) (f : Form) (n : ℕ) → IsBounded f n → IsBounded (unary_form op f) (1 + n)
one_operand unary.Minus f n h =
    let w = wrapped 1 n f h in (omega (arith, w.high), omega (arith, w.deep))
one_operand unary.Not f n h =
    let w = wrapped 2 n f h in (omega (arith, w.high), omega (arith, w.deep))
one_operand unary.BcdToInt f n h = (omega (arith, h.0), omega (arith, h.1))
one_operand unary.BcdToDint f n h = (omega (arith, h.0), omega (arith, h.1))

-- one layer, whatever bounded operands it has
layer : (y : E.Expr-F (Both IsBounded))
    → IsBounded (canon_step (map-Expr (Both IsBounded) Form (λ x. x.0) y)) (height_step (map-Expr (Both IsBounded) ℕ (λ x. x.1) y))
layer (E.Literal ty n) = (omega arith, omega arith)
layer (E.Read v) = (omega arith, omega arith)
layer (E.Unary op a) = one_operand op a.0 a.1 a.2
layer (E.Binary op a b) =
    let left = wrapped (infix_level op) a.1 a.0 a.2 in
    let right = wrapped (infix_level op - 1) b.1 b.0 b.2 in
    (omega (arith, left.high, right.high), omega (arith, left.high, left.deep, right.deep))
layer (E.Convert from to a) = (omega (arith, a.2.0), omega (arith, a.2.1))
layer (E.Select a b c) = (omega (arith, a.2.0, b.2.0, c.2.0), omega (arith, a.2.1, b.2.1, c.2.1))
layer (E.Shift op a b) = (omega (arith, a.2.0, b.2.0), omega (arith, a.2.1, b.2.1))
layer (E.AreaRead w a) = (omega (arith, a.2.0), omega (arith, a.2.1))

pub nests_at_most_twice : (e : Expr) → expression_nesting e + 2 ≤ 2 * height e
nests_at_most_twice e = let h : IsBounded (canon e) (height e) = folds_related IsBounded canon_step height_step layer e in h.1

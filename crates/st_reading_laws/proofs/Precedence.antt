-- The levels of precedence of operators and forms.
use Rattle.st_tree.proofs.Common.{ℕ, ◌-◌, ◌<◌, ◌≤◌, arith, infix_level, weakest}
use Rattle.st_grammar.proofs.Common.{Form, prefix, infix_of, level, prefix_level}
use Rattle.st_grammar.specs.declared.kind.Prefix.{Prefix}
use Rattle.st_grammar.specs.declared.kind.Prefix.TheVariants as before
use Rattle.st_tree.specs.declared.expr.BinaryOp.{BinaryOp}
use Rattle.st_tree.specs.declared.expr.BinaryOp.TheVariants as binary

pub prefix_above : (u : Prefix) (op : BinaryOp) → prefix_level u < infix_level op
prefix_above before.Minus binary.Mul = omega arith
prefix_above before.Not binary.Mul = omega arith
prefix_above u op = omega arith

pub infix_most : (op : BinaryOp) → infix_level op ≤ weakest
infix_most binary.Mul = omega arith
infix_most op = omega arith

pub infix_some : (op : BinaryOp) → 0 < infix_level op
infix_some op = let h = prefix_above before.Not op in omega arith

pub prefix_most : (u : Prefix) → prefix_level u ≤ weakest
prefix_most before.Minus = omega arith
prefix_most before.Not = omega arith

pub level_most : (f : Form) → level f ≤ weakest
level_most (prefix op f) = prefix_most op
level_most (infix_of op f g) = infix_most op
level_most f = omega arith

pub below_one : (j k : ℕ) → 0 < k → j ≤ k - 1 → j < k
below_one j k p h = omega arith

pub less_one : (j k : ℕ) → j < k → j ≤ k - 1
less_one j k h = omega arith

-- An expression that is found low is low, and so is the opposite of a test.
use Rattle.std.proofs.Common.{◌≡◌, ℕ, ◌+◌, ◌-◌, ◌<◌, ◌≤◌, max, Bool, true, ◌&&◌, if◌then◌else◌, Option, Some, None, refl, sym, ap, ◌∙◌, arith}
use Rattle.std.specs.Prelude.{is_some, nat_lt}
use Rattle.std.proofs.lemmas.Bool.{and_parts, ltb-true}
use Rattle.condition_laws.specs.inner.Negation.{has_low_negation, is_low, low_negation_step, low_step, negation, negation_between, negation_step, opposite}
use Rattle.st_tree.proofs.Induction.{Layers, folds_related}
use Rattle.st_tree.proofs.PartEquations.{height_binary, height_unary}
use Rattle.st_tree.specs.BodyParts.{height, height_step}
use Rattle.st_tree.specs.declared.expr.BinaryOp.{BinaryOp}
use Rattle.st_tree.specs.declared.expr.Expr.{Expr, out-Expr, roll-Expr, roll-out-Expr}
use Rattle.st_tree.specs.declared.expr.Expr.TheOpen as E
use Rattle.st_tree.specs.declared.expr.Expr.TheVariants as expr
use Rattle.st_tree.specs.declared.expr.UnaryOp.TheVariants as unary

-- a height is at most each number that a test says so of
abbrev IsBound : (ℕ → Bool) → ℕ → Type 0
IsBound f h = (most : ℕ) → f most ≡ true → h ≤ most

layers : Layers IsBound low_step height_step
layers (E.Literal ty n) most h = let low : 0 < most = ltb-true 0 most h in omega arith
layers (E.Read v) most h = let low : 0 < most = ltb-true 0 most h in omega arith
layers (E.Unary op a) most h =
    let parts = and_parts (nat_lt 0 most) (a.0 (most - 1)) h in
    let low : 0 < most = ltb-true 0 most parts.0 in
    let one : a.1 ≤ most - 1 = a.2 (most - 1) parts.1 in omega arith
layers (E.Convert from to a) most h =
    let parts = and_parts (nat_lt 0 most) (a.0 (most - 1)) h in
    let low : 0 < most = ltb-true 0 most parts.0 in
    let one : a.1 ≤ most - 1 = a.2 (most - 1) parts.1 in omega arith
layers (E.AreaRead w a) most h =
    let parts = and_parts (nat_lt 0 most) (a.0 (most - 1)) h in
    let low : 0 < most = ltb-true 0 most parts.0 in
    let one : a.1 ≤ most - 1 = a.2 (most - 1) parts.1 in omega arith
layers (E.Binary op a b) most h =
    let parts = and_parts (nat_lt 0 most && a.0 (most - 1)) (b.0 (most - 1)) h in
    let first = and_parts (nat_lt 0 most) (a.0 (most - 1)) parts.0 in
    let low : 0 < most = ltb-true 0 most first.0 in
    let one : a.1 ≤ most - 1 = a.2 (most - 1) first.1 in
    let two : b.1 ≤ most - 1 = b.2 (most - 1) parts.1 in omega arith
layers (E.Shift op a b) most h =
    let parts = and_parts (nat_lt 0 most && a.0 (most - 1)) (b.0 (most - 1)) h in
    let first = and_parts (nat_lt 0 most) (a.0 (most - 1)) parts.0 in
    let low : 0 < most = ltb-true 0 most first.0 in
    let one : a.1 ≤ most - 1 = a.2 (most - 1) first.1 in
    let two : b.1 ≤ most - 1 = b.2 (most - 1) parts.1 in omega arith
layers (E.Select gate a b) most h =
    let parts = and_parts (nat_lt 0 most && gate.0 (most - 1) && a.0 (most - 1)) (b.0 (most - 1)) h in
    let second = and_parts (nat_lt 0 most && gate.0 (most - 1)) (a.0 (most - 1)) parts.0 in
    let first = and_parts (nat_lt 0 most) (gate.0 (most - 1)) second.0 in
    let low : 0 < most = ltb-true 0 most first.0 in
    let one : gate.1 ≤ most - 1 = gate.2 (most - 1) first.1 in
    let two : a.1 ≤ most - 1 = a.2 (most - 1) second.1 in
    let three : b.1 ≤ most - 1 = b.2 (most - 1) parts.1 in omega arith

pub low_is : (e : Expr) (most : ℕ) → is_low e most ≡ true → height e ≤ most
low_is e = folds_related IsBound low_step height_step layers e

-- Opposites

-- a test by its layer
pub rolled : (e : Expr) (y : E.Expr-F Expr) → out-Expr e ≡ y → e ≡ roll-Expr y
rolled e y h = sym (roll-out-Expr e) ∙ ap roll-Expr h

after_not : (e : Expr) → is_low e 31 ≡ true → height (expr.Unary unary.Not e) ≤ 32
after_not e h =
    let is : height (expr.Unary unary.Not e) ≡ 1 + height e = height_unary unary.Not e in
    let low : height e ≤ 31 = low_is e 31 h in omega arith

between : (o : Option BinaryOp) (op : BinaryOp) (e a b : Expr) → e ≡ expr.Binary op a b
    → (if is_some o then is_low e 32 else is_low e 31) ≡ true → height (negation_between o e a b) ≤ 32
between None op e a b same h = after_not e h
between (Some other) op e a b same h =
    let low : height e ≤ 32 = low_is e 32 h in
    let old : height e ≡ 1 + max (height a) (height b) = ap height same ∙ height_binary op a b in
    let new : height (expr.Binary other a b) ≡ 1 + max (height a) (height b) = height_binary other a b in omega arith

pub negation_low : (e : Expr) → has_low_negation e ≡ true → height (negation e) ≤ 32
negation_low e h = by (out-Expr e) refl h
  where
    by : (y : E.Expr-F Expr) → out-Expr e ≡ y → low_negation_step e y ≡ true → height (negation_step e y) ≤ 32
    by (E.Unary unary.Not a) is low = low_is a 32 low
    by (E.Binary op a b) is low = between (opposite op) op e a b (rolled e (E.Binary op a b) is ∙ expr.rolls-Binary op a b) low
    by y is low = after_not e low

-- The disorder of given statements, whose locals are numbered from one on.
use Rattle.std.proofs.Common.{◌≡◌, ℕ, suc, ◌+◌, ◌-◌, List, [], ◌∷◌, refl, arith}
pub use native.Mathlib.Numerals.{unary_clauses}
use Rattle.s7_base.specs.declared.register.Reg.{Reg}
use Rattle.st_tree.specs.declared.expr.Var.{Var}
use Rattle.st_tree.specs.declared.expr.Var.TheVariants as var
use Rattle.graph_rules.proofs.Runs.{missed}

pub missed_none : (low w : ℕ) → missed low w [] ≡ 0
missed_none low w = refl

pub missed_local : (low w i : ℕ) (vs : List Var) → missed low w (var.Local i ∷ vs) ≡ (suc i - w) + (low - i) + missed low w vs
missed_local low w i vs = refl

pub missed_register : (low w : ℕ) (r : Reg) (vs : List Var) → missed low w (var.Register r ∷ vs) ≡ missed low w vs
missed_register low w r vs = refl

pub itself : (n : ℕ) → n - n ≡ 0
itself n = omega arith

pub one_above : (n : ℕ) → n - suc n ≡ 0
one_above n = omega arith

pub two_above : (n : ℕ) → n - suc (suc n) ≡ 0
two_above n = omega arith

pub three_above : (n : ℕ) → n - suc (suc (suc n)) ≡ 0
three_above n = omega arith

pub four_above : (n : ℕ) → n - suc (suc (suc (suc n))) ≡ 0
four_above n = omega arith

-- 0, once `order_equations` say what is read: each difference is of numbers that follow each other, and omega would
-- split them all
pub ruleset local_order = (missed_none, missed_local, missed_register, itself, one_above, two_above, three_above, four_above, unary_clauses)

-- The opposite of a test is TRUE where the test is FALSE, and faults where the test faults.
use Rattle.std.proofs.Common.{◌≡◌, ℕ, zero, suc, ◌<◌, ◌^◌, Bool, true, false, not, ℤ, pos, List, Option, Some, None, Result, Ok, Err, refl, sym, ap, ◌∙◌, subst, arith}
use Rattle.std.specs.Prelude.{int_le, int_lt}
use Rattle.std.specs.Ordering.{int_eq}
use Rattle.std.proofs.lemmas.Int.{ints}
use Rattle.memory_areas.specs.Access.{and_then}
use Rattle.condition_laws.proofs.Heights.{rolled}
use Rattle.condition_laws.proofs.Typed.{under_not}
use Rattle.condition_laws.specs.inner.Negation.{negation, negation_between, negation_step, opposite}
use Rattle.s7_base.specs.declared.outcome.Fault.{Fault}
use Rattle.st_tree.proofs.Equations.{value_binary, value_unary}
use Rattle.st_tree.proofs.FittingCalls.{value_of}
use Rattle.st_tree.proofs.FittingValues.{is_typed, pattern_below}
use Rattle.st_tree.proofs.TypingEquations.{type_had}
use Rattle.st_tree.specs.Fitting.{Fits, IsOf}
use Rattle.st_tree.specs.Operators.{binary_value, unary_value}
use Rattle.st_tree.specs.State.{State}
use Rattle.st_tree.specs.Value.{value}
use Rattle.st_tree.specs.declared.state.Value.{Value}
use Rattle.st_tree.specs.Values.{flag, is_set, pattern}
use Rattle.st_tree.specs.WellTyped.{expression_type, has_type, unit_scope_in}
use Rattle.st_tree.specs.declared.expr.BinaryOp.{BinaryOp}
use Rattle.st_tree.specs.declared.expr.BinaryOp.TheVariants as binary
use Rattle.st_tree.specs.declared.expr.Expr.{Expr, out-Expr}
use Rattle.st_tree.specs.declared.expr.Expr.TheOpen as E
use Rattle.st_tree.specs.declared.expr.Expr.TheVariants as expr
use Rattle.st_tree.specs.declared.expr.StType.TheVariants as type
use Rattle.st_tree.specs.declared.expr.UnaryOp.TheVariants as unary
use Rattle.st_tree.specs.declared.program.Pou.{Pou}
use Rattle.st_tree.specs.declared.program.StProgram.{StProgram}

-- a second result faults alike, and is TRUE where the first is not
abbrev pub AreOpposite : Result Value Fault → Result Value Fault → Type 0
AreOpposite (Err f) r = r ≡ Err f
AreOpposite (Ok v) r = (w : Value) × (r ≡ Ok w) × (is_set w ≡ not (is_set v))

-- Values

-- a BOOL is FALSE or TRUE

bit : (k : ℕ) → k < 2 ^ 1 → (b : Bool) × (record { ty = type.Bool; n = pos k } ≡ flag b)
bit zero h = (false, refl)
bit (suc zero) h = (true, refl)
bit (suc (suc k)) h = absurd (omega arith)

bool_is : (v : Value) → IsOf type.Bool v → (b : Bool) × (v ≡ flag b)
bool_is v h =
    let found = bit (pattern 1 v.n) (pattern_below 1 v.n) in (found.0, is_typed type.Bool v h ∙ found.1)

flag_set : (b : Bool) → is_set (flag b) ≡ b
flag_set true = refl
flag_set false = refl

-- NOT

before_not : (b : Bool) → AreOpposite (Ok (flag b)) (unary_value unary.Not (flag b))
before_not true = (flag false, refl, refl)
before_not false = (flag true, refl, refl)

behind_not : (b : Bool) → AreOpposite (unary_value unary.Not (flag b)) (Ok (flag b))
behind_not true = (flag true, refl, refl)
behind_not false = (flag false, refl, refl)

not_opposite : (r : Result Value Fault) → ((v : Value) → r ≡ Ok v → IsOf type.Bool v)
    → AreOpposite r (and_then r (unary_value unary.Not))
not_opposite (Err f) h = refl
not_opposite (Ok v) h =
    let found = bool_is v (h v refl) in
    subst (λ (w : Value). AreOpposite (Ok w) (unary_value unary.Not w)) (sym found.1) (before_not found.0)

of_not_opposite : (r : Result Value Fault) → ((v : Value) → r ≡ Ok v → IsOf type.Bool v)
    → AreOpposite (and_then r (unary_value unary.Not)) r
of_not_opposite (Err f) h = refl
of_not_opposite (Ok v) h =
    let found = bool_is v (h v refl) in
    subst (λ (w : Value). AreOpposite (unary_value unary.Not w) (Ok w)) (sym found.1) (behind_not found.0)

-- Comparisons

flags_opposite : (a b : Bool) → b ≡ not a → AreOpposite (Ok (flag a)) (Ok (flag b))
flags_opposite a b h = (flag b, refl, flag_set b ∙ (h ∙ ap not (sym (flag_set a))))

le_not_lt : (a b : ℤ) → int_le b a ≡ not (int_lt a b)
le_not_lt a b = grind (arith, ints)

lt_not_le : (a b : ℤ) → int_lt b a ≡ not (int_le a b)
lt_not_le a b = grind (arith, ints)

twice : (b : Bool) → b ≡ not (not b)
twice true = refl
twice false = refl

-- a comparison, and the one that its opposite is, if there is one
abbrev OtherIs : BinaryOp → Option BinaryOp → Type 0
OtherIs op None = Unit {0}
OtherIs op (Some other) = (v w : Value) → AreOpposite (binary_value op v w) (binary_value other v w)

other_is : (op : BinaryOp) → OtherIs op (opposite op)
other_is binary.Lt = λ v w. flags_opposite _ _ (le_not_lt v.n w.n)
other_is binary.Gt = λ v w. flags_opposite _ _ (le_not_lt w.n v.n)
other_is binary.Le = λ v w. flags_opposite _ _ (lt_not_le v.n w.n)
other_is binary.Ge = λ v w. flags_opposite _ _ (lt_not_le w.n v.n)
other_is binary.Eq = λ v w. flags_opposite _ _ refl
other_is binary.Ne = λ v w. flags_opposite _ _ (twice (int_eq v.n w.n))
other_is op = tt

compared : (op other : BinaryOp) → opposite op ≡ Some other → (r q : Result Value Fault)
    → AreOpposite (and_then r (λ v. and_then q (binary_value op v))) (and_then r (λ v. and_then q (binary_value other v)))
compared op other e (Err f) q = refl
compared op other e (Ok v) (Err f) = refl
compared op other e (Ok v) (Ok w) = subst (OtherIs op) e (other_is op) v w

-- Tests of a state that fits

module _ (tree : StProgram) (waiting : List Pou) (unit : Pou) (s : State) (fits : Fits tree waiting unit s) where
  abbrev worth : Expr → Result Value Fault
  worth e = value tree.globals e s

  abbrev IsTest : Expr → Type 0
  IsTest e = has_type type.Bool (expression_type (unit_scope_in tree unit) e) ≡ true

  is_bool : (e : Expr) → expression_type (unit_scope_in tree unit) e ≡ Some type.Bool → (v : Value) → worth e ≡ Ok v
      → IsOf type.Bool v
  is_bool e typed v h = value_of tree waiting unit s fits e type.Bool v typed h

  after_not : (e : Expr) → IsTest e → AreOpposite (worth e) (worth (expr.Unary unary.Not e))
  after_not e h =
      subst (AreOpposite (worth e)) (sym (value_unary tree.globals unary.Not e s))
      (not_opposite (worth e) (is_bool e (type_had type.Bool (expression_type (unit_scope_in tree unit) e) h)))

  under : (e a : Expr) → e ≡ expr.Unary unary.Not a → IsTest e → AreOpposite (worth e) (worth a)
  under e a same h =
      subst (λ (r : Result Value Fault). AreOpposite r (worth a))
      (sym (ap worth same ∙ value_unary tree.globals unary.Not a s))
      (of_not_opposite (worth a) (is_bool a (under_not (unit_scope_in tree unit) e a same h)))

  between : (o : Option BinaryOp) (op : BinaryOp) (e a b : Expr) → opposite op ≡ o → e ≡ expr.Binary op a b → IsTest e
      → AreOpposite (worth e) (worth (negation_between o e a b))
  between None op e a b is same h = after_not e h
  between (Some other) op e a b is same h =
      subst (AreOpposite (worth e)) (sym (value_binary tree.globals other a b s))
      (subst (λ (r : Result Value Fault). AreOpposite r (and_then (worth a) (λ v. and_then (worth b) (binary_value other v))))
      (sym (ap worth same ∙ value_binary tree.globals op a b s))
      (compared op other is (worth a) (worth b)))

  -- the opposite of a test
  pub negation_opposite : (e : Expr) → IsTest e → AreOpposite (worth e) (worth (negation e))
  negation_opposite e h = by (out-Expr e) refl
    where
      by : (y : E.Expr-F Expr) → out-Expr e ≡ y → AreOpposite (worth e) (worth (negation_step e y))
      by (E.Unary unary.Not a) is = under e a (rolled e (E.Unary unary.Not a) is ∙ expr.rolls-Unary unary.Not a) h
      by (E.Binary op a b) is = between (opposite op) op e a b refl (rolled e (E.Binary op a b) is ∙ expr.rolls-Binary op a b) h
      by y is = after_not e h

-- The locals of the running unit.
use Rattle.std.proofs.Common.{◌≡◌, ◌≢◌, ℕ, zero, suc, ◌-◌, ◌<◌, List, [], ◌∷◌, length, Some, refl, ap, ◌∙◌, arith}
use Rattle.std.specs.Prelude.{Ok, slice_get, slice_set}
use Rattle.std.proofs.lemmas.Option.{slice_get-get_or}
use Rattle.st_tree.specs.State.{Activation, State, depth, locals_of, own_of, there, with_local, write}
use Rattle.st_tree.specs.Value.{value}
use Rattle.st_tree.specs.declared.state.Value.{Value}
use Rattle.st_tree.specs.declared.expr.Expr.TheVariants as expr
use Rattle.st_tree.specs.declared.expr.Var.TheVariants as var
use Rattle.st_tree.specs.declared.program.Located.{Located}
use Rattle.st_tree.proofs.Equations.{value_read}
use Rattle.memory_areas.specs.Access.{and_then}

-- A local that takes a value

pub set_length : (xs : List Value) (i : ℕ) (v : Value) → length (slice_set xs i v) ≡ length xs
set_length [] i v = refl
set_length (x ∷ xs) zero v = refl
set_length (x ∷ xs) (suc i) v = ap suc (set_length xs i v)

pub set_same : (xs : List Value) (i : ℕ) (v : Value) → i < length xs → slice_get (slice_set xs i v) i ≡ Some v
set_same [] i v h = absurd (omega arith)
set_same (x ∷ xs) zero v h = refl
set_same (x ∷ xs) (suc i) v h = set_same xs i v (omega arith)

pub set_other : (xs : List Value) (i j : ℕ) (v : Value) → j ≢ i → slice_get (slice_set xs i v) j ≡ slice_get xs j
set_other [] i j v h = refl
set_other (x ∷ xs) zero zero v h = absurd (h refl)
set_other (x ∷ xs) zero (suc j) v h = refl
set_other (x ∷ xs) (suc i) zero v h = refl
set_other (x ∷ xs) (suc i) (suc j) v h = set_other xs i j v (λ e. h (ap suc e))

-- as many units run
pub as_deep : (acts : List Activation) (d i : ℕ) (v : Value) → length (with_local d i v acts) ≡ length acts
as_deep [] d i v = refl
as_deep (a ∷ rest) zero i v = refl
as_deep (a ∷ rest) (suc d) i v = ap suc (as_deep rest d i v)

one_set : (acts : List Activation) (d i : ℕ) (v : Value) → locals_of (slice_get (with_local d i v acts) d) ≡ slice_set (locals_of (slice_get acts d)) i v
one_set [] d i v = refl
one_set (a ∷ rest) zero i v = refl
one_set (a ∷ rest) (suc d) i v = one_set rest d i v

-- the state after a local of the running unit took a value
abbrev pub with_own : ℕ → Value → State → State
with_own i v s = record s { activations = with_local (depth s) i v s.activations }

pub own_set : (i : ℕ) (v : Value) (s : State) → own_of (with_own i v s).activations ≡ slice_set (own_of s.activations) i v
own_set i v s =
    ap (λ n. locals_of (slice_get (with_local (depth s) i v s.activations) (n - 1))) (as_deep s.activations (depth s) i v)
    ∙ one_set s.activations (depth s) i v

module _ (i : ℕ) (v : Value) (s : State) where
  pub own_length : length (own_of (with_own i v s).activations) ≡ length (own_of s.activations)
  own_length = ap length (own_set i v s) ∙ set_length (own_of s.activations) i v

  pub own_same : i < length (own_of s.activations) → slice_get (own_of (with_own i v s).activations) i ≡ Some v
  own_same h = ap (λ (xs : List Value). slice_get xs i) (own_set i v s) ∙ set_same (own_of s.activations) i v h

  pub own_other : (j : ℕ) → j ≢ i → slice_get (own_of (with_own i v s).activations) j ≡ slice_get (own_of s.activations) j
  own_other j h = ap (λ (xs : List Value). slice_get xs j) (own_set i v s) ∙ set_other (own_of s.activations) i j v h

-- a local that there is can be written
pub local_wrote : (g : List Located) (i : ℕ) (v : Value) (s : State) → i < length (own_of s.activations) → write g (var.Local i) v s ≡ Ok (with_own i v s)
local_wrote g i v s h =
    ap (λ o. and_then (there o) (λ (old : Value). Ok (with_own i v s))) (slice_get-get_or (own_of s.activations) i v h)

-- and read
pub local_read : (g : List Located) (i : ℕ) (v : Value) (s : State) → slice_get (own_of s.activations) i ≡ Some v → value g (expr.Read (var.Local i)) s ≡ Ok v
local_read g i v s e = value_read g (var.Local i) s ∙ ap there e

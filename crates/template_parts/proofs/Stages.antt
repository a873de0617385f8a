-- The states between the statements of a row: which numbers the registers hold, and what the first locals keep.
-- Their registers and locals are read by computing, so `simp parts` evaluates each right side.
use Rattle.std.proofs.Common.{◌≡◌, ℕ, zero, suc, ◌+◌, ◌-◌, ◌<◌, ◌≤◌, List, [], ◌∷◌, ◌++◌, drop, length, Ok, refl, sym, ap, ◌∙◌, arith}
use Rattle.std.specs.Prelude.{ℤ, slice_get, slice_set}
use Rattle.std.proofs.Math.Path.{fun_ext}
use Rattle.s7_base.specs.declared.register.Reg.{Reg}
use Rattle.s7_base.specs.declared.register.Reg.TheVariants as reg
use Rattle.stl_tree.specs.Registers.{RegisterValues}
use Rattle.st_tree.specs.State.{Activation, State, locals_of, own_of, there, type_of_register, with_local, with_register, write}
use Rattle.st_tree.specs.Value.{value}
use Rattle.st_tree.specs.Values.{flag}
use Rattle.st_tree.specs.declared.state.Value.{Value}
use Rattle.st_tree.specs.declared.expr.Var.TheVariants as var
use Rattle.st_tree.specs.declared.program.Located.{Located}
use Rattle.st_tree.proofs.Equations.{value_binary, value_convert, value_literal, value_read, value_select, value_shift, value_unary}
use Rattle.template_parts.specs.Builders.{local_of, read_of}
use Rattle.template_parts.specs.Related.{AreAlike, number_in}
use Rattle.st_tree.proofs.Locals.{local_wrote}
use Rattle.template_parts.proofs.Units.{with_locals}
use Rattle.std.specs.Prelude.{false}

-- Registers

-- the numbers that register variables hold, where STA, which nothing reads, holds any
abbrev pub known : RegisterValues → ℤ → Reg → ℤ
known r sta reg.Sta = sta
known r sta q = number_in r q

-- registers that are alike are known
pub are_known : (r : RegisterValues) (registers : Reg → ℤ) → AreAlike r registers → registers ≡ known r (registers reg.Sta)
are_known r registers alike = fun_ext each
  where
    each : (q : Reg) → registers q ≡ known r (registers reg.Sta) q
    each reg.Sta = refl
    each q = alike q tt

-- Locals

-- some values from a position on, in the place of as many that were there
abbrev pub laid : ℕ → List Value → List Value → List Value
laid zero kept own = kept ++ drop (length kept) own
laid (suc n) kept [] = flag false ∷ laid n kept []
laid (suc n) kept (x ∷ own) = x ∷ laid n kept own

-- what lies behind them
abbrev pub behind : ℕ → List Value → List Value → List Value
behind zero kept own = drop (length kept) own
behind (suc n) kept [] = behind n kept []
behind (suc n) kept (x ∷ own) = behind n kept own

laid_at : (used k : ℕ) (kept own : List Value) → slice_get (laid used kept own) (used + k) ≡ slice_get (kept ++ behind used kept own) k
laid_at zero k kept own =
    let e : 0 + k ≡ k = omega arith in ap (slice_get (kept ++ drop (length kept) own)) e
laid_at (suc n) k kept [] =
    let e : suc n + k ≡ suc (n + k) = omega arith in ap (slice_get (flag false ∷ laid n kept [])) e ∙ laid_at n k kept []
laid_at (suc n) k kept (x ∷ own) =
    let e : suc n + k ≡ suc (n + k) = omega arith in ap (slice_get (x ∷ laid n kept own)) e ∙ laid_at n k kept own

laid_below : (used i : ℕ) (kept own : List Value) → i < used → used ≤ length own → slice_get (laid used kept own) i ≡ slice_get own i
laid_below zero i kept own h k = absurd (omega arith)
laid_below (suc n) i kept [] h k = absurd (omega arith)
laid_below (suc n) zero kept (x ∷ own) h k = refl
laid_below (suc n) (suc i) kept (x ∷ own) h k = laid_below n i kept own (omega arith) (omega arith)

put_behind : (kept own : List Value) (v : Value) → length kept < length own
    → slice_set (kept ++ drop (length kept) own) (length kept) v ≡ (kept ++ v ∷ []) ++ drop (length (kept ++ v ∷ [])) own
put_behind [] [] v h = absurd (omega arith)
put_behind [] (x ∷ own) v h = refl
put_behind (k ∷ kept) [] v h = absurd (omega arith)
put_behind (k ∷ kept) (x ∷ own) v h = ap (λ (xs : List Value). k ∷ xs) (put_behind kept own v (omega arith))

laid_set : (used i : ℕ) (kept own : List Value) (v : Value) → i ≡ used + length kept → used + length kept < length own
    → slice_set (laid used kept own) i v ≡ laid used (kept ++ v ∷ []) own
laid_set zero i kept own v e h =
    let f : i ≡ length kept = omega arith in
    ap (λ (n : ℕ). slice_set (kept ++ drop (length kept) own) n v) f ∙ put_behind kept own v (omega arith)
laid_set (suc n) i kept [] v e h = absurd (omega arith)
laid_set (suc n) zero kept (x ∷ own) v e h = absurd (omega arith)
laid_set (suc n) (suc i) kept (x ∷ own) v e h = ap (λ (xs : List Value). x ∷ xs) (laid_set n i kept own v (omega arith) (omega arith))

as_long : (kept own : List Value) → length kept ≤ length own → length (kept ++ drop (length kept) own) ≡ length own
as_long [] own h = refl
as_long (k ∷ kept) [] h = absurd (omega arith)
as_long (k ∷ kept) (x ∷ own) h = ap suc (as_long kept own (omega arith))

laid_length : (used : ℕ) (kept own : List Value) → used + length kept ≤ length own → length (laid used kept own) ≡ length own
laid_length zero kept own h = as_long kept own (omega arith)
laid_length (suc n) kept [] h = absurd (omega arith)
laid_length (suc n) kept (x ∷ own) h = ap suc (laid_length n kept own (omega arith))

nothing_laid : (used : ℕ) (own : List Value) → used ≤ length own → laid used [] own ≡ own
nothing_laid zero own h = refl
nothing_laid (suc n) [] h = absurd (omega arith)
nothing_laid (suc n) (x ∷ own) h = ap (λ (xs : List Value). x ∷ xs) (nothing_laid n own (omega arith))

-- Activations

some_more : (xs : List Value) (a : Activation) (rest : List Activation) → length (with_locals xs (a ∷ rest)) ≡ suc (length rest)
some_more xs a [] = refl
some_more xs a (b ∷ rest) = ap suc (some_more xs b rest)

last_of : (a : Activation) (rest : List Activation) → 0 < length rest → own_of (a ∷ rest) ≡ own_of rest
last_of a [] h = absurd (omega arith)
last_of a (b ∷ rest) h =
    let e : suc (suc (length rest)) - 1 ≡ suc (suc (length rest) - 1) = omega arith in
    ap (λ (n : ℕ). locals_of (slice_get (a ∷ b ∷ rest) n)) e

own_with : (xs : List Value) (acts : List Activation) → own_of (with_locals xs acts) ≡ xs
own_with [] [] = refl
own_with (x ∷ xs) [] = refl
own_with xs (a ∷ []) = refl
own_with xs (a ∷ b ∷ rest) =
    let long : length (with_locals xs (b ∷ rest)) ≡ suc (length rest) = some_more xs b rest in
    last_of a (with_locals xs (b ∷ rest)) (omega arith) ∙ own_with xs (b ∷ rest)

with_own_locals : (acts : List Activation) → with_locals (own_of acts) acts ≡ acts
with_own_locals [] = refl
with_own_locals (a ∷ []) = refl
with_own_locals (a ∷ b ∷ rest) =
    ap (λ (xs : List Value). a ∷ with_locals xs (b ∷ rest)) (last_of a (b ∷ rest) (omega arith))
    ∙ ap (λ (more : List Activation). a ∷ more) (with_own_locals (b ∷ rest))

one_more : (a : Activation) (rest : List Activation) (i : ℕ) (v : Value) → 0 < length rest
    → with_local (length (a ∷ rest) - 1) i v (a ∷ rest) ≡ a ∷ with_local (length rest - 1) i v rest
one_more a [] i v h = absurd (omega arith)
one_more a (b ∷ rest) i v h =
    let e : suc (suc (length rest)) - 1 ≡ suc (suc (length rest) - 1) = omega arith in
    ap (λ (n : ℕ). with_local n i v (a ∷ b ∷ rest)) e

local_set : (xs : List Value) (acts : List Activation) (i : ℕ) (v : Value)
    → with_local (length (with_locals xs acts) - 1) i v (with_locals xs acts) ≡ with_locals (slice_set xs i v) acts
local_set [] [] i v = refl
local_set (x ∷ xs) [] zero v = refl
local_set (x ∷ xs) [] (suc i) v = refl
local_set xs (a ∷ []) i v = refl
local_set xs (a ∷ b ∷ rest) i v =
    let long : length (with_locals xs (b ∷ rest)) ≡ suc (length rest) = some_more xs b rest in
    one_more a (with_locals xs (b ∷ rest)) i v (omega arith) ∙ ap (λ (more : List Activation). a ∷ more) (local_set xs (b ∷ rest) i v)

-- Stages

-- the state s once registers hold these numbers, and locals from the position used on these values
unfoldable pub stage : State → ℕ → List Value → (Reg → ℤ) → State
stage s used kept registers =
    record { memory = s.memory; registers = registers; activations = with_locals (laid used kept (own_of s.activations)) s.activations }

module _ (s : State) (used : ℕ) where
  abbrev own : List Value
  own = own_of s.activations

  pub stage_begins : (r : RegisterValues) → AreAlike r s.registers → used ≤ length own → s ≡ stage s used [] (known r (s.registers reg.Sta))
  unfolding stage
  stage_begins r alike h =
      ap (λ (f : Reg → ℤ). record s { registers = f }) (are_known r s.registers alike)
      ∙ ap (λ (acts : List Activation). record s { registers = known r (s.registers reg.Sta); activations = acts })
      (sym (ap (λ (xs : List Value). with_locals xs s.activations) (nothing_laid used own h) ∙ with_own_locals s.activations))

  module _ (kept : List Value) (registers : Reg → ℤ) where
    pub stage_own : own_of (stage s used kept registers).activations ≡ laid used kept own
    unfolding stage
    stage_own = own_with (laid used kept own) s.activations

    pub stage_own_length : used + length kept ≤ length own → length (own_of (stage s used kept registers).activations) ≡ length own
    stage_own_length h = ap length stage_own ∙ laid_length used kept own h

    pub stage_below : (i : ℕ) → i < used → used ≤ length own → slice_get (own_of (stage s used kept registers).activations) i ≡ slice_get own i
    stage_below i h k = ap (λ (xs : List Value). slice_get xs i) stage_own ∙ laid_below used i kept own h k

    module _ (g : List Located) where
      -- a register, read
      pub stage_register : (r : Reg) → value g (read_of r) (stage s used kept registers) ≡ Ok (record { ty = type_of_register r; n = registers r })
      unfolding stage
      stage_register r = value_read g (var.Register r) (stage s used kept registers)

      -- the local behind so many, read
      pub stage_local : (k : ℕ) → value g (local_of (used + k)) (stage s used kept registers) ≡ there (slice_get (kept ++ behind used kept own) k)
      unfolding stage
      stage_local k =
          value_read g (var.Local (used + k)) (stage s used kept registers)
          ∙ ap (λ (xs : List Value). there (slice_get xs (used + k))) stage_own
          ∙ ap there (laid_at used k kept own)

      -- the first one
      pub stage_first : value g (local_of used) (stage s used kept registers) ≡ there (slice_get (kept ++ behind used kept own) 0)
      stage_first =
          let e : used ≡ used + 0 = omega arith in
          ap (λ (i : ℕ). value g (local_of i) (stage s used kept registers)) e ∙ stage_local 0

      -- a register takes a value
      pub stage_sets : (r : Reg) (v : Value) → write g (var.Register r) v (stage s used kept registers) ≡ Ok (stage s used kept (with_register r v.n registers))
      unfolding stage
      stage_sets r v = refl

      -- the next local takes a value
      pub stage_keeps : (i : ℕ) (v : Value) → i ≡ used + length kept → used + length kept < length own
          → write g (var.Local i) v (stage s used kept registers) ≡ Ok (stage s used (kept ++ v ∷ []) registers)
      unfolding stage
      stage_keeps i v e h =
          let long : length (own_of (stage s used kept registers).activations) ≡ length own = stage_own_length (omega arith) in
          local_wrote g i v (stage s used kept registers) (omega arith)
          ∙ ap (λ (acts : List Activation). Ok (record s { registers = registers; activations = acts })) (local_set (laid used kept own) s.activations i v)
          ∙ ap (λ (xs : List Value). Ok (record s { registers = registers; activations = with_locals xs s.activations })) (laid_set used i kept own v e h)

-- a right side at a stage, evaluated
pub ruleset parts =
    (value_literal, value_unary, value_binary, value_convert, value_select, value_shift, stage_register, stage_first, stage_local)

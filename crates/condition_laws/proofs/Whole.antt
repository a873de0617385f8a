-- The tree that is made of a proper one is proper, keeps all but statements, and runs as that one does.
use Rattle.std.proofs.Common.{◌≡◌, ◌≢◌, ℕ, zero, suc, ◌≤◌, Bool, true, false, cond, List, [], ◌∷◌, ◌++◌, map, slice_get, Option, Some, None, Result, Ok, Err, refl, sym, ap, ◌∙◌, subst}
use Rattle.std.specs.Prelude.{All, find, option_map}
use Rattle.std.proofs.lemmas.Bool.{and_parts}
use Rattle.std.proofs.lemmas.List.Elements.{All-cons, All-head, All-nil, All-tail}
use Rattle.std.proofs.lemmas.List.Folds.{find_at}
use Rattle.std.proofs.lemmas.Option.{slice_get-map}
use Rattle.std.specs.List.{position_or_len}
use Rattle.memory_areas.specs.Areas.{Areas, IsMemoryOf}
use Rattle.memory_areas.specs.declared.call.Call.{Call}
use Rattle.memory_areas.specs.declared.sizes.TheConstants.{ACTIVATIONS}
use Rattle.condition_laws.proofs.Calls.{calls_stay}
use Rattle.st_tree.proofs.FittingCalls.{AreOf, actuals_are, entered_fits}
use Rattle.condition_laws.proofs.Means.{Alike, body_same}
use Rattle.condition_laws.proofs.Nests.{stays_low}
use Rattle.condition_laws.proofs.Rewrites.{bodies}
use Rattle.condition_laws.proofs.Typed.{stays_typed}
use Rattle.condition_laws.specs.Kept.{KeepsHead, KeepsHeads}
use Rattle.condition_laws.specs.SameRuns.{RunsAlike}
use Rattle.condition_laws.specs.inner.Rewriting.{rewrite_program, rewrite_unit}
use Rattle.s7_base.specs.Numbers.{greatest}
use Rattle.s7_base.specs.declared.outcome.Fault.{Fault}
use Rattle.st_tree.proofs.FittingCalls.{at_position, calls_fit}
use Rattle.st_tree.proofs.FittingStart.{start_fits}
use Rattle.st_tree.specs.Calls.{after_unit, calls_to, enter_with, located_actuals, state_on_entry, unit_step}
use Rattle.st_tree.specs.Chains.{called_in, chain_to, unit_chain}
use Rattle.st_tree.specs.Fitting.{CallsFit, EndsFit, Fits, Paired}
use Rattle.st_tree.specs.Meaning.{body_meaning}
use Rattle.st_tree.specs.Naming.{key_of}
use Rattle.st_tree.specs.Proper.{IsProperUnit, Proper}
use Rattle.st_tree.specs.StRun.{FitsSt, end_seen, is_meant, run_of_unit, state_at_start, unit_called}
use Rattle.st_tree.specs.State.{State}
use Rattle.st_tree.specs.WellTyped.{Head, head_of, is_call, unit_scope_in, unit_scope_of}
use Rattle.st_tree.specs.declared.expr.Var.{Var}
use Rattle.st_tree.specs.declared.program.Located.{Located}
use Rattle.st_tree.specs.declared.program.Pou.{Pou}
use Rattle.st_tree.specs.declared.program.StProgram.{StProgram}
use Rattle.st_tree.specs.declared.state.Reference.{Reference}

-- What is kept

heads_kept : (units : List Pou) → Paired KeepsHead units (map rewrite_unit units)
heads_kept [] = tt
heads_kept (x ∷ xs) = (record { kind = refl; name = refl; formals = refl; locals = refl }, heads_kept xs)

pub keeps_heads : (tree : StProgram) → KeepsHeads tree (rewrite_program tree)
keeps_heads tree = record { blocks = refl; globals = refl; units = heads_kept tree.pous }

same_heads : (units : List Pou) → map head_of (map rewrite_unit units) ≡ map head_of units
same_heads [] = refl
same_heads (x ∷ xs) = ap (λ (heads : List Head). head_of x ∷ heads) (same_heads xs)

same_keys : (units : List Pou) → map (λ (u : Pou). key_of u.name) (map rewrite_unit units) ≡ map (λ (u : Pou). key_of u.name) units
same_keys [] = refl
same_keys (x ∷ xs) = ap (λ (keys : List (List ℕ)). key_of x.name ∷ keys) (same_keys xs)

-- Units

unit_proper : (globals : List Located) (heads : List Head) (unit : Pou) → IsProperUnit globals heads unit
    → IsProperUnit globals heads (rewrite_unit unit)
unit_proper globals heads unit h =
    record {
      name = h.name;
      free = h.free;
      program = h.program;
      formals = h.formals;
      locals = h.locals;
      apart = h.apart;
      typed = stays_typed (unit_scope_of globals heads unit) 131 false unit.body h.typed;
      nesting = stays_low unit.body h.nesting;
    }

units_proper : (globals : List Located) (heads : List Head) (units : List Pou) → All (IsProperUnit globals heads) units
    → All (IsProperUnit globals heads) (map rewrite_unit units)
units_proper globals heads [] h = All-nil (IsProperUnit globals heads)
units_proper globals heads (x ∷ xs) h =
    All-cons (IsProperUnit globals heads) (rewrite_unit x) (map rewrite_unit xs)
    (unit_proper globals heads x (All-head (IsProperUnit globals heads) x xs h))
    (units_proper globals heads xs (All-tail (IsProperUnit globals heads) x xs h))

-- Chains of calls

same_each : (f g : ℕ → ℕ) (ns : List ℕ) → ((n : ℕ) → f n ≡ g n) → map f ns ≡ map g ns
same_each f g [] h = refl
same_each f g (n ∷ ns) h = ap (λ (m : ℕ). m ∷ map f ns) (h n) ∙ ap (λ (ms : List ℕ). g n ∷ ms) (same_each f g ns h)

unit_chains : (f g : ℕ → ℕ) (most : ℕ) (o : Option Pou) → ((n : ℕ) → f n ≡ g n)
    → unit_chain f most (option_map rewrite_unit o) ≡ unit_chain g most o
unit_chains f g most None h = refl
unit_chains f g most (Some unit) h =
    ap (λ (ns : List ℕ). suc (greatest ns))
    (ap (λ (calls : List (ℕ × List Var)). map f (map (λ (call : ℕ × List Var). call.0) calls)) (calls_stay 131 unit.body)
    ∙ same_each f g (called_in unit.body) h)

chains : (tree : StProgram) (most n : ℕ) → chain_to most (rewrite_program tree) n ≡ chain_to most tree n
chains tree zero n = refl
chains tree (suc most) n =
    ap (unit_chain (chain_to most (rewrite_program tree)) most) (slice_get-map rewrite_unit tree.pous n)
    ∙ unit_chains (chain_to most (rewrite_program tree)) (chain_to most tree) most (slice_get tree.pous n) (chains tree most)

-- the unit that a unit was made of
made_of : (o : Option Pou) (unit : Pou) → option_map rewrite_unit o ≡ Some unit → (old : Pou) × (o ≡ Some old)
made_of None unit h = cc
made_of (Some old) unit h = (old, refl)

some_units : (units : List Pou) → units ≢ [] → map rewrite_unit units ≢ []
some_units [] h e = h refl
some_units (x ∷ xs) h e = cc

pub stays_proper : (tree : StProgram) → Proper tree → Proper (rewrite_program tree)
stays_proper tree h =
    record {
      blocks = h.blocks;
      bytes = h.bytes;
      globals = h.globals;
      apart = rw (same_keys tree.pous) h.apart;
      some = some_units tree.pous h.some;
      units = rw (same_heads tree.pous) (units_proper tree.globals (map head_of tree.pous) tree.pous h.units);
      chains = λ n unit e.
          let old = made_of (slice_get tree.pous n) unit (sym (slice_get-map rewrite_unit tree.pous n) ∙ e) in
          subst (λ (k : ℕ). k ≤ ACTIVATIONS) (sym (chains tree (suc ACTIVATIONS) n)) (h.chains n old.0 old.1);
    }

-- Runs

module _ (tree : StProgram) (proper : Proper tree) where
  abbrev new : StProgram
  new = rewrite_program tree

  -- calls that may nest so deep do the same in each state that fits
  abbrev CallsAlike : ℕ → Type 0
  CallsAlike deep =
      (waiting : List Pou) (unit : Pou) (n : ℕ) (vars : List Var)
      → is_call (unit_scope_in tree unit) (slice_get (map head_of tree.pous) n) vars ≡ true
      → Alike tree waiting unit (calls_to deep tree n vars) (calls_to deep new n vars)

  new_fit : (deep : ℕ) → CallsAlike deep → CallsFit tree (calls_to deep new)
  new_fit deep same n vars waiting unit u s good fits =
      subst (EndsFit tree waiting unit) (same waiting unit n vars good u s fits)
      (calls_fit tree deep proper n vars waiting unit u s good fits)

  -- the statements of a unit
  unit_alike : (deep : ℕ) → CallsAlike deep → (waiting : List Pou) (n : ℕ) (unit : Pou) → slice_get tree.pous n ≡ Some unit
      → Alike tree waiting unit (body_meaning tree.globals (calls_to deep tree) unit.body)
      (body_meaning tree.globals (calls_to deep new) (bodies 131 unit.body))
  unit_alike deep same waiting n unit e =
      body_same tree waiting unit (calls_to deep tree) (calls_to deep new) (calls_fit tree deep proper) (new_fit deep same)
      (same waiting unit) 131 false unit.body
      (at_position (IsProperUnit tree.globals (map head_of tree.pous)) tree.pous n unit proper.units e).typed

  entered : (deep : ℕ) → CallsAlike deep → (waiting : List Pou) (unit : Pou) (n : ℕ) (callee : Pou)
      (r : Result (List Reference) Fault) (u : ℕ) (s : State) → slice_get tree.pous n ≡ Some callee
      → Fits tree waiting unit s → AreOf tree waiting unit callee.formals r
      → enter_with (unit_step tree (calls_to deep tree) (Some callee)) r u s
      ≡ enter_with (unit_step new (calls_to deep new) (Some (rewrite_unit callee))) r u s
  entered deep same waiting unit n callee (Ok formals) u s e fits k =
      ap after_unit
      (unit_alike deep same (waiting ++ unit ∷ []) n callee e u (state_on_entry callee formals s)
      (entered_fits tree waiting unit n callee formals s e fits k))
  entered deep same waiting unit n callee (Err f) u s e fits k = refl

  found : (deep : ℕ) → CallsAlike deep → (waiting : List Pou) (unit : Pou) (n : ℕ) (o : Option Pou) (vars : List Var)
      (u : ℕ) (s : State) → slice_get tree.pous n ≡ o
      → is_call (unit_scope_in tree unit) (option_map head_of o) vars ≡ true → Fits tree waiting unit s
      → enter_with (unit_step tree (calls_to deep tree) o) (located_actuals tree.globals vars s) u s
      ≡ enter_with (unit_step new (calls_to deep new) (option_map rewrite_unit o)) (located_actuals tree.globals vars s) u s
  found deep same waiting unit n None vars u s e good fits = cc
  found deep same waiting unit n (Some callee) vars u s e good fits =
      let given = (and_parts _ _ good).1 in
      entered deep same waiting unit n callee (located_actuals tree.globals vars s) u s e fits
      (actuals_are tree waiting unit callee.formals vars s fits given)

  calls_alike : (deep : ℕ) → CallsAlike deep
  calls_alike zero waiting unit n vars good u s fits = refl
  calls_alike (suc deep) waiting unit n vars good zero s fits = refl
  calls_alike (suc deep) waiting unit n vars good (suc u) s fits =
      found deep (calls_alike deep) waiting unit n (slice_get tree.pous n) vars u s refl
      (subst (λ (o : Option Head). is_call (unit_scope_in tree unit) o vars ≡ true) (slice_get-map head_of tree.pous n) good) fits
      ∙ ap (λ (o : Option Pou). enter_with (unit_step new (calls_to deep new) o) (located_actuals tree.globals vars s) u s)
      (sym (slice_get-map rewrite_unit tree.pous n))

  called : (call : Call) (units : List Pou)
      → find (is_meant call.block) (map rewrite_unit units) ≡ option_map rewrite_unit (find (is_meant call.block) units)
  called call [] = refl
  called call (x ∷ xs) = by (is_meant call.block x) (called call xs)
    where
      by : (b : Bool) → find (is_meant call.block) (map rewrite_unit xs) ≡ option_map rewrite_unit (find (is_meant call.block) xs)
          → cond b (Some (rewrite_unit x)) (find (is_meant call.block) (map rewrite_unit xs))
          ≡ option_map rewrite_unit (cond b (Some x) (find (is_meant call.block) xs))
      by true rest = refl
      by false rest = rest

  run_alike : (o : Option Pou) (call : Call) (areas : Areas) (units : ℕ) → unit_called call.block tree.pous ≡ o
      → FitsSt tree call → IsMemoryOf tree.dbs areas
      → run_of_unit new (option_map rewrite_unit o) call areas units ≡ run_of_unit tree o call areas units
  run_alike None call areas units e fits memory = refl
  run_alike (Some unit) call areas units e fits memory =
      let at : slice_get tree.pous (position_or_len (is_meant call.block) tree.pous) ≡ Some unit
      = sym (find_at (is_meant call.block) tree.pous) ∙ e in
      ap end_seen
      (sym
      (unit_alike units (calls_alike units) [] (position_or_len (is_meant call.block) tree.pous) unit at units
      (state_at_start unit call areas) (start_fits tree call unit areas proper e fits memory)))

  pub runs_alike : RunsAlike tree (rewrite_program tree)
  runs_alike call areas units fits memory =
      ap (λ (o : Option Pou). run_of_unit new o call areas units) (called call tree.pous)
      ∙ run_alike (unit_called call.block tree.pous) call areas units refl fits memory

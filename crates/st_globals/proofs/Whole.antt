-- A text whose symbols stand for places is one that a text can be, and means the same.
use Rattle.std.proofs.Common.{◌≡◌, ◌≢◌, ℕ, ◌≤◌, zero, suc, true, false, List, [], ◌∷◌, ◌++◌, map, Option, Some, None, refl, sym, subst, ap, ◌∙◌}
use Rattle.std.specs.Prelude.{All, option_map, slice_get, slice_index_or}
use Rattle.std.specs.List.{flat_map, list_any}
use Rattle.std.proofs.lemmas.List.Elements.{All-cons, All-head, All-map, All-nil, All-tail}
use Rattle.std.proofs.lemmas.Option.{slice_get-map}
use Rattle.memory_areas.specs.declared.sizes.TheConstants.{ACTIVATIONS}
use Rattle.s7_base.specs.Numbers.{greatest}
use Rattle.st_tree.specs.BodyParts.{call_step, statements_in}
use Rattle.st_tree.specs.Chains.{called_in, chain_of, chain_to, unit_chain}
use Rattle.st_tree.specs.Depth.{deepest}
use Rattle.st_tree.specs.Naming.{are_apart, is_new, key_of}
use Rattle.st_tree.specs.Proper.{IsProperUnit, Proper}
use Rattle.st_tree.specs.Calls.{located_actual}
use Rattle.st_tree.specs.State.{State, reference_of}
use Rattle.st_tree.specs.WellTyped.{Head, head_of, is_seen, unit_scope_of}
use Rattle.st_tree.specs.declared.expr.Var.{Var}
use Rattle.st_tree.specs.declared.program.Arm.{Arm}
use Rattle.st_tree.specs.declared.program.CaseArm.{CaseArm}
use Rattle.st_tree.specs.declared.program.Located.{Located}
use Rattle.st_tree.specs.declared.program.Pou.{Pou}
use Rattle.st_tree.specs.declared.program.StProgram.{StProgram}
use Rattle.st_tree.specs.declared.program.Stmt.{Stmt, out-Stmt}
use Rattle.st_tree.specs.declared.program.Stmt.TheOpen as S
use Rattle.stl_tree.specs.Accepted.{IsSymbol}
use Rattle.stl_tree.specs.declared.program.Symbol.{Symbol}
use Rattle.st_globals.specs.Globals.{global_names, globals_of, named_var, names_in, stands_for}
use Rattle.st_globals.specs.KeptLaws.{layer_with}
use Rattle.st_globals.specs.NamedText.{HaveSameRuns, NamesNoGlobalDirectly, named_text}
use Rattle.st_globals.specs.Variables.{unit_variables}
use Rattle.st_globals.specs.WithVariables.{body_with, unit_with}
use Rattle.st_globals.proofs.Chosen.{AreChosen, apart_append, chosen, not_inside, not_unit}
use Rattle.st_globals.proofs.Kept.{body_nesting_kept, kinds_kept, statements_kept}
use Rattle.st_globals.proofs.Places.{no_place, safe_is, safe_var, same_actual, same_reference, same_variable}
use Rattle.st_globals.proofs.Runs.{same_runs}
use Rattle.st_globals.proofs.Types.{same_body, typed_same}
use Rattle.st_globals.proofs.VariablesKept.{unit_variables_kept}
use Rattle.st_globals.proofs.With.{both}

-- Calls

call_kept : (f : Var → Var) (y : S.Stmt-F Stmt Arm CaseArm)
    → map (λ (call : ℕ × List Var). call.0) (call_step (layer_with f y)) ≡ map (λ (call : ℕ × List Var). call.0) (call_step y)
call_kept f (S.Assign v e) = refl
call_kept f (S.AreaWrite w p e) = refl
call_kept f (S.Invoke n actuals) = refl
call_kept f (S.If arms other) = refl
call_kept f (S.Case e arms other) = refl
call_kept f (S.While test body) = refl
call_kept f S.Exit = refl
call_kept f S.Continue = refl
call_kept f S.Return = refl

abbrev called_by : Stmt → List ℕ
called_by x = map (λ (call : ℕ × List Var). call.0) (call_step (out-Stmt x))

map_both : {X Y : Type 0} (h : X → Y) (xs ys : List X) → map h (xs ++ ys) ≡ map h xs ++ map h ys
map_both h [] ys = refl
map_both h (x ∷ xs) ys = ap (λ rest. h x ∷ rest) (map_both h xs ys)

called_all : (xs : List Stmt) → map (λ (call : ℕ × List Var). call.0) (flat_map (λ (x : Stmt). call_step (out-Stmt x)) xs)
    ≡ flat_map called_by xs
called_all [] = refl
called_all (x ∷ xs) =
    map_both (λ (call : ℕ × List Var). call.0) (call_step (out-Stmt x)) (flat_map (λ (y : Stmt). call_step (out-Stmt y)) xs)
    ∙ ap (λ (rest : List ℕ). called_by x ++ rest) (called_all xs)

called_with : (f : Var → Var) (xs : List Stmt) → flat_map called_by (body_with f xs) ≡ flat_map called_by xs
called_with f [] = refl
called_with f (x ∷ xs) =
    both (λ (a b : List ℕ). a ++ b)
    (ap (λ (y : S.Stmt-F Stmt Arm CaseArm). map (λ (call : ℕ × List Var). call.0) (call_step y)) (kinds_kept f x)
    ∙ call_kept f (out-Stmt x))
    (called_with f xs)

called_kept : (f : Var → Var) (body : List Stmt) → called_in (body_with f body) ≡ called_in body
called_kept f body =
    called_all (statements_in (body_with f body)) ∙ ap (flat_map called_by) (statements_kept f body)
    ∙ called_with f (statements_in body) ∙ sym (called_all (statements_in body))

module _ (tree : StProgram) (globals : List Located) (f : Var → Var) where
  abbrev changed : StProgram
  changed = record tree { globals = globals; pous = map (unit_with f) tree.pous }

  chain_step : (most : ℕ) → ((n : ℕ) → chain_to most changed n ≡ chain_to most tree n) → (o : Option Pou)
      → unit_chain (chain_to most changed) most (option_map (unit_with f) o) ≡ unit_chain (chain_to most tree) most o
  chain_step most e None = refl
  chain_step most e (Some unit) =
      ap (λ (called : List ℕ). suc (greatest (map (chain_to most changed) called))) (called_kept f unit.body)
      ∙ ap (λ (chain : ℕ → ℕ). suc (greatest (map chain (called_in unit.body)))) (λ i n. e n i)

  chain_same : (most n : ℕ) → chain_to most changed n ≡ chain_to most tree n
  chain_same zero n = refl
  chain_same (suc most) n =
      ap (unit_chain (chain_to most changed) most) (slice_get-map (unit_with f) tree.pous n)
      ∙ chain_step most (chain_same most) (slice_get tree.pous n)

none_is : (x : Pou) → None ≡ Some x → ⊥
none_is x h = cc

heads_kept : (f : Var → Var) (units : List Pou) → map head_of (map (unit_with f) units) ≡ map head_of units
heads_kept f [] = refl
heads_kept f (u ∷ units) = ap (λ (rest : List Head). head_of u ∷ rest) (heads_kept f units)

keys_kept : (f : Var → Var) (units : List Pou) → map (λ (u : Pou). key_of u.name) (map (unit_with f) units) ≡ map (λ (u : Pou). key_of u.name) units
keys_kept f [] = refl
keys_kept f (u ∷ units) = ap (λ (rest : List (List ℕ)). key_of u.name ∷ rest) (keys_kept f units)

-- The globals of a text

module _ (tree : StProgram) (proper : Proper tree) (empty : tree.globals ≡ []) (symbols : List Symbol) (are : All IsSymbol symbols) where
  abbrev globals : List Located
  globals = globals_of tree.pous symbols

  choice : AreChosen (names_in tree.pous) globals
  choice = chosen tree.pous symbols are

  abbrev heads : List Head
  heads = map head_of tree.pous

  abbrev units_proper : All (IsProperUnit tree.globals heads) tree.pous
  units_proper = proper.units

  -- no formal and no local of a unit hides one of them
  abbrev Seen : Pou → Type 0
  Seen u = All (λ (g : Located). is_seen (unit_scope_of tree.globals heads u) g.name ≡ true) globals

  seen_in : (gs : List Located) → All (λ (g : Located). is_new (key_of g.name) (names_in tree.pous) ≡ true) gs
      → All (λ (u : Pou). All (λ (g : Located). is_seen (unit_scope_of tree.globals heads u) g.name ≡ true) gs) tree.pous
  seen_in gs h k u lt j g lt_g = not_inside tree.pous (key_of (slice_index_or gs j g).name) (h j g lt_g) k u lt

  seen : All Seen tree.pous
  seen = seen_in globals choice.new

  -- the safe way to give variables gives the same units
  unit_safe : (u : Pou) → IsProperUnit tree.globals heads u → Seen u → unit_with (named_var globals) u ≡ unit_with (safe_var globals) u
  unit_safe u p s =
      ap (λ (body : List Stmt). record u { body = body })
      (sym (same_body (unit_scope_of tree.globals heads u) (safe_var globals) (named_var globals)
      (λ v ty h. safe_is (unit_scope_of tree.globals heads u) empty globals choice.globals_are s v ty h) false u.body p.typed))

  units_safe : (units : List Pou) → All (IsProperUnit tree.globals heads) units → All Seen units
      → map (unit_with (named_var globals)) units ≡ map (unit_with (safe_var globals)) units
  units_safe [] p s = refl
  units_safe (u ∷ units) p s =
      both (λ (x : Pou) (xs : List Pou). x ∷ xs)
      (unit_safe u (All-head (IsProperUnit tree.globals heads) u units p) (All-head Seen u units s))
      (units_safe units (All-tail (IsProperUnit tree.globals heads) u units p) (All-tail Seen u units s))

  abbrev safe_text : StProgram
  safe_text = record tree { globals = globals; pous = map (unit_with (safe_var globals)) tree.pous }

  is_safe : named_text symbols tree ≡ safe_text
  is_safe = ap (λ (units : List Pou). record tree { globals = globals; pous = units }) (units_safe tree.pous units_proper seen)

  -- Runs

  safe_runs : HaveSameRuns tree safe_text
  safe_runs =
      same_runs tree globals (safe_var globals)
      (subst (λ (gs : List Located). (v : Var) → reference_of globals (safe_var globals v) ≡ reference_of gs v) (sym empty)
      (same_reference globals))
      (subst (λ (gs : List Located). (v : Var) (s : State) → located_actual globals (safe_var globals v) s ≡ located_actual gs v s)
      (sym empty) (same_actual globals))

  pub named_runs : HaveSameRuns tree (named_text symbols tree)
  named_runs = subst (HaveSameRuns tree) (sym is_safe) safe_runs

  -- Rules

  unit_proper : (u : Pou) → IsProperUnit tree.globals heads u → Seen u → IsProperUnit globals heads (unit_with (safe_var globals) u)
  unit_proper u p s =
      record {
        name = p.name;
        free = p.free;
        program = p.program;
        formals = p.formals;
        locals = p.locals;
        apart = p.apart;
        typed =
            typed_same (unit_scope_of tree.globals heads u) globals (safe_var globals)
            (same_variable (unit_scope_of tree.globals heads u) empty globals choice.globals_are s) false u.body
            ∙ p.typed;
        nesting = subst (λ n. n ≤ deepest) (sym (body_nesting_kept (safe_var globals) u.body)) p.nesting;
      }

  all_proper : (units : List Pou) → All (IsProperUnit tree.globals heads) units → All Seen units
      → All (IsProperUnit globals heads) (map (unit_with (safe_var globals)) units)
  all_proper [] p s = All-nil (IsProperUnit globals heads)
  all_proper (u ∷ units) p s =
      All-cons (IsProperUnit globals heads) (unit_with (safe_var globals) u) (map (unit_with (safe_var globals)) units)
      (unit_proper u (All-head (IsProperUnit tree.globals heads) u units p) (All-head Seen u units s))
      (all_proper units (All-tail (IsProperUnit tree.globals heads) u units p) (All-tail Seen u units s))

  keys_new : (gs : List Located) → All (λ (g : Located). is_new (key_of g.name) (names_in tree.pous) ≡ true) gs
      → All (λ (key : List ℕ). is_new key (map (λ (u : Pou). key_of u.name) tree.pous) ≡ true) (global_names gs)
  keys_new [] h = All-nil (λ (key : List ℕ). is_new key (map (λ (u : Pou). key_of u.name) tree.pous) ≡ true)
  keys_new (g ∷ gs) h =
      All-cons (λ (key : List ℕ). is_new key (map (λ (u : Pou). key_of u.name) tree.pous) ≡ true) (key_of g.name) (global_names gs)
      (not_unit tree.pous (key_of g.name) (All-head (λ (x : Located). is_new (key_of x.name) (names_in tree.pous) ≡ true) g gs h))
      (keys_new gs (All-tail (λ (x : Located). is_new (key_of x.name) (names_in tree.pous) ≡ true) g gs h))

  units_apart : are_apart (map (λ (u : Pou). key_of u.name) tree.pous) ≡ true
  units_apart =
      ap (λ (gs : List Located). are_apart (map (λ (g : Located). key_of g.name) gs ++ map (λ (u : Pou). key_of u.name) tree.pous))
      (sym empty)
      ∙ proper.apart

  some_left : (units : List Pou) → units ≢ [] → map (unit_with (safe_var globals)) units ≢ []
  some_left [] h e = h refl
  some_left (u ∷ units) h e = cc

  safe_chain : (o : Option Pou) (n : ℕ) → slice_get tree.pous n ≡ o → (unit : Pou) → option_map (unit_with (safe_var globals)) o ≡ Some unit
      → chain_of tree n ≤ ACTIVATIONS
  safe_chain None n e unit h = absurd (none_is unit h)
  safe_chain (Some u) n e unit h = proper.chains n u e

  safe_proper : Proper safe_text
  safe_proper =
      record {
        blocks = proper.blocks;
        bytes = proper.bytes;
        globals = choice.globals_are;
        apart =
            ap (λ (keys : List (List ℕ)). are_apart (global_names globals ++ keys)) (keys_kept (safe_var globals) tree.pous)
            ∙ apart_append (global_names globals) (map (λ (u : Pou). key_of u.name) tree.pous) choice.apart units_apart
            (keys_new globals choice.new);
        some = some_left tree.pous proper.some;
        units =
            subst (λ (hs : List Head). All (IsProperUnit globals hs) (map (unit_with (safe_var globals)) tree.pous))
            (sym (heads_kept (safe_var globals) tree.pous)) (all_proper tree.pous units_proper seen);
        chains = λ n unit e.
            subst (λ m. m ≤ ACTIVATIONS) (sym (chain_same tree globals (safe_var globals) (suc ACTIVATIONS) n))
            (safe_chain (slice_get tree.pous n) n refl unit (sym (slice_get-map (unit_with (safe_var globals)) tree.pous n) ∙ e));
      }

  pub named_proper : Proper (named_text symbols tree)
  named_proper = subst Proper (sym is_safe) safe_proper

  -- Places

  pub none_direct : NamesNoGlobalDirectly (named_text symbols tree)
  none_direct =
      subst (All (λ (v : Var). list_any (λ (g : Located). stands_for g v) globals ≡ false))
      (sym (unit_variables_kept (named_var globals) tree.pous))
      (All-map (λ (v : Var). list_any (λ (g : Located). stands_for g v) globals ≡ false) (named_var globals) (unit_variables tree.pous)
      (λ k v lt. no_place globals (slice_index_or (unit_variables tree.pous) k v)))

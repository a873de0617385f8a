-- A well typed call in its canonical form: it gives each formal its variable, in the order of the formals.
use Rattle.st_text_laws.proofs.Spells.{Spells, comma_spells}
use Rattle.st_tree.proofs.Common.{◌≡◌, ℕ, suc, ◌++◌, Bool, true, false, List, [], ◌∷◌, Option, Some, None, Ok, refl, sym, ap, ◌∙◌, arith, option_map, slice_get, fold, and_parts, slice_get-map, Line, key_of, formals_of, unit_name, Names, are_given, has_type, head_of, is_call, is_well_typed, variable_type}
use Rattle.std.proofs.lemmas.List.{append-nil, append_assoc}
use Rattle.st_text_laws.proofs.Common.{actuals_from, on, raw_var, statement_from, is_name}
use Rattle.st_grammar.proofs.Common.{Actuals, no_actual, actual, invoke, on_line, tree_actuals, spell_actuals}
use Rattle.st_reading_laws.proofs.Actions.{calls_invoke}
use Rattle.st_reading_laws.proofs.Bounds.{bound}
use Rattle.st_reading_laws.proofs.Labels.{is_own_type}
use Rattle.st_reading_laws.proofs.Lists.{EachPair}
use Rattle.st_text_laws.proofs.Good.{GoodOne, good_at}
use Rattle.st_reading_laws.proofs.Keyed.{AreAbsent, AreDistinct, absent_also, found_behind, none_absent}
use Rattle.st_reading_laws.proofs.Called.{AreTyped, are_typed, call_is, given_with}
use Rattle.st_text_laws.proofs.NameScope.{Sees, unit_scope_by}
use Rattle.st_reading_laws.proofs.DeclaredTree.{formals_in}
use Rattle.st_text_laws.proofs.Variables.{Written, of_type, written}
use Rattle.st_rules.proofs.Common.{sound, call_on, calls_of, Actual, callee, in_order, lacks, with_actual, Table, look_up, statement}
use Rattle.st_names.specs.declared.scope.NameScope.{NameScope}
use Rattle.st_tree.proofs.CalledMost.{called_invoke}
use Rattle.st_tree.proofs.TypingEquations.{good_invoke, nesting_invoke, type_had}
use Rattle.st_lexer.proofs.Common.{StType, Var, Local, Pou}
use Rattle.st_tree.specs.declared.program.Stmt.TheOpen as S
use Rattle.st_tree.specs.declared.program.Stmt.TheVariants as stmt
use Rattle.st_tree.specs.declared.raw.RawStmtKind.TheVariants as raw
use Rattle.st_reading_laws.proofs.Declared.{keys_of_locals, types_of_locals}

-- The call as it is written

-- a variable of a formal's type, as it is written
abbrev IsGiven : Names → NameScope → Local → Var → Type 0
IsGiven names s l v = Written names s (of_type l.ty v)

module _ (names : Names) (s : NameScope) (types : Table StType) where
  abbrev actuals_of : List Local → List Var → List Actual
  actuals_of (l ∷ ls) (v ∷ vars) = (l.name, raw_var names v) ∷ actuals_of ls vars
  actuals_of ls vars = []

  abbrev entries : List Local → List Var → Table (Option Var)
  entries (l ∷ ls) (v ∷ vars) = (key_of l.name, Some v) ∷ entries ls vars
  entries ls vars = []

  -- one actual more, by what its variable and its formal are
  one_more : (m : Line) (table : Table (Option Var)) (l : Local) (v : Var) → IsGiven names s l v
      → look_up (key_of l.name) types ≡ Some l.ty → look_up (key_of l.name) table ≡ None
      → with_actual s m types (given_with table) (l.name, raw_var names v)
      ≡ given_with (table ++ (key_of l.name, Some v) ∷ [])
  one_more m table l v w t absent = rw (w.means, t, absent, is_own_type l.ty) refl

  all_given : (m : Line) (ls : List Local) (vars : List Var) (table : Table (Option Var)) → EachPair (IsGiven names s) ls vars
      → AreTyped types ls → AreDistinct ls → AreAbsent table ls
      → fold (with_actual s m types) (given_with table) (actuals_of ls vars) ≡ given_with (table ++ entries ls vars)
  all_given m [] [] table f t d a = ap given_with (sym (append-nil table))
  all_given m (l ∷ ls) (v ∷ vars) table f t d a =
      let e : List ℕ × Option Var = (key_of l.name, Some v) in
      ap (λ g. fold (with_actual s m types) g (actuals_of ls vars)) (one_more m table l v f.0 t.0 a.0)
      ∙ all_given m ls vars (table ++ e ∷ []) f.1 t.1 d.1 (absent_also table (key_of l.name) (Some v) ls a.1 d.0)
      ∙ ap given_with (append_assoc table (e ∷ []) (entries ls vars))
  all_given m ls vars table f t d a = absurd f

  are_ordered : (ls : List Local) (vars : List Var) (table : Table (Option Var)) → EachPair (IsGiven names s) ls vars
      → AreDistinct ls → AreAbsent table ls
      → (in_order (table ++ entries ls vars) (keys_of_locals ls) ≡ vars)
      × (lacks (table ++ entries ls vars) (keys_of_locals ls) ≡ false)
  are_ordered [] [] table f d a = (refl, refl)
  are_ordered (l ∷ ls) (v ∷ vars) table f d a =
      let e : List ℕ × Option Var = (key_of l.name, Some v) in
      let there = found_behind table (key_of l.name) (Some v) (entries ls vars) a.0 in
      let more = rw (append_assoc table (e ∷ []) (entries ls vars)) at
      (are_ordered ls vars (table ++ e ∷ []) f.1 d.1 (absent_also table (key_of l.name) (Some v) ls a.1 d.0)) in
      (rw there (ap (λ vs. v ∷ vs) more.0), rw there more.1)
  are_ordered ls vars table f d a = absurd f

  -- as forms
  as_tree : (k : ℕ) (others : Actuals) (ls : List Local) (vars : List Var)
      → tree_actuals (actuals_from names k others ls vars) ≡ tree_actuals others ++ actuals_of ls vars
  as_tree k others (l ∷ ls) (v ∷ vars) =
      as_tree k (actual others l.name (on k) (raw_var names v) (on k)) ls vars
      ∙ append_assoc (tree_actuals others) ((l.name, raw_var names v) ∷ []) (actuals_of ls vars)
  as_tree k others ls vars = sym (append-nil (tree_actuals others))

  are_spelled : (k : ℕ) (others : Actuals) (ls : List Local) (vars : List Var) → EachPair (IsGiven names s) ls vars
      → ((i : ℕ) (l : Local) → slice_get ls i ≡ Some l → is_name l.name ≡ true) → Spells (spell_actuals others)
      → Spells (spell_actuals (actuals_from names k others ls vars))
  are_spelled k others (l ∷ ls) (v ∷ vars) f n h =
      are_spelled k (actual others l.name (on k) (raw_var names v) (on k)) ls vars f.1 (λ i m g. n (suc i) m g)
      (λ ks q. h _ (comma_spells others _ (n 0 l refl, (refl, (f.0.spelled, q)))))
  are_spelled k others ls vars f n h = h

-- A call

module _ (names : Names) (s : NameScope) (sees : Sees s names) where
  -- the variables that a call gives have the types of the formals
  are_written : (ls : List Local) (vars : List Var) → are_given (unit_scope_by names) ls vars ≡ true
      → EachPair (IsGiven names s) ls vars
  are_written [] [] h = tt
  are_written [] (v ∷ vars) h = absurd cc
  are_written (l ∷ ls) [] h = absurd cc
  are_written (l ∷ ls) (v ∷ vars) h =
      let both = and_parts (has_type l.ty (variable_type (unit_scope_by names) v)) (are_given (unit_scope_by names) ls vars) h in
      (written s names sees v l.ty (type_had _ _ both.0), are_written ls vars both.1)

  called : (inside : Bool) (n : ℕ) (vars : List Var) (k : ℕ) (o : Option Pou) → slice_get names.units n ≡ o
      → is_call (unit_scope_by names) (option_map head_of o) vars ≡ true
      → GoodOne s inside (stmt.Invoke n vars)
      (invoke (on k) (unit_name o) (actuals_from names k no_actual (formals_of o) vars))
  called inside n vars k None e h = absurd cc
  called inside n vars k (Some u) e h =
      let c = sees.function n u e (grind arith) (grind arith) in
      let types = types_of_locals u.formals in
      let fit = are_written u.formals vars (and_parts _ (are_given (unit_scope_by names) u.formals vars) h).1 in
      let absent = none_absent (Option Var) u.formals in
      let given = all_given names s types (on k) u.formals vars [] fit (are_typed u.formals c.distinct) c.distinct absent in
      let order = are_ordered names s types u.formals vars [] fit c.distinct absent in
      let form = tree_actuals (actuals_from names k no_actual u.formals vars) in
      let calls : calls_of s (on_line (on k) (raw.Invoke u.name form)) ≡ call_on (on k) (Ok n) =
      calls_invoke s (on k) u.name form ∙ ap (λ o. call_on (on k) (callee o)) c.means.0 in
      record {
        means = ap (λ z. statement s (on_line (on k) (raw.Invoke u.name z))) (as_tree names s types k no_actual u.formals vars)
            ∙ call_is s (on k) u.name _ n (formals_in u) _ c.means.0 c.formals given order.1
            ∙ ap (λ vs. sound (stmt.Invoke n vs)) order.0;
        fits = tt;
        spelled = λ ks q. (
          c.means.1,
          (
            refl,
            are_spelled names s types k no_actual u.formals vars fit c.named (λ ls r. r) _ (refl, q),
          ),
        );
        low = λ d. omega (arith, nesting_invoke n vars);
        calls = λ f. omega (arith, ap (bound f) calls, called_invoke f n vars);
      }

  -- a well typed call
  pub invoke_good : (inside : Bool) (n : ℕ) (vars : List Var)
      → is_well_typed (unit_scope_by names) (stmt.Invoke n vars) inside ≡ true → (k : ℕ)
      → GoodOne s inside (stmt.Invoke n vars) (statement_from names (stmt.Invoke n vars) k).0
  invoke_good inside n vars h k =
      let typed : is_call (unit_scope_by names) (option_map head_of (slice_get names.units n)) vars ≡ true =
      ap (λ o. is_call (unit_scope_by names) o vars) (sym (slice_get-map head_of names.units n))
      ∙ sym (good_invoke (unit_scope_by names) inside n vars) ∙ h in
      good_at names (S.Invoke n vars) (stmt.rolls-Invoke n vars) k (called inside n vars k (slice_get names.units n) refl typed)

-- The statements of a unit that break no rule are well typed, and nest no deeper than they are written: a call gives
-- each formal of a function a variable of its type.
use Rattle.st_tree.proofs.Common.{◌≡◌, Bool, true, [], map, Some, sym, ap, ◌∙◌, ℕ, false, ◌&&◌, ◌||◌, cond, List, ◌∷◌, ◌++◌, Option, None, is_some, is_none, Result, refl, subst, arith, Line, UnitScope, are_given, has_type, variable_type, slice_get, fold, Reason, rule_break, key_of, is_type, Break}
use Rattle.st_grammar.specs.Forms.{Form, Statement, assign, write, invoke, choice, choice_else, cases, cases_else, loop, jump, Statements, none, empty, further, Arms, no_arm, arm, CaseArms, no_case, case_arm, Actuals, no_actual, actual}
use Rattle.st_grammar.specs.Grammar.{AllFit, ArmsFit, Binds, CasesFit, Fits, arm_of as raw_arm, case_of as raw_case, tree, tree_all, tree_arms, tree_cases, tree_labels, tree_one, spell, spell_all, spell_arms, spell_cases, spell_one, tree_actuals, spell_actuals}
use Rattle.st_text_laws.proofs.Worded.{Worded, all_behind, arms_behind, cases_behind, form_behind, labels_behind, actuals_behind, comma_past_actuals}
use Rattle.st_text_laws.proofs.ReadValues.{found_labels, labels_typed}
use Rattle.st_text_laws.proofs.ReadExpressions.{ReadExpression, found}
use Rattle.st_reading_laws.proofs.Parts.{arm_clean, assign_clean, assign_fits, breaks_last, case_arm_clean, case_clean, if_clean, selector_clean, selector_is, selector_type, test_bool, test_clean, variable_there, while_clean, write_clean, write_fits, arms_read_last, cases_read_last}
use Rattle.st_reading_laws.proofs.Lists.{map_last, nil_first, nil_second}
use Rattle.st_text_laws.proofs.ReadStatements.{FoundAll, FoundArms, FoundCases, FoundOne, of_arm, of_assign, of_case_arm, of_cases, of_cases_else, of_choice, of_choice_else, of_empty, of_further, of_jump, of_loop, of_no_arm, of_no_case, of_none, of_write}
use Rattle.st_text_laws.proofs.Sees.{by_entry, Sees, variable_has, IsCallable}
use Rattle.st_lexer.proofs.Common.{StType, Var, Local, Stmt}
use Rattle.st_rules.proofs.Common.{Judged, breaks_in, breaks_rule, as_list, sound, expression, judgement_on, variable_on, arms_on, case_arms_on, selector, statement, statements, type_of_selector, Actual, GivenActuals, callee, formal_breaks, given_by, in_order, lacks, with_actual, Table, look_up, with_entry, meaning_in}
use Rattle.st_rules.specs.Statements.{arm as arm_in, case_arm as case_arm_in}
use Rattle.st_rules.specs.declared.expression.Typed.{Typed}
use Rattle.st_names.specs.declared.scope.NameScope.{NameScope}
use Rattle.s7_base.specs.declared.reason.Reason.TheVariants.{TypeMismatch}
use Rattle.st_text_laws.specs.Spelled.{is_variable}
use Rattle.st_reading_laws.proofs.Actions.{act_invoke, calls_invoke}
use Rattle.st_reading_laws.proofs.Called.{AreTyped, are_typed, call_is}
use Rattle.st_reading_laws.proofs.Apart.{same_keys}
use Rattle.st_rules.specs.Invocations.{call_of, function_call, none_given, plain, var_given}
use Rattle.st_names.specs.declared.scope.Formals.{Formals}
use Rattle.st_names.specs.declared.scope.Meaning.{Meaning}
use Rattle.st_names.specs.declared.scope.Meaning.TheVariants as meaning
use Rattle.st_names.specs.declared.variable.TypedVar.{TypedVar}
use Rattle.st_tree.proofs.CalledMost.{called_invoke}
use Rattle.st_tree.proofs.TypingEquations.{good_invoke, nesting_invoke}
use Rattle.st_tree.specs.declared.program.Stmt.TheVariants as stmt
use Rattle.st_reading_laws.proofs.Declared.{keys_of_locals}

-- Variables that formals are given

-- a variable stands under a key, and goes with what the key has as its type
record IsGiven (sight : UnitScope) (types : Table StType) (key : List ℕ) (o : Option Var) : Type 0 where
  x : TypedVar
  is : o ≡ Some x.var
  has : variable_type sight x.var ≡ Some x.ty
  ty : StType
  typed : look_up key types ≡ Some ty
  fits : is_type x.ty ty ≡ true

module _ (sight : UnitScope) (types : Table StType) where
  abbrev AreGiven : Table (Option Var) → Type 0
  AreGiven [] = Unit {0}
  AreGiven (e ∷ table) = IsGiven sight types e.0 e.1 × AreGiven table

  given_last : (table : Table (Option Var)) (key : List ℕ) (o : Option Var) → IsGiven sight types key o → AreGiven table
      → AreGiven (table ++ (key, o) ∷ [])
  given_last [] key o g h = (g, tt)
  given_last (e ∷ table) key o g h = (h.0, given_last table key o g h.1)

  given_more : (table : Table (Option Var)) (key : List ℕ) (o : Option Var) → IsGiven sight types key o → AreGiven table
      → AreGiven (with_entry key o table)
  given_more table key o g h = by (is_some (look_up key table))
    where
      by : (t : Bool) → AreGiven (cond t table (table ++ (key, o) ∷ []))
      by true = h
      by false = given_last table key o g h

  looked_up : (table : Table (Option Var)) (key : List ℕ) (o : Option Var) → AreGiven table → look_up key table ≡ Some o
      → IsGiven sight types key o
  looked_up [] key o h q = absurd cc
  looked_up (e ∷ table) key o h q =
      by_entry key e.0 e.1 o _ (λ s value. subst (λ p. IsGiven sight types key p) value
      (subst (λ j. IsGiven sight types j e.1) (sym (same_keys key e.0 s)) h.0)) (looked_up table key o h.1) q

  record InOrder (vars : Table (Option Var)) (ls : List Local) : Type 0 where
    xs : List Var
    same : in_order vars (keys_of_locals ls) ≡ xs
    given : are_given sight ls xs ≡ true

  -- a given variable is of its formal's type
  of_formal : (l : Local) (o : Option Var) → (g : IsGiven sight types (key_of l.name) o)
      → look_up (key_of l.name) types ≡ Some l.ty → has_type l.ty (variable_type sight g.x.var) ≡ true
  of_formal l o g t =
      let there : Some g.ty ≡ Some l.ty = sym g.typed ∙ t in
      let same : g.ty ≡ l.ty = cc in
      ap (has_type l.ty) g.has
      ∙ subst (λ ty. is_type g.x.ty ty ≡ true) same g.fits

  are_in_order : (vars : Table (Option Var)) (ls : List Local) → AreGiven vars → AreTyped types ls
      → lacks vars (keys_of_locals ls) ≡ false → InOrder vars ls
  are_in_order vars [] h t q = record { xs = []; same = refl; given = refl }
  are_in_order vars (l ∷ ls) h t q = step (look_up (key_of l.name) vars) refl (are_in_order vars ls h t.1) q
    where
      step : (o : Option (Option Var)) → look_up (key_of l.name) vars ≡ o → (lacks vars (keys_of_locals ls) ≡ false → InOrder vars ls)
          → (is_none o || lacks vars (keys_of_locals ls)) ≡ false → InOrder vars (l ∷ ls)
      step None e more f = absurd cc
      step (Some v) e more f =
          let g = looked_up vars (key_of l.name) v h e in
          let r = more f in
          record {
            xs = g.x.var ∷ r.xs;
            same = ap (λ o. as_list (var_given o) ++ in_order vars (keys_of_locals ls)) e ∙ ap (λ p. as_list p ++ in_order vars (keys_of_locals ls)) g.is
                ∙ ap (λ vs. g.x.var ∷ vs) r.same;
            given = ap (λ b. b && are_given sight ls r.xs) (of_formal l v g t.0) ∙ r.given;
          }

  -- The call that was read

  abbrev HaveVariables : List Actual → Type 0
  HaveVariables [] = Unit {0}
  HaveVariables (a ∷ actuals) = (is_variable a.1 ≡ true) × HaveVariables actuals

  have_last : (actuals : List Actual) (a : Actual) → HaveVariables actuals → is_variable a.1 ≡ true → HaveVariables (actuals ++ a ∷ [])
  have_last [] a h s = (s, tt)
  have_last (b ∷ actuals) a h s = (h.0, have_last actuals a h.1 s)

  have_variables : (a : Actuals) → Worded (spell_actuals a) → HaveVariables (tree_actuals a)
  have_variables no_actual s = tt
  have_variables (actual others name line v place) s = have_last (tree_actuals others) (name, v) (have_variables others (_, s.1))
      (comma_past_actuals others _ (actuals_behind others _ s.1)).1.1.0

  module _ (scope : NameScope) (sees : Sees scope sight) (line : Line) where
    abbrev IsSound : GivenActuals → Type 0
    IsSound given = given.breaks ≡ [] → AreGiven given.vars

    formal_given : (key : List ℕ) (t : Option StType) (o : Option (Option Var)) (x : TypedVar) → look_up key types ≡ t
        → formal_breaks line t o (Some x) ≡ [] → variable_type sight x.var ≡ Some x.ty → IsGiven sight types key (Some x.var)
    formal_given key None o x e h w = absurd cc
    formal_given key (Some ty) (Some other) x e h w = absurd cc
    formal_given key (Some ty) None x e h w =
        record { x = x; is = refl; has = w; ty = ty; typed = e; fits = by (is_type x.ty ty) h }
      where
        by : (t : Bool) → cond t [] (rule_break line TypeMismatch) ≡ [] → t ≡ true
        by true q = refl
        by false q = absurd cc

    one_more : (given : GivenActuals) (a : Actual) → is_variable a.1 ≡ true → IsSound given → IsSound (with_actual scope line types given a)
    one_more given a v s h =
        let key = key_of a.0 in
        let j = variable_on scope line a.1 in
        let rules : List Break = formal_breaks line (look_up key types) (look_up key given.vars) j.found in
        let own : j.breaks ++ rules ≡ [] = nil_second given.breaks (j.breaks ++ rules) h in
        let x = variable_there scope line a.1 (nil_first j.breaks rules own) in
        let found : j.found ≡ Some x.0 = ap (λ (r : Result TypedVar Reason). (judgement_on line r).found) x.1 in
        let w = variable_has scope sight sees a.1 x.0 v x.1 in
        let clean : formal_breaks line (look_up key types) (look_up key given.vars) (Some x.0) ≡ [] =
        sym (ap (formal_breaks line (look_up key types) (look_up key given.vars)) found) ∙ nil_second j.breaks rules own in
        let g = formal_given key (look_up key types) (look_up key given.vars) x.0 refl clean w in
        given_more given.vars key (plain j.found) (subst (λ o. IsGiven sight types key (plain o)) (sym found) g)
        (s (nil_first given.breaks (j.breaks ++ rules) h))

    all_given : (actuals : List Actual) (given : GivenActuals) → HaveVariables actuals
        → IsSound given → IsSound (fold (with_actual scope line types) given actuals)
    all_given [] given v s = s
    all_given (a ∷ actuals) given v s = all_given actuals (with_actual scope line types given a) v.1 (one_more given a v.0 s)

-- A call

-- what a call that breaks no rule is
record Called (s : NameScope) (m : Line) (name : List ℕ) (actuals : List Actual) (i : ℕ) (formals : Formals) : Type 0 where
  clean : (given_by s m formals.types actuals).breaks ≡ []
  none : lacks (given_by s m formals.types actuals).vars formals.keys ≡ false

called : (s : NameScope) (m : Line) (name : List ℕ) (actuals : List Actual) (i : ℕ) (formals : Formals)
    → (function_call s m i (Some formals) actuals).breaks ≡ []
    → Called s m name actuals i formals
called s m name actuals i formals h = by (lacks given.vars formals.keys) refl h
  where
    given : GivenActuals
    given = given_by s m formals.types actuals

    judged : Bool → Judged Stmt
    judged t = cond t (breaks_rule m TypeMismatch) (sound (stmt.Invoke i (in_order given.vars formals.keys)))

    by : (t : Bool) → lacks given.vars formals.keys ≡ t → given.breaks ++ (judged t).breaks ≡ [] → Called s m name actuals i formals
    by true e q = let own : (judged true).breaks ≡ [] = nil_second given.breaks (judged true).breaks q in absurd cc
    by false e q = record { clean = nil_first given.breaks [] q; none = e }

module _ (scope : NameScope) (sight : UnitScope) (sees : Sees scope sight) (inside : Bool) where
  -- a call of a function that the unit sees
  of_function : (l : Line) (name : List ℕ) (actuals : Actuals) (i : ℕ) → Worded (spell_actuals actuals)
      → meaning_in scope (key_of name) ≡ Some (meaning.Function i) → (c : IsCallable scope sight i)
      → Called scope l name (tree_actuals actuals) i c.formals → FoundOne scope sight inside (invoke l name actuals)
  of_function l name actuals i s m c k =
      let types = c.formals.types in
      let given = given_by scope l types (tree_actuals actuals) in
      let is_given = all_given sight types scope sees l (tree_actuals actuals) none_given
      (have_variables sight types actuals s) (λ h. tt) k.clean in
      let none : lacks given.vars (keys_of_locals c.head.formals) ≡ false = sym (ap (λ ks. lacks given.vars ks) c.keys) ∙ k.none in
      let typed = subst (λ t. AreTyped t c.head.formals) (sym c.types) (are_typed c.head.formals c.distinct) in
      let r = are_in_order sight types given.vars c.head.formals is_given typed none in
      let order : in_order given.vars c.formals.keys ≡ r.xs = ap (in_order given.vars) c.keys ∙ r.same in
      record {
        x = stmt.Invoke i r.xs;
        found =
            call_is scope l name (tree_actuals actuals) i c.formals given.vars m c.as_list (ap (λ bs. (let g : GivenActuals =
            record { vars = given.vars; breaks = bs } in g)) k.clean) k.none
            ∙ ap (λ vs. sound (stmt.Invoke i vs)) order;
        typed = rw (good_invoke sight inside i r.xs, c.there, c.function, c.seen) r.given;
        low = λ d. omega (arith, nesting_invoke i r.xs);
        calls = λ f. rw (calls_invoke scope l name (tree_actuals actuals), m, c.there) (omega (arith, called_invoke f i r.xs));
      }

  pub of_invoke : (l : Line) (name : List ℕ) (actuals : Actuals) → Worded (spell_actuals actuals)
      → (statement scope (tree_one (invoke l name actuals))).breaks ≡ [] → FoundOne scope sight inside (invoke l name actuals)
  of_invoke l name actuals s h =
      by_meaning (meaning_in scope (key_of name)) refl
      (sym (ap (λ (j : Judged Stmt). j.breaks) (act_invoke scope l name (tree_actuals actuals))) ∙ h)
    where
      by_function : (i : ℕ) → meaning_in scope (key_of name) ≡ Some (meaning.Function i)
          → (function_call scope l i (slice_get scope.formals i) (tree_actuals actuals)).breaks ≡ [] → FoundOne scope sight inside (invoke l name actuals)
      by_function i m c =
          let f = sees.function (key_of name) i m in
          of_function l name actuals i s m f (called scope l name (tree_actuals actuals) i f.formals
          (sym (ap (λ o. (function_call scope l i o (tree_actuals actuals)).breaks) f.as_list) ∙ c))

      by_meaning : (o : Option Meaning) → meaning_in scope (key_of name) ≡ o → (call_of scope l (callee o) (tree_actuals actuals)).breaks ≡ []
          → FoundOne scope sight inside (invoke l name actuals)
      by_meaning (Some (meaning.Function i)) e c = by_function i e c
      by_meaning other e c = absurd cc

-- Bodies

module _ (scope : NameScope) (sight : UnitScope) (sees : Sees scope sight) where
  an : (l : Line) (f : Form) → Worded (spell f) → Binds f → (expression scope l (tree f)).breaks ≡ [] → ReadExpression scope sight l f
  an l f s b c = found scope sight sees l f s b c

  -- the arms of a CASE have no broken rule at the type that its selector has
  at_type : (l : Line) (e : Form) (arms : CaseArms) (t : Typed) → selector scope l (tree e) ≡ (record { found = Some t; breaks = [] })
      → breaks_in (case_arms_on l (type_of_selector (selector scope l (tree e)).found) (map (case_arm_in scope) (tree_cases arms))) ≡ []
      → breaks_in (case_arms_on l (Some t.ty) (map (case_arm_in scope) (tree_cases arms))) ≡ []
  at_type l e arms t h c =
      sym (ap (λ (j : Judged Typed). breaks_in (case_arms_on l (type_of_selector j.found) (map (case_arm_in scope) (tree_cases arms)))) h) ∙ c

  mutual
    pub found_one : (inside : Bool) (s : Statement) → Worded (spell_one s) → Fits inside s
        → (statement scope (tree_one s)).breaks ≡ [] → FoundOne scope sight inside s
    found_one inside (assign l v e) s f c =
        let clean = assign_clean scope l v (tree e) c in
        let x = variable_there scope l v clean.0 in
        let g = an l e (_, s.1.1.1) f clean.1 in
        of_assign scope sight inside l v e x.0 x.1 (variable_has scope sight sees v x.0 s.1.0 x.1) g (assign_fits scope l v (tree e) x.0 g.t x.1 g.found c)
    found_one inside (write l w p e) s f c =
        let clean = write_clean scope l w (tree p) (tree e) c in
        let g = an l p (_, s.1.1.1) f.0 clean.0 in
        let h = an l e (_, (form_behind p _ s.1.1.1).1) f.1 clean.1 in
        of_write scope sight inside l w p e g h (write_fits scope l w (tree p) (tree e) g.t h.t g.found h.found c)
    found_one inside (invoke l name actuals) s f c = of_invoke scope sight sees inside l name actuals (_, s.1.1.1) c
    found_one inside (choice l arms) s f c =
        let clean = if_clean scope l (tree_arms arms) [] c in
        of_choice scope sight inside l arms f.0 (found_arms inside l arms (_, s.1) f.1 clean.0)
    found_one inside (choice_else l arms b) s f c =
        let clean = if_clean scope l (tree_arms arms) (tree_all b) c in
        of_choice_else scope sight inside l arms b f.0 (found_arms inside l arms (_, s.1) f.1 clean.0)
        (found_all inside b (_, (arms_behind l arms _ s.1).1) f.2 clean.1)
    found_one inside (cases l e arms) s f c =
        let clean = case_clean scope l (tree e) (tree_cases arms) [] c in
        let g = an l e (_, s.1.1) f.0 (selector_clean scope l (tree e) clean.0) in
        let ty = selector_type scope l (tree e) g.t g.found clean.0 in
        of_cases scope sight inside l e arms f.1 g ty
        (found_cases inside l g.t.ty arms (_, (form_behind e _ s.1.1).1) f.2 (at_type l e arms g.t (selector_is scope l (tree e) g.t g.found ty) clean.1))
    found_one inside (cases_else l e arms b) s f c =
        let clean = case_clean scope l (tree e) (tree_cases arms) (tree_all b) c in
        let g = an l e (_, s.1.1) f.0 (selector_clean scope l (tree e) clean.0) in
        let ty = selector_type scope l (tree e) g.t g.found clean.0 in
        of_cases_else scope sight inside l e arms b f.1 g ty (found_cases inside l g.t.ty arms (_, (form_behind e _ s.1.1).1) f.2
        (at_type l e arms g.t (selector_is scope l (tree e) g.t g.found ty) clean.1))
        (found_all inside b (_, (cases_behind arms _ (form_behind e _ s.1.1).1).1) f.3 clean.2)
    found_one inside (loop l e b) s f c =
        let clean = while_clean scope l (tree e) (tree_all b) c in
        let g = an l e (_, s.1.1) f.0 (test_clean scope l (tree e) clean.0) in
        of_loop scope sight inside l e b g (test_bool scope l (tree e) g.t g.found clean.0) (found_all true b (_, (form_behind e _ s.1.1).1) f.1 clean.1)
    found_one inside (jump l word) s f c = of_jump scope sight inside l word f

    pub found_all : (inside : Bool) (b : Statements) → Worded (spell_all b) → AllFit inside b
        → breaks_in (statements scope (tree_all b)) ≡ [] → FoundAll scope sight inside b
    found_all inside none s f c = of_none scope sight inside
    found_all inside (empty b) s f c = of_empty scope sight inside b (found_all inside b (_, s.1) f c)
    found_all inside (further b x) s f c =
        let clean =
        breaks_last (statements scope (tree_all b)) (statement scope (tree_one x))
        (sym (ap breaks_in (map_last (statement scope) (tree_all b) (tree_one x))) ∙ c) in
        of_further scope sight inside b x (found_all inside b (_, s.1) f.0 clean.0) (found_one inside x (_, all_behind b _ s.1) f.1 clean.1)

    found_arms : (inside : Bool) (l : Line) (a : Arms) → Worded (spell_arms l a)
        → ArmsFit inside a → breaks_in (arms_on l (map (arm_in scope) (tree_arms a))) ≡ []
        → FoundArms scope sight inside l a
    found_arms inside l no_arm s f c = of_no_arm scope sight inside l
    found_arms inside l (arm others e b) s f c =
        let read = raw_arm (tree e) (tree_all b) in
        let clean =
        breaks_last (arms_on l (map (arm_in scope) (tree_arms others))) (arm_in scope read l)
        (sym (ap breaks_in (arms_read_last scope l (tree_arms others) read)) ∙ c) in
        let own = arm_clean scope l (tree e) (tree_all b) clean.1 in
        let test = (arms_behind l others _ s.1).1 in
        let g = an l e (_, test) f.1 (test_clean scope l (tree e) own.0) in
        of_arm scope sight inside l others e b (found_arms inside l others (_, s.1) f.0 clean.0) g (test_bool scope l (tree e) g.t g.found own.0)
        (found_all inside b (_, (form_behind e _ test).1) f.2 own.1)

    found_cases : (inside : Bool) (l : Line) (ty : StType) (a : CaseArms) → Worded (spell_cases a) → CasesFit inside a
        → breaks_in (case_arms_on l (Some ty) (map (case_arm_in scope) (tree_cases a))) ≡ [] → FoundCases scope sight inside l ty a
    found_cases inside l ty no_case s f c = of_no_case scope sight inside l ty
    found_cases inside l ty (case_arm others labels b) s f c =
        let read = raw_case (tree_labels labels) (tree_all b) in
        let clean = breaks_last (case_arms_on l (Some ty) (map (case_arm_in scope) (tree_cases others))) (case_arm_in scope read l (Some ty))
        (sym (ap breaks_in (cases_read_last scope l (Some ty) (tree_cases others) read)) ∙ c) in
        let own = case_arm_clean scope l ty (tree_labels labels) (tree_all b) clean.1 in
        of_case_arm scope sight inside l ty others labels b (found_cases inside l ty others (_, s.1) f.0 clean.0)
        (found_labels ty labels (_, cases_behind others _ s.1) f.1 (labels_typed l ty (tree_labels labels) own.0))
        (found_all inside b (_, (labels_behind labels _ (cases_behind others _ s.1)).1) f.2 own.1)

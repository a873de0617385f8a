-- Well typed statements in their canonical form: they mean the statements, are of the language, nest no deeper than
-- the tree says, and call the same units.
use Rattle.st_text_laws.proofs.Spells.{arm_word_spelled, Spells}
use Rattle.st_tree.proofs.Common.{◌≡◌, ℕ, ◌++◌, Bool, true, List, [], ◌∷◌, map, Option, Some, refl, sym, ap, subst, ◌∙◌, arith, ℤ, and_parts, line_after, Line, Width, arm_nesting, case_nesting, nesting, is_selector, Names, type_of, type_of_width, are_well_typed, each, each_case, expression_type, has_type, is_arm, is_case_arm, is_some_of, is_well_typed, variable_type, is_value, list_all}
use Rattle.std.proofs.lemmas.List.{append-nil, append_assoc}
use Rattle.st_text_laws.specs.Canonical.{Placed, all_from, arm_from, arms_from, body_from, case_from, cases_else_from, cases_from, choice_from, expr_form, on, raw_var, statement_from, FromLine, arm_with_labels, labels_behind, labels_form, literal_form}
use Rattle.st_grammar.specs.Forms.{Statement, Statements, none, further, Arms, no_arm, arm, CaseArms, no_case, case_arm, jump, Labels, label, more_labels}
use Rattle.st_grammar.specs.Grammar.{arm_of as raw_arm, case_of as raw_case, jump_tree, may_jump, on_line, tree, tree_all, tree_arms, tree_cases, tree_labels, tree_one, LabelsFit, spell_labels}
use Rattle.st_reading_laws.proofs.Actions.{act_continue, act_exit, act_return, calls_at}
use Rattle.st_reading_laws.proofs.Bounds.{all_last, arms_last, bound_case, bound_if, bound_none, bound_while, cases_last, greatest_last}
use Rattle.st_reading_laws.proofs.Labels.{is_own_type, no_label_breaks, of_type as labels_of, values_of}
use Rattle.st_text_laws.proofs.ExpressionForms.{expression_sound, nest_is, typed_tree}
use Rattle.st_text_laws.proofs.Good.{GoodAll, GoodArms, GoodCases, GoodOne, from_arm, from_case_arm, good_at}
use Rattle.st_text_laws.proofs.Invoked.{invoke_good}
use Rattle.st_reading_laws.proofs.Parts.{arm_is, assign_is, case_arm_is, case_is, if_is, selector_is, test_is, values, while_is, write_is, arms_sound_last, cases_sound_last, statements_last}
use Rattle.st_text_laws.proofs.NameScope.{Sees, unit_scope_by}
use Rattle.st_text_laws.proofs.Variables.{of_type, written}
use Rattle.st_rules.proofs.Common.{calls_of, sound, label_breaks, statement}
use Rattle.st_names.specs.declared.scope.NameScope.{NameScope}
use Rattle.st_tree.proofs.CalledMost.{called_case, called_if, called_in_arm, called_in_case, called_last, called_while}
use Rattle.st_tree.proofs.Induction.{Each, InArm, InCase, StmtSteps, every_body}
use Rattle.st_tree.proofs.TypedParts.{body_of_case, both_sides, parts_of_arm, parts_of_arms, parts_of_body, parts_of_case, parts_of_cases, parts_of_if, parts_of_while}
use Rattle.st_tree.proofs.TypingEquations.{good_area_write, good_assign, good_case, good_case_arm, good_continue, good_exit, good_if, nesting_area_write, nesting_arm, nesting_assign, nesting_case, nesting_case_arm, nesting_if, nesting_while, type_had}
use Rattle.st_lexer.proofs.Common.{Expr, StType, Var, Arm, CaseArm, Stmt}
use Rattle.st_tree.specs.declared.expr.StType.TheVariants as type
use Rattle.st_tree.specs.declared.program.Stmt.TheOpen as S
use Rattle.st_tree.specs.declared.program.Stmt.TheVariants as stmt
use Rattle.st_tree.specs.declared.raw.RawStmtKind.TheOpen as K
use Rattle.st_tree.specs.declared.raw.RawStmtKind.TheVariants as raw
use Rattle.st_grammar.specs.declared.kind.Jump.{Jump}
use Rattle.st_grammar.specs.declared.kind.Jump.TheVariants as word
use Rattle.st_reading_laws.proofs.Lists.{map_last}
use Rattle.st_text_laws.proofs.ValueForms.{kept_literal}
use Rattle.st_lexer.proofs.Words.{and_both}

-- Labels of an arm of a CASE: their canonical form says their values

-- labels of a type whose form says these values
record AreLabels (ty : StType) (ns : List ℤ) (c : Labels) : Type 0 where
  means : tree_labels c ≡ labels_of ty ns
  fits : LabelsFit c
  spelled : Spells (spell_labels c)

labels_good : (ty : StType) (ns more : List ℤ) (c : Labels) → AreLabels ty ns c → list_all (is_value ty) more ≡ true
    → AreLabels ty (ns ++ more) (labels_behind ty c more)
labels_good ty ns [] c a h = subst (λ z. AreLabels ty z c) (sym (append-nil ns)) a
labels_good ty ns (n ∷ more) c a h =
    let both = and_both (is_value ty n) (list_all (is_value ty) more) h in
    let g = kept_literal ty n both.0 in
    rw (← append_assoc ns (n ∷ []) more)
    (labels_good ty (ns ++ n ∷ []) more (more_labels c (literal_form ty n)) (record {
      means = rw (a.means, g.label) (sym (map_last (λ (n : ℤ). (ty, n)) ns n));
      fits = (a.fits, g.value);
      spelled = λ ks q. a.spelled _ (refl, (g.spelled, q));
    }) both.1)

-- an arm of a CASE with these labels after others: it is written, with a form of the labels
record IsWritten (ty : StType) (ns : List ℤ) : Type 0 where
  labels : Labels
  are : AreLabels ty ns labels
  written : (others : CaseArms) (line : ℕ) (body : List FromLine) → arm_with_labels ty others line ns body
      ≡ (case_arm others labels (body_from (line_after line) body).0, (body_from (line_after line) body).1)

-- the labels of an arm, of which there is one
form_labels : (ty : StType) (ns : List ℤ) → is_some_of ns ≡ true → list_all (is_value ty) ns ≡ true
    → IsWritten ty ns
form_labels ty [] some h = absurd cc
form_labels ty (n ∷ ns) some h =
    let both = and_both (is_value ty n) (list_all (is_value ty) ns) h in
    let g = kept_literal ty n both.0 in
    record {
      labels = labels_form ty n ns;
      are = labels_good ty (n ∷ []) ns (label (literal_form ty n))
          (record { means = ap (λ z. z ∷ []) g.label; fits = g.value; spelled = λ ks q. (g.spelled, q) }) both.1;
      written = λ others line body. refl;
    }

-- Types

-- the type of a selector by the rules is the one in which its labels are written
abbrev pub TypesAgreeIn : Names → Type 0
TypesAgreeIn names = (e : Expr) (ty : StType) → expression_type (unit_scope_by names) e ≡ Some ty → type_of names e ≡ ty

some_mapped : {X Y : Type 0} (f : X → Y) (xs : List X) → is_some_of (map f xs) ≡ is_some_of xs
some_mapped f [] = refl
some_mapped f (x ∷ xs) = refl

module _ (s : NameScope) (names : Names) (sees : Sees s names) (agree : TypesAgreeIn names) where
  abbrev type_in : Expr → Option StType
  type_in e = expression_type (unit_scope_by names) e

  abbrev Good : Stmt → Type 0
  Good x = (inside : Bool) → is_well_typed (unit_scope_by names) x inside ≡ true → (k : ℕ)
      → GoodOne s inside x (statement_from names x k).0

  -- Assignments and writes

  assign_good : (v : Var) (e : Expr) → Good (stmt.Assign v e)
  assign_good v e inside h k =
      let t = both_sides (variable_type (unit_scope_by names) v) (type_in e)
      (sym (good_assign (unit_scope_by names) inside v e) ∙ h) in
      let w = written s names sees v t.type t.left in
      let g = expression_sound s names sees e t.type t.right k (on k) in
      good_at names (S.Assign v e) (stmt.rolls-Assign v e) k (record {
        means = assign_is s (on k) (raw_var names v) (tree (expr_form names k e)) (of_type t.type v)
            (typed_tree t.type e) w.means g.means (is_own_type t.type);
        fits = g.binds;
        spelled = λ ks q. (w.spelled, (refl, g.spelled ks q));
        low = λ d. omega (arith, nest_is names k e, nesting_assign v e);
        calls = λ f. bound_none f _ _ (calls_at s (on k) (K.Assign _ _) (raw.rolls-Assign _ _));
      })

  write_good : (w : Width) (p e : Expr) → Good (stmt.AreaWrite w p e)
  write_good w p e inside h k =
      let parts = and_parts (has_type type.Dword (type_in p)) (has_type (type_of_width w) (type_in e))
      (sym (good_area_write (unit_scope_by names) inside w p e) ∙ h) in
      let g = expression_sound s names sees p type.Dword (type_had _ _ parts.0) k (on k) in
      let i = expression_sound s names sees e (type_of_width w) (type_had _ _ parts.1) k (on k) in
      good_at names (S.AreaWrite w p e) (stmt.rolls-AreaWrite w p e) k (record {
        means = write_is s (on k) w (tree (expr_form names k p)) (tree (expr_form names k e)) (typed_tree type.Dword p)
            (typed_tree (type_of_width w) e) g.means i.means (is_own_type (type_of_width w));
        fits = (g.binds, i.binds);
        spelled = λ ks q. (refl, (refl, g.spelled _ (refl, i.spelled _ (refl, q))));
        low = λ d. omega (arith, nest_is names k p, nest_is names k e, nesting_area_write w p e);
        calls = λ f. bound_none f _ _ (calls_at s (on k) (K.AreaWrite _ _ _) (raw.rolls-AreaWrite _ _ _));
      })

  -- Jumps

  -- a jump holds no expression and calls nothing
  jump_good : (x : Stmt) (j : Jump) (inside : Bool) (k : ℕ) → statement s (on_line (on k) (jump_tree j)) ≡ sound x
      → calls_of s (on_line (on k) (jump_tree j)) ≡ [] → may_jump inside j ≡ true → GoodOne s inside x (jump (on k) j)
  jump_good x j inside k means quiet fits = record {
    means = means;
    fits = fits;
    spelled = λ ks q. (refl, q);
    low = λ d. omega arith;
    calls = λ f. bound_none f _ _ quiet;
  }

  -- Bodies

  one_more : (inside : Bool) (xs : List Stmt) (x : Stmt) (others : Statements) (c : Statement)
      → GoodAll s inside xs others → GoodOne s inside x c
      → GoodAll s inside (xs ++ x ∷ []) (further others c)
  one_more inside xs x others c g h = record {
    means = statements_last s (tree_all others) (tree_one c) xs x g.means h.means;
    fits = (g.fits, h.fits);
    spelled = λ ks q. g.spelled _ (h.spelled _ (refl, q));
    low = λ d. omega (arith, greatest_last nesting xs x);
    calls = λ f. omega (arith, called_last f xs x, all_last f s (tree_all others) (tree_one c));
  }

  all_behind : (inside : Bool) (xs more : List Stmt) (others : Statements) (k : ℕ) → GoodAll s inside xs others
      → Each Good more
      → are_well_typed (unit_scope_by names) inside more ≡ true
      → GoodAll s inside (xs ++ more) (all_from others k (map (statement_from names) more)).0
  all_behind inside xs [] others k g p h = rw (append-nil xs) g
  all_behind inside xs (x ∷ more) others k g p h =
      let parts = parts_of_body (unit_scope_by names) inside x more h in
      let next = statement_from names x k in
      rw (← append_assoc xs (x ∷ []) more)
      (all_behind inside (xs ++ x ∷ []) more (further others next.0) next.1
      (one_more inside xs x others next.0 g (p.0 inside parts.0 k)) p.1 parts.1)

  body_good : (inside : Bool) (xs : List Stmt) (k : ℕ) → Each Good xs → are_well_typed (unit_scope_by names) inside xs ≡ true
      → GoodAll s inside xs (body_from k (map (statement_from names) xs)).0
  body_good inside xs k p h = all_behind inside [] xs none k
      (record { means = refl; fits = tt; spelled = λ ks q. q; low = λ d. omega arith; calls = λ f. omega arith }) p h

  -- WHILE

  loop_good : (e : Expr) (body : List Stmt) → Each Good body → Good (stmt.While e body)
  loop_good e body p inside h k =
      let parts = parts_of_while (unit_scope_by names) inside e body h in
      let g = expression_sound s names sees e type.Bool (type_had _ _ parts.0) k (on k) in
      let b = body_good true body (line_after k) p parts.1 in
      let form = tree_all (body_from (line_after k) (map (statement_from names) body)).0 in
      good_at names (S.While e body) (stmt.rolls-While e body) k (record {
        means = while_is s (on k) (tree (expr_form names k e)) form e body
            (test_is s (on k) (tree (expr_form names k e)) (typed_tree type.Bool e) g.means refl) b.means;
        fits = (g.binds, b.fits);
        spelled = λ ks q. (refl, g.spelled _ (refl, b.spelled _ (refl, q)));
        low = λ d. omega (arith, nest_is names k e, nesting_while e body);
        calls = λ f. omega (arith, bound_while, called_while f e body);
      })

  -- Arms of an IF

  one_arm : (inside : Bool) (m : Line) (xs : List Arm) (x : Arm) (others : Arms) (k : ℕ) → GoodArms s inside m xs others
      → InArm Good x
      → is_arm (unit_scope_by names) x inside ≡ true
      → GoodArms s inside m (xs ++ x ∷ [])
      (arm others (expr_form names k x.test) (body_from (line_after k) (map (statement_from names) x.body)).0)
  one_arm inside m xs x others k g p h =
      let parts = parts_of_arm (unit_scope_by names) inside x h in
      let i = expression_sound s names sees x.test type.Bool (type_had _ _ parts.0) k m in
      let b = body_good inside x.body (line_after k) p parts.1 in
      let c = tree (expr_form names k x.test) in
      let form = tree_all (body_from (line_after k) (map (statement_from names) x.body)).0 in
      record {
        means = arms_sound_last s m (tree_arms others) (raw_arm c form) xs x g.means
            (arm_is s m c form x.test x.body (test_is s m c (typed_tree type.Bool x.test) i.means refl) b.means);
        fits = (g.fits, i.binds, b.fits);
        some = λ q. tt;
        spelled = λ line ks q. g.spelled line _ (arm_word_spelled line others, i.spelled _ (refl, b.spelled ks q));
        low = λ d. omega (arith, nest_is names k x.test, greatest_last arm_nesting xs x, nesting_arm x);
        calls = λ f. omega (arith, arms_last, greatest_last (called_in_arm f) xs x);
      }

  arms_behind : (inside : Bool) (m : Line) (xs more : List Arm) (others : Arms) (k : ℕ) → GoodArms s inside m xs others
      → Each (InArm Good) more
      → each inside (map (is_arm (unit_scope_by names)) more) ≡ true
      → GoodArms s inside m (xs ++ more) (arms_from others k (map (arm_from names) more)).0
  arms_behind inside m xs [] others k g p h = rw (append-nil xs) g
  arms_behind inside m xs (x ∷ more) others k g p h =
      let parts = parts_of_arms (unit_scope_by names) inside x more h in
      rw (from_arm names x, ← append_assoc xs (x ∷ []) more)
      (arms_behind inside m (xs ++ x ∷ []) more _ _ (one_arm inside m xs x others k g p.0 parts.0) p.1 parts.1)

  -- IF

  choice_by : (inside : Bool) (arms : List Arm) (other : List Stmt) (k : ℕ) (a : Placed Arms) → is_some_of arms ≡ true
      → GoodArms s inside (on k) arms a.0
      → ((k : ℕ) → GoodAll s inside other (body_from k (map (statement_from names) other)).0)
      → GoodOne s inside (stmt.If arms other) (choice_from k a (map (statement_from names) other)).0
  choice_by inside arms [] k a some g b = record {
    means = if_is s (on k) (tree_arms a.0) [] arms [] g.means refl;
    fits = (g.some some, g.fits);
    spelled = λ ks q. g.spelled _ _ (refl, q);
    low = λ d. omega (arith, nesting_if arms []);
    calls = λ f. omega (arith, bound_if, called_if f arms []);
  }
  choice_by inside arms (y ∷ ys) k a some g b =
      let h = b (line_after a.1) in
      let form = tree_all (body_from (line_after a.1) (map (statement_from names) (y ∷ ys))).0 in
      record {
        means = if_is s (on k) (tree_arms a.0) form arms (y ∷ ys) g.means h.means;
        fits = (g.some some, g.fits, h.fits);
        spelled = λ ks q. g.spelled _ _ (refl, h.spelled _ (refl, q));
        low = λ d. omega (arith, nesting_if arms (y ∷ ys));
        calls = λ f. omega (arith, bound_if, called_if f arms (y ∷ ys));
      }

  choice_good : (arms : List Arm) (other : List Stmt) → Each (InArm Good) arms → Each Good other
      → Good (stmt.If arms other)
  choice_good arms other p q inside h k =
      let parts = parts_of_if (unit_scope_by names) inside arms other h in
      let some : is_some_of arms ≡ true =
      grind (arith, good_if (unit_scope_by names) inside arms other, some_mapped (is_arm (unit_scope_by names)) arms) in
      let none : GoodArms s inside (on k) [] no_arm = record {
        means = refl;
        fits = tt;
        some = λ q. absurd cc;
        spelled = λ line ks q. q;
        low = λ d. omega arith;
        calls = λ f. omega arith;
      } in
      good_at names (S.If arms other) (stmt.rolls-If arms other) k
      (choice_by inside arms other k (arms_from no_arm k (map (arm_from names) arms)) some
      (arms_behind inside (on k) [] arms no_arm k none p parts.0) (λ j. body_good inside other j q parts.1))

  -- Arms of a CASE

  one_case : (inside : Bool) (m : Line) (ty : StType) (xs : List CaseArm) (x : CaseArm) (others : CaseArms) (k : ℕ)
      → GoodCases s inside m ty xs others → InCase Good x → (w : IsWritten ty x.labels)
      → are_well_typed (unit_scope_by names) inside x.body ≡ true
      → GoodCases s inside m ty (xs ++ x ∷ [])
      (case_arm others w.labels (body_from (line_after k) (map (statement_from names) x.body)).0)
  one_case inside m ty xs x others k g p w t =
      let l = w.are in
      let b = body_good inside x.body (line_after k) p t in
      let c = tree_labels w.labels in
      let form = tree_all (body_from (line_after k) (map (statement_from names) x.body)).0 in
      record {
        means = cases_sound_last s m (Some ty) (tree_cases others) (raw_case c form) xs x g.means
            (case_arm_is s m ty c form x.labels x.body
            (ap (label_breaks m (Some ty)) l.means ∙ no_label_breaks m ty x.labels)
            (ap values l.means ∙ values_of ty x.labels) b.means);
        fits = (g.fits, l.fits, b.fits);
        some = λ q. tt;
        spelled = λ ks q. g.spelled _ (l.spelled _ (refl, b.spelled ks q));
        low = λ d. omega (arith, greatest_last case_nesting xs x, nesting_case_arm x);
        calls = λ f. omega (arith, cases_last, greatest_last (called_in_case f) xs x);
      }

  cases_behind : (inside : Bool) (m : Line) (ty : StType) (xs more : List CaseArm) (others : CaseArms) (k : ℕ)
      → GoodCases s inside m ty xs others → Each (InCase Good) more
      → each_case ty inside (map (is_case_arm (unit_scope_by names)) more) ≡ true
      → GoodCases s inside m ty (xs ++ more) (cases_from ty others k (map (case_from names) more)).0
  cases_behind inside m ty xs [] others k g p h = rw (append-nil xs) g
  cases_behind inside m ty xs (x ∷ more) others k g p h =
      let parts = parts_of_cases (unit_scope_by names) inside ty x more h in
      let good = sym (good_case_arm (unit_scope_by names) inside x ty) ∙ parts.0 in
      let w = form_labels ty x.labels (grind arith) (grind arith) in
      let t = body_of_case (unit_scope_by names) inside x ty parts.0 in
      rw (from_case_arm names x, ← append_assoc xs (x ∷ []) more)
      (subst (λ (a : Placed CaseArms). GoodCases s inside m ty ((xs ++ x ∷ []) ++ more)
      (cases_from ty a.0 a.1 (map (case_from names) more)).0)
      (sym (w.written others k (map (statement_from names) x.body)))
      (cases_behind inside m ty (xs ++ x ∷ []) more _ _ (one_case inside m ty xs x others k g p.0 w t) p.1 parts.1))

  -- CASE

  case_by : (inside : Bool) (e : Expr) (arms : List CaseArm) (other : List Stmt) (k : ℕ) (ty : StType)
      (a : Placed CaseArms) → type_in e ≡ Some ty → is_selector ty ≡ true → is_some_of arms ≡ true
      → GoodCases s inside (on k) ty arms a.0
      → ((k : ℕ) → GoodAll s inside other (body_from k (map (statement_from names) other)).0)
      → GoodOne s inside (stmt.Case e arms other)
      (cases_else_from k (expr_form names k e) a (map (statement_from names) other)).0
  case_by inside e arms [] k ty a typed selects some g b =
      let i = expression_sound s names sees e ty typed k (on k) in
      let c = tree (expr_form names k e) in
      record {
        means = case_is s (on k) c (tree_cases a.0) [] (typed_tree ty e) arms []
            (selector_is s (on k) c (typed_tree ty e) i.means selects) g.means refl;
        fits = (i.binds, g.some some, g.fits);
        spelled = λ ks q. (refl, i.spelled _ (refl, g.spelled _ (refl, q)));
        low = λ d. omega (arith, nest_is names k e, nesting_case e arms []);
        calls = λ f. omega (arith, bound_case, called_case f e arms []);
      }
  case_by inside e arms (y ∷ ys) k ty a typed selects some g b =
      let i = expression_sound s names sees e ty typed k (on k) in
      let c = tree (expr_form names k e) in
      let h = b (line_after a.1) in
      let form = tree_all (body_from (line_after a.1) (map (statement_from names) (y ∷ ys))).0 in
      record {
        means = case_is s (on k) c (tree_cases a.0) form (typed_tree ty e) arms (y ∷ ys)
            (selector_is s (on k) c (typed_tree ty e) i.means selects) g.means h.means;
        fits = (i.binds, g.some some, g.fits, h.fits);
        spelled = λ ks q. (refl, i.spelled _ (refl, g.spelled _ (refl, h.spelled _ (refl, q))));
        low = λ d. omega (arith, nest_is names k e, nesting_case e arms (y ∷ ys));
        calls = λ f. omega (arith, bound_case, called_case f e arms (y ∷ ys));
      }

  case_good : (e : Expr) (arms : List CaseArm) (other : List Stmt) → Each (InCase Good) arms → Each Good other
      → Good (stmt.Case e arms other)
  case_good e arms other p q inside h k =
      let parts = parts_of_case (unit_scope_by names) inside e arms other h in
      let t = parts.0 in
      let good = rw t.selector at (sym (good_case (unit_scope_by names) inside e arms other) ∙ h) in
      let selects : is_selector t.type ≡ true = grind arith in
      let some : is_some_of arms ≡ true = grind (arith, some_mapped (is_case_arm (unit_scope_by names)) arms) in
      let none : GoodCases s inside (on k) t.type [] no_case = record {
        means = refl;
        fits = tt;
        some = λ q. absurd cc;
        spelled = λ ks q. q;
        low = λ d. omega arith;
        calls = λ f. omega arith;
      } in
      good_at names (S.Case e arms other) (stmt.rolls-Case e arms other) k
      (rw (agree e t.type t.selector)
      (case_by inside e arms other k t.type (cases_from t.type no_case (line_after k) (map (case_from names) arms))
      t.selector selects some (cases_behind inside (on k) t.type [] arms no_case (line_after k) none p t.arms)
      (λ j. body_good inside other j q parts.1)))

  -- All statements

  steps : StmtSteps Good
  steps = record {
    assign = assign_good;
    area_write = write_good;
    invoke = λ n vars inside h k. invoke_good names s sees inside n vars h k;
    choice = choice_good;
    selection = case_good;
    loop = loop_good;
    exit = λ inside h k. good_at names S.Exit stmt.rolls-Exit k
        (jump_good stmt.Exit word.Exit inside k (act_exit s (on k)) (calls_at s (on k) K.Exit raw.rolls-Exit)
        (sym (good_exit (unit_scope_by names) inside) ∙ h));
    continue = λ inside h k. good_at names S.Continue stmt.rolls-Continue k
        (jump_good stmt.Continue word.Continue inside k (act_continue s (on k))
        (calls_at s (on k) K.Continue raw.rolls-Continue) (sym (good_continue (unit_scope_by names) inside) ∙ h));
    return = λ inside h k. good_at names S.Return stmt.rolls-Return k
        (jump_good stmt.Return word.Return inside k (act_return s (on k))
        (calls_at s (on k) K.Return raw.rolls-Return) refl);
  }

  -- well typed statements
  pub statements_good : (inside : Bool) (xs : List Stmt) → are_well_typed (unit_scope_by names) inside xs ≡ true → (k : ℕ)
      → GoodAll s inside xs (body_from k (map (statement_from names) xs)).0
  statements_good inside xs h k = body_good inside xs k (every_body Good steps xs) h

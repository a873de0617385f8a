-- Statements that break no rule, by their parts: they are well typed, nest no deeper than they are written, and
-- call what the text calls.
use Rattle.st_tree.proofs.Common.{◌≡◌, ℕ, suc, ◌+◌, ◌≤◌, max, ◌++◌, ℤ, Bool, true, List, [], ◌∷◌, map, Option, Some, None, Ok, refl, ap, subst, ◌∙◌, arith, list_all, slice_get, and_parts, list_all-append, Line, Width, greatest, arm_nesting, body_nesting, case_nesting, nesting, is_selector, type_of_width, Head, UnitScope, are_well_typed, each, each_case, is_arm, is_case_arm, is_some_of, is_well_typed, variable_type}
use Rattle.st_grammar.specs.Forms.{Form, Labels, Statement, assign, write, choice, choice_else, cases, cases_else, loop, jump, Statements, none, empty, further, Arms, no_arm, arm, CaseArms, no_case, case_arm}
use Rattle.st_grammar.specs.Grammar.{HasArm, HasCase, arm_of as raw_arm, case_of as raw_case, may_jump, tree, tree_all, tree_arms, tree_cases, tree_labels, tree_one}
use Rattle.st_grammar.specs.declared.kind.Jump.{Jump}
use Rattle.st_grammar.specs.declared.kind.Jump.TheVariants as jump_word
use Rattle.st_reading_laws.proofs.Actions.{act_continue, act_exit, act_return}
use Rattle.st_text_laws.proofs.ReadValues.{FoundLabels}
use Rattle.st_reading_laws.proofs.Labels.{is_own_type, no_label_breaks, same_type, values_of}
use Rattle.st_text_laws.proofs.ReadExpressions.{ReadExpression}
use Rattle.st_text_laws.proofs.Levels.{top_all, top_arms, top_cases, top_one}
use Rattle.st_reading_laws.proofs.Bounds.{all_last, arms_last, bound, bound_all, bound_arms, bound_case, bound_cases, bound_if, bound_while, cases_last, greatest_last}
use Rattle.st_reading_laws.proofs.Parts.{AreSound, arm_is, assign_is, case_arm_is, case_is, if_is, selector_is, test_is, values, while_is, write_is, writes, arms_sound_last, cases_sound_last, statements_last}
use Rattle.st_reading_laws.proofs.Lists.{map_last}
use Rattle.st_rules.proofs.Common.{sound, calls_of, arms_on, case_arms_on, label_breaks, statement, statements}
use Rattle.st_rules.specs.Statements.{arm as arm_in, case_arm as case_arm_in}
use Rattle.st_tree.specs.TypeRules as rules
use Rattle.st_names.specs.Variables.{variable as variable_in}
use Rattle.st_names.specs.declared.scope.NameScope.{NameScope}
use Rattle.st_names.specs.declared.variable.TypedVar.{TypedVar}
use Rattle.st_tree.proofs.CalledMost.{called_area_write, called_assign, called_case, called_continue, called_exit, called_if, called_in_arm, called_in_case, called_last, called_most, called_return, called_while}
use Rattle.st_tree.proofs.TypingEquations.{good_area_write, good_arm, good_assign, good_case, good_case_arm, good_continue, good_exit, good_if, good_return, good_while, nesting_area_write, nesting_arm, nesting_assign, nesting_case, nesting_case_arm, nesting_continue, nesting_exit, nesting_if, nesting_return, nesting_while}
use Rattle.st_lexer.proofs.Common.{StType, Arm, CaseArm, Stmt, RawVar}
use Rattle.st_tree.specs.declared.expr.StType.TheVariants as type
use Rattle.st_tree.specs.declared.program.Stmt.TheVariants as stmt

-- what a unit costs that is there
abbrev pub cost_of : Option Head → ℕ → ℕ
cost_of None cost = 0
cost_of (Some head) cost = cost

-- the costs of the units that are there
abbrev pub of_heads : List Head → (ℕ → ℕ) → ℕ → ℕ
of_heads heads f n = cost_of (slice_get heads n) (f n)

-- what was read is in the tree, is well typed, nests no deeper, and costs no more than the units that are called
module _ (scope : NameScope) (sight : UnitScope) (inside : Bool) where
  pub record FoundOne (s : Statement) : Type 0 where
    pub x : Stmt
    pub found : statement scope (tree_one s) ≡ sound x
    pub typed : is_well_typed sight x inside ≡ true
    pub low : (d : ℕ) → d + nesting x ≤ top_one d s
    pub calls : (f : ℕ → ℕ) → called_most f (x ∷ []) ≤ bound (of_heads sight.heads f) (calls_of scope (tree_one s))

  pub record FoundAll (b : Statements) : Type 0 where
    pub xs : List Stmt
    pub found : AreSound (statements scope (tree_all b)) xs
    pub typed : are_well_typed sight inside xs ≡ true
    pub low : (d : ℕ) → d + body_nesting xs ≤ max d (top_all d b)
    pub calls : (f : ℕ → ℕ) → called_most f xs ≤ bound_all (of_heads sight.heads f) scope (tree_all b)

  pub record FoundArms (l : Line) (arms : Arms) : Type 0 where
    pub xs : List Arm
    pub found : AreSound (arms_on l (map (arm_in scope) (tree_arms arms))) xs
    pub typed : each inside (map (is_arm sight) xs) ≡ true
    pub some : HasArm arms → is_some_of (map (is_arm sight) xs) ≡ true
    pub low : (d : ℕ) → d + greatest (map arm_nesting xs) ≤ max d (top_arms d arms)
    pub calls : (f : ℕ → ℕ) → greatest (map (called_in_arm f) xs)
        ≤ bound_arms (of_heads sight.heads f) scope (tree_arms arms)

  pub record FoundCases (l : Line) (ty : StType) (arms : CaseArms) : Type 0 where
    pub xs : List CaseArm
    pub found : AreSound (case_arms_on l (Some ty) (map (case_arm_in scope) (tree_cases arms))) xs
    pub typed : each_case ty inside (map (is_case_arm sight) xs) ≡ true
    pub some : HasCase arms → is_some_of (map (is_case_arm sight) xs) ≡ true
    pub low : (d : ℕ) → d + greatest (map case_nesting xs) ≤ max d (top_cases d arms)
    pub calls : (f : ℕ → ℕ) → greatest (map (called_in_case f) xs)
        ≤ bound_cases (of_heads sight.heads f) scope (tree_cases arms)

-- Lists, with one part more

checks_last : {X C : Type 0} (f : X → C) (t : C → Bool) (xs : List X) (x : X) → list_all t (map f xs) ≡ true
    → t (f x) ≡ true → list_all t (map f (xs ++ x ∷ [])) ≡ true
checks_last f t xs x h g = ap (list_all t) (map_last f xs x) ∙ list_all-append t (map f xs) (f x ∷ []) ∙ rw (h, g) refl

some_last : {X C : Type 0} (f : X → C) (xs : List X) (x : X) → is_some_of (map f (xs ++ x ∷ [])) ≡ true
some_last f [] x = refl
some_last f (y ∷ xs) x = refl

arms_high : (d : ℕ) (arms : Arms) → HasArm arms → d ≤ top_arms d arms
arms_high d no_arm h = absurd h
arms_high d (arm others e body) h = omega arith

module _ (scope : NameScope) (sight : UnitScope) (inside : Bool) where
  abbrev One : Statement → Type 0
  One s = FoundOne scope sight inside s

  abbrev All : Statements → Type 0
  All b = FoundAll scope sight inside b

  abbrev SomeArms : Line → Arms → Type 0
  SomeArms l a = FoundArms scope sight inside l a

  abbrev SomeCases : Line → StType → CaseArms → Type 0
  SomeCases l ty a = FoundCases scope sight inside l ty a

  abbrev An : Line → Form → Type 0
  An l f = ReadExpression scope sight l f

  turned : (a b : StType) → rules.is_type a b ≡ true → rules.is_type b a ≡ true
  turned a b h = let e : a ≡ b = same_type a b h in subst (λ c. rules.is_type c a ≡ true) e (is_own_type a)

  abbrev costs : (ℕ → ℕ) → ℕ → ℕ
  costs f = of_heads sight.heads f

  -- Bodies

  pub of_none : All none
  of_none = record { xs = []; found = refl; typed = refl; low = λ d. omega arith; calls = λ f. omega arith }

  pub of_empty : (b : Statements) → All b → All (empty b)
  of_empty b p = record { xs = p.xs; found = p.found; typed = p.typed; low = λ d. omega (arith, p.low d); calls = p.calls }

  pub of_further : (b : Statements) (s : Statement) → All b → One s → All (further b s)
  of_further b s p q = record {
    xs = p.xs ++ q.x ∷ [];
    found = statements_last scope (tree_all b) (tree_one s) p.xs q.x p.found q.found;
    typed = checks_last (is_well_typed sight) (λ c. c inside) p.xs q.x p.typed q.typed;
    low = λ d. omega (arith, greatest_last nesting p.xs q.x, p.low d, q.low d);
    calls = λ f. omega (arith, called_last f p.xs q.x, all_last (costs f) scope (tree_all b) (tree_one s));
  }

  -- Statements that call nothing

  of_plain : (s : Statement) (x : Stmt) → statement scope (tree_one s) ≡ sound x → is_well_typed sight x inside ≡ true
      → ((d : ℕ) → d + nesting x ≤ top_one d s) → ((f : ℕ → ℕ) → called_most f (x ∷ []) ≡ 0) → One s
  of_plain s x found typed low nothing =
      record { x = x; found = found; typed = typed; low = low; calls = λ f. omega (arith, nothing f) }

  pub of_assign : (l : Line) (v : RawVar) (e : Form) (x : TypedVar) → variable_in scope v ≡ Ok x
      → variable_type sight x.var ≡ Some x.ty → (g : An l e) → rules.is_type x.ty g.t.ty ≡ true → One (assign l v e)
  of_assign l v e x there has g fits =
      of_plain (assign l v e) (stmt.Assign x.var g.t.tree) (assign_is scope l v (tree e) x g.t there g.found fits)
      (rw (good_assign sight inside x.var g.t.tree, has, g.typed) (turned x.ty g.t.ty fits))
      (λ d. omega (arith, nesting_assign x.var g.t.tree)) (λ f. called_assign f x.var g.t.tree)

  pub of_write : (l : Line) (w : Width) (p e : Form) → (f : An l p) → (g : An l e) → writes w f.t g.t ≡ true
      → One (write l w p e)
  of_write l w p e f g fits =
      let parts = and_parts (rules.is_type f.t.ty type.Dword) (rules.is_type g.t.ty (type_of_width w)) fits in
      of_plain (write l w p e) (stmt.AreaWrite w f.t.tree g.t.tree)
      (write_is scope l w (tree p) (tree e) f.t g.t f.found g.found fits)
      (rw (good_area_write sight inside w f.t.tree g.t.tree, f.typed, g.typed, parts.0) parts.1)
      (λ d. omega (arith, nesting_area_write w f.t.tree g.t.tree)) (λ h. called_area_write h w f.t.tree g.t.tree)

  pub of_jump : (l : Line) (word : Jump) → may_jump inside word ≡ true → One (jump l word)
  of_jump l jump_word.Exit fits =
      of_plain _ stmt.Exit (act_exit scope l) (good_exit sight inside ∙ fits) (λ d. omega (arith, nesting_exit)) called_exit
  of_jump l jump_word.Continue fits =
      of_plain _ stmt.Continue (act_continue scope l) (good_continue sight inside ∙ fits)
      (λ d. omega (arith, nesting_continue)) called_continue
  of_jump l jump_word.Return fits =
      of_plain _ stmt.Return (act_return scope l) (good_return sight inside) (λ d. omega (arith, nesting_return)) called_return

  -- WHILE

  pub of_loop : (l : Line) (e : Form) (b : Statements) → (g : An l e) → rules.is_type g.t.ty type.Bool ≡ true
      → FoundAll scope sight true b → One (loop l e b)
  of_loop l e b g fits p = record {
    x = stmt.While g.t.tree p.xs;
    found = while_is scope l (tree e) (tree_all b) g.t.tree p.xs (test_is scope l (tree e) g.t g.found fits) p.found;
    typed = rw (good_while sight inside g.t.tree p.xs, g.typed, fits) p.typed;
    low = λ d. omega (arith, nesting_while g.t.tree p.xs, p.low (suc d));
    calls = λ f. omega (arith, bound_while (costs f) scope l (tree e) (tree_all b), called_while f g.t.tree p.xs);
  }

  -- IF

  pub of_no_arm : (l : Line) → SomeArms l no_arm
  of_no_arm l = record {
    xs = [];
    found = refl;
    typed = refl;
    some = λ h. absurd h;
    low = λ d. omega arith;
    calls = λ f. omega arith;
  }

  pub of_arm : (l : Line) (others : Arms) (e : Form) (b : Statements) → SomeArms l others → (g : An l e)
      → rules.is_type g.t.ty type.Bool ≡ true → All b → SomeArms l (arm others e b)
  of_arm l others e b p g fits q =
      let x : Arm = record { test = g.t.tree; body = q.xs } in
      record {
        xs = p.xs ++ x ∷ [];
        found = arms_sound_last scope l (tree_arms others) (raw_arm (tree e) (tree_all b)) p.xs x p.found
            (arm_is scope l (tree e) (tree_all b) g.t.tree q.xs (test_is scope l (tree e) g.t g.found fits) q.found);
        typed = checks_last (is_arm sight) (λ c. c inside) p.xs x p.typed (rw (good_arm sight inside x, g.typed, fits) q.typed);
        some = λ h. some_last (is_arm sight) p.xs x;
        low = λ d. omega (arith, greatest_last arm_nesting p.xs x, nesting_arm x, p.low d, q.low d);
        calls = λ f. omega (arith, greatest_last (called_in_arm f) p.xs x, arms_last (costs f) scope (tree_arms others) (tree e) (tree_all b));
      }

  pub of_choice_else : (l : Line) (arms : Arms) (b : Statements) → HasArm arms → SomeArms l arms → All b
      → One (choice_else l arms b)
  of_choice_else l arms b some p q = record {
    x = stmt.If p.xs q.xs;
    found = if_is scope l (tree_arms arms) (tree_all b) p.xs q.xs p.found q.found;
    typed = rw (good_if sight inside p.xs q.xs, p.some some, p.typed) q.typed;
    low = λ d. omega (arith, nesting_if p.xs q.xs, p.low (suc d), q.low (suc d));
    calls = λ f. omega (arith, bound_if (costs f) scope l (tree_arms arms) (tree_all b), called_if f p.xs q.xs);
  }

  -- one without ELSE is read as one with an empty ELSE
  pub of_choice : (l : Line) (arms : Arms) → HasArm arms → SomeArms l arms → One (choice l arms)
  of_choice l arms some p =
      let q = of_choice_else l arms none some p of_none in
      record { x = q.x; found = q.found; typed = q.typed; low = λ d. omega (arith, q.low d, arms_high (suc d) arms some); calls = q.calls }

  -- CASE

  pub of_no_case : (l : Line) (ty : StType) → SomeCases l ty no_case
  of_no_case l ty = record {
    xs = [];
    found = refl;
    typed = refl;
    some = λ h. absurd h;
    low = λ d. omega arith;
    calls = λ f. omega arith;
  }

  pub of_case_arm : (l : Line) (ty : StType) (others : CaseArms) (labels : Labels) (b : Statements)
      → SomeCases l ty others → FoundLabels ty labels → All b → SomeCases l ty (case_arm others labels b)
  of_case_arm l ty others labels b p g q =
      let ns : List ℤ = g.first ∷ g.others in
      let x : CaseArm = record { labels = ns; body = q.xs } in
      record {
        xs = p.xs ++ x ∷ [];
        found = cases_sound_last scope l (Some ty) (tree_cases others) (raw_case (tree_labels labels) (tree_all b)) p.xs x p.found
            (case_arm_is scope l ty (tree_labels labels) (tree_all b) ns q.xs (ap (label_breaks l (Some ty)) g.found ∙ no_label_breaks l ty ns)
            (ap values g.found ∙ values_of ty ns) q.found);
        typed = checks_last (is_case_arm sight) (λ c. c ty inside) p.xs x p.typed (rw (good_case_arm sight inside x ty, g.typed) q.typed);
        some = λ h. some_last (is_case_arm sight) p.xs x;
        low = λ d. omega (arith, greatest_last case_nesting p.xs x, nesting_case_arm x, p.low d, q.low d);
        calls = λ f. omega (
          arith,
          greatest_last (called_in_case f) p.xs x,
          cases_last (costs f) scope (tree_cases others) (tree_labels labels) (tree_all b),
        );
      }

  pub of_cases_else : (l : Line) (e : Form) (arms : CaseArms) (b : Statements) → HasCase arms → (g : An l e)
      → rules.is_selector g.t.ty ≡ true → SomeCases l g.t.ty arms → All b → One (cases_else l e arms b)
  of_cases_else l e arms b some g fits p q = record {
    x = stmt.Case g.t.tree p.xs q.xs;
    found = case_is scope l (tree e) (tree_cases arms) (tree_all b) g.t p.xs q.xs (selector_is scope l (tree e) g.t g.found fits) p.found q.found;
    typed = rw (good_case sight inside g.t.tree p.xs q.xs, g.typed, fits, p.some some, p.typed) q.typed;
    low = λ d. omega (arith, nesting_case g.t.tree p.xs q.xs, p.low (suc d), q.low (suc d));
    calls = λ f. omega (arith, bound_case (costs f) scope l (tree e) (tree_cases arms) (tree_all b), called_case f g.t.tree p.xs q.xs);
  }

  pub of_cases : (l : Line) (e : Form) (arms : CaseArms) → HasCase arms → (g : An l e)
      → rules.is_selector g.t.ty ≡ true → SomeCases l g.t.ty arms → One (cases l e arms)
  of_cases l e arms some g fits p =
      let q = of_cases_else l e arms none some g fits p of_none in
      record { x = q.x; found = q.found; typed = q.typed; low = λ d. omega (arith, q.low d); calls = q.calls }

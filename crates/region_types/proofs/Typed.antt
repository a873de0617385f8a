-- The text of a region that fits is well typed.
use Rattle.std.proofs.Common.{◌≡◌, ◌≢◌, ℕ, zero, suc, ◌+◌, ◌^◌, ◌<◌, ◌≤◌, ◌==◌, pos, Bool, true, false, ◌||◌, if◌then◌else◌, List, [], ◌∷◌, ◌++◌, length, map, Option, Some, refl, ap, ◌∙◌, subst, arith}
use Rattle.std.specs.List.{AllByRecursion, list_all, list_any}
use Rattle.std.specs.Prelude.{slice_get}
use Rattle.std.proofs.lemmas.Int.{ints}
use Rattle.graph_rules.specs.Plain.{LeadsInside, test_of}
use Rattle.region_laws.proofs.Tests.{Selects, has_type_of_test, tests_type}
use Rattle.region_laws.proofs.Typed.{both_typed}
use Rattle.region_laws.specs.NextLocal.{arm_with_label, set_next}
use Rattle.region_laws.specs.Regions.{Region, again, choice, choose, cycle, ended, forever, fork, arms_of_nodes, arms_with_labels, is_among, labels_from, leaves, node, off, positions_of, quit, selector, table, text_of, turn_to}
use Rattle.region_types.proofs.Labels.{each_from, each_label}
use Rattle.region_types.proofs.Made.{IsMade, each_node, parts_of}
use Rattle.region_types.proofs.Still.{both_true, has, still_typed}
use Rattle.region_types.specs.TextLaws.{IsWider, TextIsTyped, is_inside}
use Rattle.region_types.specs.UsesNext.{UsesNext}
use Rattle.st_tree.specs.TypeRules.{is_selector}
use Rattle.st_tree.specs.WellTyped.{UnitScope, are_cases, are_well_typed, each_case, expression_type, is_case_arm, is_some_of, is_value, is_well_typed, variable_type}
use Rattle.st_tree.specs.declared.expr.Expr.{Expr}
use Rattle.st_tree.specs.declared.expr.Expr.TheVariants as expr
use Rattle.st_tree.specs.declared.expr.StType.{StType}
use Rattle.st_tree.specs.declared.expr.StType.TheVariants as type
use Rattle.st_tree.specs.declared.expr.Var.TheVariants as var
use Rattle.st_tree.specs.declared.graph.StExit.TheVariants as exit
use Rattle.st_tree.specs.declared.graph.StNode.{StNode}
use Rattle.st_tree.specs.declared.program.CaseArm.{CaseArm}
use Rattle.st_tree.specs.declared.program.Stmt.{Stmt}
use Rattle.st_tree.specs.declared.program.Stmt.TheVariants as stmt
use Rattle.st_tree.proofs.TypedParts.{parts_of_body}
use Rattle.st_tree.proofs.TypingEquations.{good_arm, good_assign, good_case, good_case_arm, good_continue, good_exit, good_if, good_return, good_while, typed_literal, typed_read}

-- Numbers

dint_value : (n : ℕ) → n < 2 ^ 31 → is_value type.Dint (pos n) ≡ true
dint_value n h = grind (arith, ints)

int_value : (n : ℕ) → n < 2 ^ 15 → is_value type.Int (pos n) ≡ true
int_value n h = grind (arith, ints)

-- a selector may have the number of an entry
selector_value : (ty : StType) → is_selector ty ≡ true → (n : ℕ) → n < 2 ^ 15 → is_value ty (pos n) ≡ true
selector_value type.Int h n k = int_value n k
selector_value type.Dint h n k = dint_value n (omega arith)
selector_value ty h n k = cc

some_labels : {A : Type 0} (f : CaseArm → A) (bodies : ℕ → List Stmt) (labels : List ℕ) → labels ≢ []
    → is_some_of (map f (arms_with_labels bodies labels)) ≡ true
some_labels f bodies [] h = absurd (h refl)
some_labels f bodies (n ∷ labels) h = refl

some_from : (label count : ℕ) → 1 ≤ count → labels_from label count ≢ []
some_from label zero h = absurd (omega arith)
some_from label (suc count) h = λ e. cc

-- the positions of the entries that lead to a node: there is one, and the selector may have each

some_nodes : {A : Type 0} (f : CaseArm → A) (targets : List ℕ) (bodies : ℕ → List Stmt) (nodes : List ℕ) → nodes ≢ []
    → is_some_of (map f (arms_of_nodes targets bodies nodes)) ≡ true
some_nodes f targets bodies [] h = absurd (h refl)
some_nodes f targets bodies (j ∷ nodes) h = refl

some_positions : (j b : ℕ) (targets : List ℕ) → is_among j targets ≡ true → is_some_of (positions_of j b targets) ≡ true
some_positions j b [] h = cc
some_positions j b (t ∷ targets) h = by (t == j) (is_among j targets) (some_positions j (suc b) targets) h
  where
    by : (c d : Bool) → (d ≡ true → is_some_of (positions_of j (suc b) targets) ≡ true) → (c || d) ≡ true
        → is_some_of (if c then pos b ∷ positions_of j (suc b) targets else positions_of j (suc b) targets) ≡ true
    by true d more e = refl
    by false d more e = more e

positions_typed : (ty : StType) → is_selector ty ≡ true → (j b : ℕ) (targets : List ℕ) → b + length targets ≤ 255
    → list_all (is_value ty) (positions_of j b targets) ≡ true
positions_typed ty s j b [] few = refl
positions_typed ty s j b (t ∷ targets) few = by (t == j) (positions_typed ty s j (suc b) targets (omega arith))
  where
    by : (c : Bool) → list_all (is_value ty) (positions_of j (suc b) targets) ≡ true
        → list_all (is_value ty) (if c then pos b ∷ positions_of j (suc b) targets else positions_of j (suc b) targets) ≡ true
    by true more = both_true _ _ (selector_value ty s b (omega arith)) more
    by false more = more

module _ (sight : UnitScope) where
  -- Statements in two parts, and choices

  append_typed : (inside : Bool) (xs ys : List Stmt) → are_well_typed sight inside xs ≡ true → are_well_typed sight inside ys ≡ true
      → are_well_typed sight inside (xs ++ ys) ≡ true
  append_typed inside [] ys h k = k
  append_typed inside (x ∷ xs) ys h k =
      let parts = parts_of_body sight inside x xs h in both_true _ _ parts.0 (append_typed inside xs ys parts.1 k)

  choice_typed : (inside : Bool) (e : Expr) (there behind : List Stmt) → expression_type sight e ≡ Some type.Bool
      → are_well_typed sight inside there ≡ true → are_well_typed sight inside behind ≡ true → is_well_typed sight (choice e there behind) inside ≡ true
  choice_typed inside e there behind h k l =
      good_if sight inside (record { test = e; body = there } ∷ []) behind
      ∙ both_true _ _ (both_true _ true (good_arm sight inside (record { test = e; body = there }) ∙ both_true _ _ (has type.Bool _ h) k) refl) l

  -- Labels

  labels_typed : (ty : StType) (inside : Bool) (bodies : ℕ → List Stmt) (labels : List ℕ)
      → AllByRecursion (λ n. (is_value ty (pos n) ≡ true) × (are_well_typed sight inside (bodies n) ≡ true)) labels
      → each_case ty inside (map (is_case_arm sight) (arms_with_labels bodies labels)) ≡ true
  labels_typed ty inside bodies [] h = refl
  labels_typed ty inside bodies (n ∷ labels) h =
      both_true _ _
      (good_case_arm sight inside (arm_with_label n (bodies n)) ty ∙ both_true _ _ (both_true _ true h.0.0 refl) h.0.1)
      (labels_typed ty inside bodies labels h.1)

  table_typed : (inside : Bool) (e : Expr) (count : ℕ) (bodies : ℕ → List Stmt) → 1 ≤ count → count ≤ 255 → Selects (expression_type sight e)
      → ((n : ℕ) → n ≤ count → are_well_typed sight inside (bodies n) ≡ true)
      → is_well_typed sight (stmt.Case e (arms_with_labels bodies (labels_from 0 count)) (bodies count)) inside ≡ true
  table_typed inside e count bodies some few by each =
      good_case sight inside e (arms_with_labels bodies (labels_from 0 count)) (bodies count)
      ∙ both_true _ _
      (ap (λ (o : Option StType). are_cases o inside (map (is_case_arm sight) (arms_with_labels bodies (labels_from 0 count)))) by.has
      ∙ both_true _ _ (both_true _ _ by.selects (some_labels (is_case_arm sight) bodies (labels_from 0 count) (some_from 0 count some)))
      (labels_typed by.type inside bodies (labels_from 0 count)
      (each_from (λ n. (is_value by.type (pos n) ≡ true) × (are_well_typed sight inside (bodies n) ≡ true)) 0 count
      (λ n l. (selector_value by.type by.selects n (omega arith), each n (omega arith))))))
      (each count (omega arith))

  nodes_typed : (ty : StType) → is_selector ty ≡ true → (inside : Bool) (targets : List ℕ) → length targets ≤ 255 → (bodies : ℕ → List Stmt)
      (nodes : List ℕ) → AllByRecursion (λ j. (is_among j targets ≡ true) × (are_well_typed sight inside (bodies j) ≡ true)) nodes
      → each_case ty inside (map (is_case_arm sight) (arms_of_nodes targets bodies nodes)) ≡ true
  nodes_typed ty s inside targets few bodies [] h = refl
  nodes_typed ty s inside targets few bodies (j ∷ nodes) h =
      both_true _ _
      (good_case_arm sight inside (record { labels = positions_of j 0 targets; body = bodies j }) ty
      ∙ both_true _ _ (both_true _ _ (some_positions j 0 targets h.0.0) (positions_typed ty s j 0 targets (omega arith))) h.0.1)
      (nodes_typed ty s inside targets few bodies nodes h.1)

  list_typed : (inside : Bool) (e : Expr) (targets : List ℕ) → length targets ≤ 255 → Selects (expression_type sight e) → (bodies : ℕ → List Stmt)
      (nodes : List ℕ) (other : List Stmt) → nodes ≢ []
      → ((j : ℕ) → is_among j nodes ≡ true → (is_among j targets ≡ true) × (are_well_typed sight inside (bodies j) ≡ true))
      → are_well_typed sight inside other ≡ true → is_well_typed sight (stmt.Case e (arms_of_nodes targets bodies nodes) other) inside ≡ true
  list_typed inside e targets few by bodies nodes other some each last =
      good_case sight inside e (arms_of_nodes targets bodies nodes) other
      ∙ both_true _ _
      (ap (λ (o : Option StType). are_cases o inside (map (is_case_arm sight) (arms_of_nodes targets bodies nodes))) by.has
      ∙ both_true _ _ (both_true _ _ by.selects (some_nodes (is_case_arm sight) targets bodies nodes some))
      (nodes_typed by.type by.selects inside targets few bodies nodes
      (each_label (λ j. (is_among j targets ≡ true) × (are_well_typed sight inside (bodies j) ≡ true)) nodes each)))
      last

  -- Loops

  loop_typed : (inside : Bool) (body : List Stmt) → are_well_typed sight true body ≡ true → is_well_typed sight (forever body) inside ≡ true
  loop_typed inside body h =
      good_while sight inside (expr.Literal type.Bool (pos 1)) body
      ∙ both_true _ _ (has type.Bool _ (typed_literal sight type.Bool (pos 1))) h

  module _ (next : ℕ) (is_next : variable_type sight (var.Local next) ≡ Some type.Dint) where
    set_typed : (inside : Bool) (j : ℕ) → j < 2 ^ 31 → is_well_typed sight (set_next next j) inside ≡ true
    set_typed inside j h =
        good_assign sight inside (var.Local next) (expr.Literal type.Dint (pos j))
        ∙ rw (is_next, typed_literal sight type.Dint (pos j), dint_value j h) refl

    dispatch_typed : (bodies : ℕ → List Stmt) (labels : List ℕ) → labels ≢ []
        → ((n : ℕ) → list_any (λ label. label == n) labels ≡ true → (n < 2 ^ 31) × (are_well_typed sight true (bodies n) ≡ true))
        → is_well_typed sight (stmt.Case (expr.Read (var.Local next)) (arms_with_labels bodies labels) []) true ≡ true
    dispatch_typed bodies labels some each =
        good_case sight true (expr.Read (var.Local next)) (arms_with_labels bodies labels) []
        ∙ both_true _ true
        (ap (λ (o : Option StType). are_cases o true (map (is_case_arm sight) (arms_with_labels bodies labels))) (typed_read sight (var.Local next) ∙ is_next)
        ∙ both_true _ _ (some_labels (is_case_arm sight) bodies labels some)
        (labels_typed type.Dint true bodies labels
        (each_label (λ n. (is_value type.Dint (pos n) ≡ true) × (are_well_typed sight true (bodies n) ≡ true)) labels
        (λ n e. let own = each n e in (dint_value n own.0, own.1))))) refl

-- Regions

-- the number of entries of a table
abbrev IsCount : ℕ → Type 0
IsCount count = (1 ≤ count) × (count ≤ 255)

module _ (small large : UnitScope) (wider : IsWider small large) (has_next : Bool) (next many : ℕ)
    (is_next : has_next ≡ true → variable_type large (var.Local next) ≡ Some type.Dint) (few : many ≤ 32769)
  where
    abbrev Typed : List Stmt → Type 0
    Typed xs = are_well_typed small false xs ≡ true

    keeps_types : (inside : Bool) (xs : List Stmt) → Typed xs → are_well_typed large inside xs ≡ true
    keeps_types inside xs h = still_typed small large wider xs false inside (λ e. cc) h

    test_is_bool : (e : Expr) → Typed (test_of (exit.EndIf e)) → expression_type large e ≡ Some type.Bool
    test_is_bool e h = has_type_of_test large e (keeps_types false (test_of (exit.EndIf e)) h)

    selects : (e : Expr) → Typed (test_of (exit.Table e [] 0)) → Selects (expression_type large e)
    selects e h = tests_type large e (keeps_types false (test_of (exit.Table e [] 0)) h)

    region_typed : (inside : Bool) (r : Region) → IsMade Typed IsCount many inside r → UsesNext has_next many r
        → are_well_typed large inside (text_of next r) ≡ true
    region_typed inside off h u = refl
    region_typed inside leaves h u = both_true _ true (good_exit large inside ∙ h) refl
    region_typed inside again h u = both_true _ true (good_continue large inside ∙ h) refl
    region_typed inside ended h u = both_true _ true (good_return large inside) refl
    region_typed inside (node steps rest) h u =
        append_typed large inside steps (text_of next rest) (keeps_types inside steps h.0) (region_typed inside rest h.1 u)
    region_typed inside (fork steps e there behind join rest) h u =
        append_typed large inside steps (choice e (text_of next there) (text_of next behind) ∷ text_of next rest) (keeps_types inside steps h.0)
        (both_true _ _
        (choice_typed large inside e (text_of next there) (text_of next behind) (test_is_bool e h.1) (region_typed inside there h.2 u.0)
        (region_typed inside behind h.3 u.1))
        (region_typed inside rest h.4 u.2))
    region_typed inside (quit steps e rest) h u =
        append_typed large inside steps (choice e (stmt.Return ∷ []) [] ∷ text_of next rest) (keeps_types inside steps h.0)
        (both_true _ _ (choice_typed large inside e (stmt.Return ∷ []) [] (test_is_bool e h.1) (both_true _ true (good_return large inside) refl) refl)
        (region_typed inside rest h.2 u))
    region_typed inside (table steps e count arms join rest) h u =
        append_typed large inside steps
        (stmt.Case e (arms_with_labels (λ n. text_of next (arms n)) (labels_from 0 count)) (text_of next (arms count)) ∷ text_of next rest)
        (keeps_types inside steps h.0)
        (both_true _ _
        (table_typed large inside e count (λ n. text_of next (arms n)) h.2.0 h.2.1 (selects e h.1)
        (λ n l. region_typed inside (arms n) (h.3 n l) (u.0 n l)))
        (region_typed inside rest h.4 u.1))
    region_typed inside (choose steps e targets nodes arms other join rest) h u =
        append_typed large inside steps
        (stmt.Case e (arms_of_nodes targets (λ j. text_of next (arms j)) nodes) (text_of next other) ∷ text_of next rest) (keeps_types inside steps h.0)
        (both_true _ _
        (list_typed large inside e targets h.2.1 (selects e h.1) (λ j. text_of next (arms j)) nodes (text_of next other) h.3
        (λ j l. let own = h.4 j l in (own.0, region_typed inside (arms j) own.1 (u.0 j l))) (region_typed inside other h.5 u.1))
        (region_typed inside rest h.6 u.2))
    region_typed inside (cycle body behind rest) h u =
        both_true _ _ (loop_typed large inside (text_of next body) (region_typed true body h.0 u.0)) (region_typed inside rest h.1 u.1)
    region_typed inside (turn_to j rest) h u =
        both_true _ _ (set_typed large next (is_next u.0) inside j (omega (arith, u.1))) (region_typed inside rest h u.2)
    region_typed inside (selector labels arms behind rest) h u =
        both_true _ _
        (loop_typed large inside (stmt.Case (expr.Read (var.Local next)) (arms_with_labels (λ n. text_of next (arms n)) labels) [] ∷ [])
        (both_true _ true
        (dispatch_typed large next (is_next u.0) (λ n. text_of next (arms n)) labels u.1
        (λ n e. let own = h.0 n e in let low : n < many = own.0 in (omega arith, region_typed true (arms n) own.1 (u.2 n e)))) refl))
        (region_typed inside rest h.1 u.3)

pub text_is_typed : TextIsTyped
text_is_typed small large has_next next unit turn region place follow around wider is_next typed inside few uses fits =
    region_typed small large wider has_next next (length unit.nodes) is_next few (is_inside around) region
    (parts_of unit (λ xs. are_well_typed small false xs ≡ true) IsCount
    (record { parts = each_node (λ xs. are_well_typed small false xs ≡ true) (both_typed small false) unit.nodes typed; tables = tables }) turn region place
    follow around fits) uses
  where
    tables : (i : ℕ) (x : StNode) (e : Expr) (targets : List ℕ) (last : ℕ) → slice_get unit.nodes i ≡ Some x → x.exit ≡ exit.Table e targets last
        → IsCount (length targets)
    tables i x e targets last there same =
        let all = subst (LeadsInside (length unit.nodes) i) same (inside i x there) in (all.0, all.1)

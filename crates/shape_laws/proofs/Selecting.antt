-- How the text of a region that fits uses the selector, where its nodes leave it alone: it keeps it, and has a CASE over
-- it for each dispatch loop.
use Rattle.std.proofs.Common.{◌≡◌, ◌≢◌, ℕ, zero, suc, ◌+◌, ◌==◌, Bool, true, false, if◌then◌else◌, List, [], ◌∷◌, ◌++◌, length, slice_get, Some, None, Option, refl, sym, ap, ◌∙◌, subst, arith}
use Rattle.std.specs.Prelude.{All}
use Rattle.std.specs.List.{sum_by}
use Rattle.std.proofs.lemmas.Bool.{cond_both, eq-eqb, eqb-true}
use Rattle.std.proofs.lemmas.Grind.{flat_map-append}
use Rattle.std.proofs.lemmas.List.Elements.{All-cons, All-head, All-nil, All-tail}
use Rattle.std.proofs.lemmas.List.Sums.{sum_by-cons}
use Rattle.st_tree.specs.BodyParts.{inner_statements, reads_of, statements_in}
use Rattle.st_tree.specs.declared.expr.Expr.{Expr}
use Rattle.st_tree.specs.declared.expr.Expr.TheVariants as expr
use Rattle.st_tree.specs.declared.expr.Var.{Var}
use Rattle.st_tree.specs.declared.expr.Var.TheVariants as var
use Rattle.st_tree.specs.declared.graph.StExit.{StExit}
use Rattle.st_tree.specs.declared.graph.StExit.TheVariants as exit
use Rattle.st_tree.specs.declared.graph.StNode.{StNode}
use Rattle.st_tree.specs.declared.program.Arm.{Arm}
use Rattle.st_tree.specs.declared.program.CaseArm.{CaseArm}
use Rattle.st_tree.specs.declared.program.Stmt.{Stmt, out-Stmt, out-roll-Stmt, roll-Stmt}
use Rattle.st_tree.specs.declared.program.Stmt.TheOpen as S
use Rattle.st_tree.specs.declared.program.Stmt.TheVariants as stmt
use Rattle.st_tree.proofs.PartEquations.{reads_of_literal, reads_of_read}
use Rattle.graph_rules.specs.Plain.{AreSteps, node_statements, test_of, tests_of}
use Rattle.region_laws.specs.Regions.{Around, Fits, Marked, Place, Region, arms_with_labels, text_of}
use Rattle.region_plans.specs.RegionCounts.{Weights, weight}
use Rattle.unit_regions.specs.UnitCounts.{loops_sum}
use Rattle.text_shapes.specs.NodeCounts.{KeepsOff, LeaveLocal, LeavesLocal}
use Rattle.text_shapes.specs.Shape.{AreOthers, KeepSelector, KeepsLocal, count_in, is_local, is_selector, one_if_any, other_cases, selector_arms, selector_cases}
use Rattle.text_shapes.proofs.Counting.{Layer}
use Rattle.shape_laws.proofs.Counts.{CountsCases, Measures, counts, is_no_case}
use Rattle.shape_laws.proofs.Texts.{HoldsOfText, holds}

-- Nodes

module _ {X : Type 0} (P : X → Type 0) where
  pub split_all : (xs ys : List X) → All P (xs ++ ys) → All P xs × All P ys
  split_all [] ys h = (All-nil P, h)
  split_all (x ∷ xs) ys h =
      let more = split_all xs ys (All-tail P x (xs ++ ys) h) in (All-cons P x xs (All-head P x (xs ++ ys) h) more.0, more.1)

module _ (next : ℕ) where
  -- an expression does not read the local
  abbrev pub Good : Expr → Type 0
  Good e = AreOthers next (reads_of e)

  abbrev Leaves : Stmt → Type 0
  Leaves x = LeavesLocal next (out-Stmt x)

  leave_split : (xs ys : List Stmt) → LeaveLocal next (xs ++ ys) → LeaveLocal next xs × LeaveLocal next ys
  leave_split xs ys h =
      split_all Leaves (statements_in xs) (statements_in ys)
      (subst (All Leaves) (flat_map-append (λ (x : Stmt). x ∷ inner_statements x) xs ys) h)

  first_leaves : (y : Layer) (x : Stmt) → roll-Stmt y ≡ x → LeaveLocal next (x ∷ []) → LeavesLocal next y
  first_leaves y x e h =
      subst (LeavesLocal next) (ap out-Stmt (sym e) ∙ out-roll-Stmt y) (All-head Leaves x (inner_statements x ++ []) h)

  test_leaves : (x : StExit) → LeaveLocal next (test_of x) → All Good (tests_of x)
  test_leaves exit.Fall h = All-nil Good
  test_leaves (exit.Jump j) h = All-nil Good
  test_leaves (exit.Branch e j) h =
      let arm : Arm = record { test = e; body = [] } in
      first_leaves (S.If (arm ∷ []) []) (stmt.If (arm ∷ []) []) (stmt.rolls-If (arm ∷ []) []) h
  test_leaves (exit.EndIf e) h =
      let arm : Arm = record { test = e; body = [] } in
      first_leaves (S.If (arm ∷ []) []) (stmt.If (arm ∷ []) []) (stmt.rolls-If (arm ∷ []) []) h
  test_leaves (exit.Table e targets last) h = by h
    where
      by : LeaveLocal next (test_of (exit.Table e targets last)) → All Good (e ∷ [])
      by h = first_leaves _ _ (stmt.rolls-Case e _ []) h
  test_leaves exit.End h = All-nil Good

  pub node_leaves : (nodes : List StNode) → KeepsOff next nodes → (i : ℕ) (n : StNode) → slice_get nodes i ≡ Some n
      → LeaveLocal next n.steps × All Good (tests_of n.exit)
  node_leaves [] h i n e = cc
  node_leaves (first ∷ rest) h zero n e =
      let same : first ≡ n = cc in
      let both = leave_split first.steps (test_of first.exit) (leave_split (first.steps ++ test_of first.exit) (node_statements rest) h).0 in
      subst (λ (n : StNode). LeaveLocal next n.steps × All Good (tests_of n.exit)) same (both.0, test_leaves first.exit both.1)
  node_leaves (first ∷ rest) h (suc i) n e =
      node_leaves rest (leave_split (first.steps ++ test_of first.exit) (node_statements rest) h).1 i n e

  -- The selector is kept

  assign_keeps : (v : Var) (e : Expr) → LeavesLocal next (S.Assign v e) → KeepsLocal next (S.Assign v e)
  assign_keeps v (expr.Literal ty n) h = tt
  assign_keeps v e h = h

  case_keeps : (e : Expr) → Good e → (arms : List CaseArm) (other : List Stmt) → KeepsLocal next (S.Case e arms other)
  case_keeps (expr.Read v) good arms other = tt
  case_keeps e good arms other = All-cons Good e [] good (All-nil Good)

  leaves_keeps : (y : Layer) → LeavesLocal next y → KeepsLocal next y
  leaves_keeps (S.Assign v e) h = assign_keeps v e h
  leaves_keeps (S.Case e arms other) h = case_keeps e (All-head Good e [] h) arms other
  leaves_keeps y h = h

  pub leave_keep : (xs : List Stmt) → All Leaves xs → All (λ (x : Stmt). KeepsLocal next (out-Stmt x)) xs
  leave_keep [] h = All-nil (λ (x : Stmt). KeepsLocal next (out-Stmt x))
  leave_keep (x ∷ xs) h =
      All-cons (λ (x : Stmt). KeepsLocal next (out-Stmt x)) x xs (leaves_keeps (out-Stmt x) (All-head Leaves x xs h))
      (leave_keep xs (All-tail Leaves x xs h))

  literal_good : (e : Expr) → reads_of e ≡ [] → Good e
  literal_good e none = subst (AreOthers next) (sym none) (All-nil (λ (v : Var). v ≢ var.Local next))

  keeps_text : HoldsOfText (KeepsLocal next) Good next
  keeps_text = record {
    exit = All-nil Good;
    again = All-nil Good;
    ended = All-nil Good;
    test = λ e good body other. All-cons Good e [] good (All-nil Good);
    turn = λ body. All-cons Good _ [] (literal_good _ (reads_of_literal _ _)) (All-nil Good);
    choose = case_keeps;
    select = λ arms. tt;
    set = λ j. tt;
  }

  -- The selector is chosen by in dispatch loops alone

  reads_itself : (i : ℕ) → i ≡ next → Good (expr.Read (var.Local i)) → ⊥
  reads_itself i same good =
      All-head (λ (v : Var). v ≢ var.Local next) (var.Local i) []
      (subst (AreOthers next) (reads_of_read (var.Local i)) good) (ap var.Local same)

  pub is_other : (e : Expr) → Good e → is_local next e ≡ false
  is_other (expr.Read (var.Local i)) good = by (i == next) refl
    where
      by : (t : Bool) → i == next ≡ t → t ≡ false
      by true e = absurd (reads_itself i (eqb-true i next e) good)
      by false e = refl
  is_other e good = refl

  -- What is counted

  idle_selectors : (y : Layer) → is_no_case y ≡ true → selector_cases (Some next) y ≡ 0
  idle_selectors (S.Case e arms other) h = absurd cc
  idle_selectors y h = refl

  idle_arms : (y : Layer) → is_no_case y ≡ true → selector_arms (Some next) y ≡ 0
  idle_arms (S.Case e arms other) h = absurd cc
  idle_arms y h = refl

  arms_are_labels : (bodies : ℕ → List Stmt) (labels : List ℕ) → length (arms_with_labels bodies labels) ≡ length labels
  arms_are_labels bodies [] = refl
  arms_are_labels bodies (n ∷ labels) = ap suc (arms_are_labels bodies labels)

  counts_selectors : CountsCases (selector_cases (Some next)) Good next 0 (λ labels. 1)
  counts_selectors = record {
    idle = idle_selectors;
    choose = λ e good arms other. ap (λ (t : Bool). if t then 1 else 0) (is_other e good);
    select = λ bodies labels. ap (λ (t : Bool). if t then 1 else 0) (eq-eqb next next refl);
  }

  counts_arms : CountsCases (selector_arms (Some next)) Good next 0 length
  counts_arms = record {
    idle = idle_arms;
    choose = λ e good arms other. ap (λ (t : Bool). if t then length arms + one_if_any other else 0) (is_other e good);
    select = λ bodies labels.
        let e : (if next == next then length (arms_with_labels bodies labels) + 0 else 0) ≡ length (arms_with_labels bodies labels) + 0
        = ap (λ (t : Bool). if t then length (arms_with_labels bodies labels) + 0 else 0) (eq-eqb next next refl) in
        let f = arms_are_labels bodies labels in omega arith;
  }

-- a CASE over anything
abbrev pub any_case : Layer → ℕ
any_case (S.Case e arms other) = 1
any_case other = 0

counts_cases : (next : ℕ) → CountsCases any_case (Good next) next 1 (λ labels. 1)
counts_cases next = record {
  idle = by;
  choose = λ e good arms other. refl;
  select = λ bodies labels. refl;
}
  where
    by : (y : Layer) → is_no_case y ≡ true → any_case y ≡ 0
    by (S.Case e arms other) h = absurd cc
    by y h = refl

-- the CASE statements of a region
abbrev pub of_cases : Weights
of_cases = record { leave = 0; test = 0; turn = 0; select = 1; set = 0; steps = λ steps. 0 }

cases_measure : Measures (weight of_cases) 1 (λ labels. 1)
cases_measure = record {
  off = refl;
  leaves = refl;
  again = refl;
  ended = refl;
  node = λ steps rest. omega arith;
  fork = λ steps e there behind join rest. omega arith;
  quit = λ steps e rest. omega arith;
  table = λ steps e n arms join rest. omega arith;
  choose = λ steps e targets listed arms other join rest. omega arith;
  cycle = λ body behind rest. omega arith;
  turn_to = λ j rest. omega arith;
  selector = λ labels arms behind rest. omega arith;
}

loops_measure : (f : List ℕ → ℕ) → Measures (loops_sum f) 0 f
loops_measure f = record {
  off = refl;
  leaves = refl;
  again = refl;
  ended = refl;
  node = λ steps rest. refl;
  fork = λ steps e there behind join rest. refl;
  quit = λ steps e rest. refl;
  table = λ steps e n arms join rest. omega arith;
  choose = λ steps e targets listed arms other join rest. omega arith;
  cycle = λ body behind rest. refl;
  turn_to = λ j rest. refl;
  selector = λ labels arms behind rest. refl;
}

-- of any selector, CASE statements are over it or over something else
split_cases : (next : Option ℕ) (y : Layer) → other_cases next y + selector_cases next y ≡ any_case y
split_cases next (S.Case e arms other) =
    cond_both (is_selector next e) 1 0 (λ n. (if is_selector next e then 0 else 1) + n ≡ 1)
    (λ t. ap (λ (t : Bool). (if t then 0 else 1) + 1) t) (λ t. ap (λ (t : Bool). (if t then 0 else 1) + 0) t)
split_cases next y = refl

pub cases_split : (next : Option ℕ) (body : List Stmt)
    → count_in (other_cases next) body + count_in (selector_cases next) body ≡ count_in any_case body
cases_split next body = by (statements_in body)
  where
    by : (xs : List Stmt) → sum_by (λ (x : Stmt). other_cases next (out-Stmt x)) xs + sum_by (λ (x : Stmt). selector_cases next (out-Stmt x)) xs
        ≡ sum_by (λ (x : Stmt). any_case (out-Stmt x)) xs
    by [] = refl
    by (x ∷ xs) =
        let e = sum_by-cons (λ (x : Stmt). other_cases next (out-Stmt x)) x xs in
        let f = sum_by-cons (λ (x : Stmt). selector_cases next (out-Stmt x)) x xs in
        let g = sum_by-cons (λ (x : Stmt). any_case (out-Stmt x)) x xs in
        let h = split_cases next (out-Stmt x) in let i = by xs in omega arith

-- without a selector there is no CASE over one
pub none_without : (body : List Stmt) → (count_in (selector_cases None) body ≡ 0) × (count_in (selector_arms None) body ≡ 0)
none_without body = (by (selector_cases None) no_case (statements_in body), by (selector_arms None) no_arm (statements_in body))
  where
    no_case : (y : Layer) → selector_cases None y ≡ 0
    no_case (S.Case e arms other) = refl
    no_case y = refl

    no_arm : (y : Layer) → selector_arms None y ≡ 0
    no_arm (S.Case e arms other) = refl
    no_arm y = refl

    by : (count : Layer → ℕ) → ((y : Layer) → count y ≡ 0) → (xs : List Stmt) → sum_by (λ (x : Stmt). count (out-Stmt x)) xs ≡ 0
    by count none [] = refl
    by count none (x ∷ xs) =
        let e = sum_by-cons (λ (x : Stmt). count (out-Stmt x)) x xs in let h = none (out-Stmt x) in let i = by count none xs in omega arith

pub kept_without : (body : List Stmt) → KeepSelector None body
kept_without body = by (statements_in body)
  where
    by : (xs : List Stmt) → All (λ (x : Stmt). Unit {0}) xs
    by [] = All-nil (λ (x : Stmt). Unit {0})
    by (x ∷ xs) = All-cons (λ (x : Stmt). Unit {0}) x xs tt (by xs)

-- Texts

module _ (next : ℕ) (unit : Marked) (steps : (i : ℕ) (n : StNode) → slice_get unit.nodes i ≡ Some n → AreSteps n.steps)
    (off : KeepsOff next unit.nodes) (r : Region) (p follow : Place) (a : Around) (fits : Fits unit false r p follow a) where
  nodes_good : (i : ℕ) (n : StNode) → slice_get unit.nodes i ≡ Some n → AreSteps n.steps × All (Good next) (tests_of n.exit)
  nodes_good i n e = (steps i n e, (node_leaves next unit.nodes off i n e).1)

  pub text_keeps : KeepSelector (Some next) (text_of next r)
  text_keeps =
      holds (KeepsLocal next) (Good next) next (keeps_text next) unit
      (λ i n e. let both = node_leaves next unit.nodes off i n e in (leave_keep next (statements_in n.steps) both.0, both.1))
      r false p follow a fits

  pub text_selectors : count_in (selector_cases (Some next)) (text_of next r) ≡ loops_sum (λ labels. 1) r
  text_selectors =
      counts (selector_cases (Some next)) (Good next) next 0 (λ labels. 1) (counts_selectors next) (loops_sum (λ labels. 1))
      (loops_measure (λ labels. 1)) unit nodes_good r false p follow a fits

  pub text_arms : count_in (selector_arms (Some next)) (text_of next r) ≡ loops_sum length r
  text_arms =
      counts (selector_arms (Some next)) (Good next) next 0 length (counts_arms next) (loops_sum length)
      (loops_measure length) unit nodes_good r false p follow a fits

  pub text_cases : count_in any_case (text_of next r) ≡ weight of_cases r
  text_cases =
      counts any_case (Good next) next 1 (λ labels. 1) (counts_cases next) (weight of_cases) cases_measure unit nodes_good r false p follow a fits

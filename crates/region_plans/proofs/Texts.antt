-- What is counted of the text of a region is what the region weighs.
use Rattle.std.proofs.Common.{◌≡◌, ℕ, suc, ◌+◌, List, [], ◌∷◌, ◌++◌, length, length-append, append-nil, pos, refl, sym, ap, ◌∙◌, arith}
use Rattle.std.specs.List.{flat_map}
use Rattle.std.proofs.lemmas.Grind.{flat_map-append}
use Rattle.s7_base.specs.declared.register.Reg.TheVariants as reg
use Rattle.st_tree.specs.BodyParts.{inner_statements, statements_in}
use Rattle.st_tree.specs.declared.expr.Expr.{Expr}
use Rattle.st_tree.specs.declared.expr.Expr.TheVariants as expr
use Rattle.st_tree.specs.declared.expr.StType.TheVariants as type
use Rattle.st_tree.specs.declared.expr.Var.{Var}
use Rattle.st_tree.specs.declared.expr.Var.TheVariants as var
use Rattle.st_tree.specs.declared.program.Arm.{Arm, out-Arm}
use Rattle.st_tree.specs.declared.program.CaseArm.{CaseArm}
use Rattle.st_tree.specs.declared.program.Stmt.{Stmt, out-Stmt, roll-Stmt, roll-out-Stmt}
use Rattle.st_tree.specs.declared.program.Stmt.TheOpen as S
use Rattle.st_tree.specs.declared.program.Stmt.TheVariants as stmt
use Rattle.st_tree.proofs.PartEquations.{gathered_append, gathered_first, inner_bodies, inner_rolled}
use Rattle.graph_rules.specs.Plain.{ArePutBack, AreSettings, AreSteps, IsGuarded, IsStep}
use Rattle.region_laws.specs.Regions.{Region, again, arms_of_nodes, choice, choose, cycle, ended, forever, fork, arms_with_labels, labels_from, leaves, node, off, quit, selector, table, text_of, turn_to}
use Rattle.region_plans.specs.RegionCounts.{Weights, sum_of, weight}
use Rattle.region_plans.specs.RegionLaws.{TextWeighs}
use Rattle.region_plans.specs.TextCounts.{if_tests_in, of_statements, of_tests, of_whiles, test_step, while_step, while_tests_in}

abbrev Layer : Type 0
Layer = S.Stmt-F Stmt Arm CaseArm

-- what each statement in a body gives
abbrev pub given_by : {A : Type 0} → (Layer → List A) → List Stmt → List A
given_by step body = flat_map (λ (x : Stmt). step (out-Stmt x)) (statements_in body)

-- what statements give is counted by weights
record Counts (A : Type 0) (step : Layer → List A) (w : Weights) : Type 0 where
  pub exit : length (step S.Exit) ≡ w.leave
  pub again : length (step S.Continue) ≡ w.leave
  pub ended : length (step S.Return) ≡ w.leave
  pub test : (arm : Arm) (other : List Stmt) → length (step (S.If (arm ∷ []) other)) ≡ w.test
  pub turn : (e : Expr) (body : List Stmt) → length (step (S.While e body)) ≡ w.turn
  pub select : (e : Expr) (arms : List CaseArm) (other : List Stmt) → length (step (S.Case e arms other)) ≡ w.select
  pub set : (v : Var) (e : Expr) → length (step (S.Assign v e)) ≡ w.set
  pub steps : (xs : List Stmt) → length (given_by step xs) ≡ w.steps xs

sum_same : (f g : ℕ → ℕ) → ((n : ℕ) → f n ≡ g n) → (labels : List ℕ) → sum_of f labels ≡ sum_of g labels
sum_same f g same [] = refl
sum_same f g same (n ∷ labels) = let e = same n in let h = sum_same f g same labels in omega arith

module _ (A : Type 0) (step : Layer → List A) (w : Weights) (ok : Counts A step w) where
  abbrev count : List Stmt → ℕ
  count body = length (given_by step body)

  abbrev inside : List Stmt → List A
  inside xs = flat_map (λ (x : Stmt). step (out-Stmt x)) xs

  count_append : (xs ys : List Stmt) → count (xs ++ ys) ≡ count xs + count ys
  count_append xs ys = ap length (gathered_append step xs ys) ∙ length-append (given_by step xs) (given_by step ys)

  inside_append : (xs ys : List Stmt) → length (inside (xs ++ ys)) ≡ length (inside xs) + length (inside ys)
  inside_append xs ys =
      ap length (flat_map-append (λ (x : Stmt). step (out-Stmt x)) xs ys) ∙ length-append (inside xs) (inside ys)

  count_first : (y : Layer) (x : Stmt) → roll-Stmt y ≡ x → (rest : List Stmt)
      → count (x ∷ rest) ≡ length (step y) + (length (inside (inner_bodies y)) + count rest)
  count_first y x e rest =
      ap length (gathered_first step {x = x} y e rest) ∙ length-append (step y) (inside (inner_bodies y) ++ given_by step rest)
      ∙ ap (λ (n : ℕ). length (step y) + n) (length-append (inside (inner_bodies y)) (given_by step rest))

  if_counts : (e : Expr) (body other rest : List Stmt)
      → count (stmt.If (record { test = e; body = body } ∷ []) other ∷ rest) ≡ w.test + count body + count other + count rest
  if_counts e body other rest =
      let arm : Arm = record { test = e; body = body } in
      let f = count_first (S.If (arm ∷ []) other) (stmt.If (arm ∷ []) other) (stmt.rolls-If (arm ∷ []) other) rest in
      let t = ok.test arm other in
      let i : length (inside ((statements_in body ++ []) ++ statements_in other)) ≡ count body + count other
      = ap (λ (xs : List Stmt). length (inside (xs ++ statements_in other))) (append-nil (statements_in body))
      ∙ inside_append (statements_in body) (statements_in other) in
      omega arith

  choice_counts : (e : Expr) (there behind rest : List Stmt) → count (choice e there behind ∷ rest)
      ≡ w.test + count there + count behind + count rest
  choice_counts e there behind rest = if_counts e there behind rest

  forever_counts : (body rest : List Stmt) → count (forever body ∷ rest) ≡ w.turn + count body + count rest
  forever_counts body rest =
      let e = expr.Literal type.Bool (pos 1) in
      let f = count_first (S.While e body) (stmt.While e body) (stmt.rolls-While e body) rest in let t = ok.turn e body in omega arith

  arms_count : (bodies : ℕ → List Stmt) (labels : List ℕ)
      → length (inside (flat_map (λ (arm : CaseArm). statements_in arm.body) (arms_with_labels bodies labels))) ≡ sum_of (λ n. count (bodies n)) labels
  arms_count bodies [] = refl
  arms_count bodies (n ∷ labels) =
      let i = inside_append (statements_in (bodies n)) (flat_map (λ (arm : CaseArm). statements_in arm.body) (arms_with_labels bodies labels)) in
      let h = arms_count bodies labels in omega arith

  case_counts : (e : Expr) (bodies : ℕ → List Stmt) (labels : List ℕ) (other rest : List Stmt)
      → count (stmt.Case e (arms_with_labels bodies labels) other ∷ rest) ≡ w.select + sum_of (λ n. count (bodies n)) labels + count other + count rest
  case_counts e bodies labels other rest =
      let arms = arms_with_labels bodies labels in
      let f = count_first (S.Case e arms other) (stmt.Case e arms other) (stmt.rolls-Case e arms other) rest in let t = ok.select e arms other in
      let i = inside_append (flat_map (λ (arm : CaseArm). statements_in arm.body) arms) (statements_in other) in
      let h = arms_count bodies labels in omega arith

  node_arms_count : (targets : List ℕ) (bodies : ℕ → List Stmt) (nodes : List ℕ)
      → length (inside (flat_map (λ (arm : CaseArm). statements_in arm.body) (arms_of_nodes targets bodies nodes))) ≡ sum_of (λ j. count (bodies j)) nodes
  node_arms_count targets bodies [] = refl
  node_arms_count targets bodies (j ∷ nodes) =
      let i = inside_append (statements_in (bodies j)) (flat_map (λ (arm : CaseArm). statements_in arm.body) (arms_of_nodes targets bodies nodes)) in
      let h = node_arms_count targets bodies nodes in omega arith

  list_counts : (e : Expr) (targets : List ℕ) (bodies : ℕ → List Stmt) (nodes : List ℕ) (other rest : List Stmt)
      → count (stmt.Case e (arms_of_nodes targets bodies nodes) other ∷ rest) ≡ w.select + sum_of (λ j. count (bodies j)) nodes + count other + count rest
  list_counts e targets bodies nodes other rest =
      let arms = arms_of_nodes targets bodies nodes in
      let f = count_first (S.Case e arms other) (stmt.Case e arms other) (stmt.rolls-Case e arms other) rest in let t = ok.select e arms other in
      let i = inside_append (flat_map (λ (arm : CaseArm). statements_in arm.body) arms) (statements_in other) in
      let h = node_arms_count targets bodies nodes in omega arith

  -- a statement with no others inside
  single_counts : (y : Layer) (x : Stmt) → roll-Stmt y ≡ x → inner_bodies y ≡ [] → (rest : List Stmt) → count (x ∷ rest) ≡ length (step y) + count rest
  single_counts y x e none rest =
      let f = count_first y x e rest in let i : length (inside (inner_bodies y)) ≡ 0 = ap (λ (xs : List Stmt). length (inside xs)) none in omega arith

  text_counts : (next : ℕ) (r : Region) → count (text_of next r) ≡ weight w r
  text_counts next off = refl
  text_counts next leaves = let f = single_counts S.Exit stmt.Exit stmt.rolls-Exit refl [] in let e = ok.exit in omega arith
  text_counts next again = let f = single_counts S.Continue stmt.Continue stmt.rolls-Continue refl [] in let e = ok.again in omega arith
  text_counts next ended = returning
    where
      returning : count (stmt.Return ∷ []) ≡ w.leave
      returning = let f = single_counts S.Return stmt.Return stmt.rolls-Return refl [] in let e = ok.ended in omega arith
  text_counts next (node steps rest) =
      let a = count_append steps (text_of next rest) in let s = ok.steps steps in let h = text_counts next rest in omega arith
  text_counts next (fork steps e there behind join rest) =
      let a = count_append steps (choice e (text_of next there) (text_of next behind) ∷ text_of next rest) in let s = ok.steps steps in
      let b = choice_counts e (text_of next there) (text_of next behind) (text_of next rest) in
      let h = text_counts next there in let i = text_counts next behind in let j = text_counts next rest in omega arith
  text_counts next (quit steps e rest) =
      let a = count_append steps (choice e (stmt.Return ∷ []) [] ∷ text_of next rest) in let s = ok.steps steps in
      let b = choice_counts e (stmt.Return ∷ []) [] (text_of next rest) in
      let f = single_counts S.Return stmt.Return stmt.rolls-Return refl [] in let r = ok.ended in let j = text_counts next rest in omega arith
  text_counts next (table steps e n arms join rest) =
      let bodies : ℕ → List Stmt = λ k. text_of next (arms k) in
      let a = count_append steps (stmt.Case e (arms_with_labels bodies (labels_from 0 n)) (text_of next (arms n)) ∷ text_of next rest) in
      let s = ok.steps steps in let b = case_counts e bodies (labels_from 0 n) (text_of next (arms n)) (text_of next rest) in
      let same = sum_same (λ k. count (text_of next (arms k))) (λ k. weight w (arms k)) (λ k. text_counts next (arms k)) (labels_from 0 n) in
      let h = text_counts next (arms n) in let j = text_counts next rest in omega arith
  text_counts next (choose steps e targets nodes arms other join rest) =
      let bodies : ℕ → List Stmt = λ j. text_of next (arms j) in
      let a = count_append steps (stmt.Case e (arms_of_nodes targets bodies nodes) (text_of next other) ∷ text_of next rest) in
      let s = ok.steps steps in let b = list_counts e targets bodies nodes (text_of next other) (text_of next rest) in
      let same = sum_same (λ j. count (text_of next (arms j))) (λ j. weight w (arms j)) (λ j. text_counts next (arms j)) nodes in
      let h = text_counts next other in let j = text_counts next rest in omega arith
  text_counts next (cycle body behind rest) =
      let b = forever_counts (text_of next body) (text_of next rest) in
      let h = text_counts next body in let j = text_counts next rest in omega arith
  text_counts next (turn_to i rest) =
      let v = var.Local next in let e = expr.Literal type.Dint (pos i) in
      let f = single_counts (S.Assign v e) (stmt.Assign v e) (stmt.rolls-Assign v e) refl (text_of next rest) in
      let s = ok.set v e in let j = text_counts next rest in omega arith
  text_counts next (selector labels arms behind rest) =
      let bodies : ℕ → List Stmt = λ k. text_of next (arms k) in let e = expr.Read (var.Local next) in
      let b = forever_counts (stmt.Case e (arms_with_labels bodies labels) [] ∷ []) (text_of next rest) in
      let d = case_counts e bodies labels [] [] in
      let same = sum_same (λ k. count (text_of next (arms k))) (λ k. weight w (arms k)) (λ k. text_counts next (arms k)) labels in
      let j = text_counts next rest in omega arith

tests_count : Counts Expr test_step of_tests
tests_count = record {
  exit = refl;
  again = refl;
  ended = refl;
  test = λ arm other. refl;
  turn = λ e body. refl;
  select = λ e arms other. refl;
  set = λ v e. refl;
  steps = λ xs. refl;
}

whiles_count : Counts Expr while_step of_whiles
whiles_count = record {
  exit = refl;
  again = refl;
  ended = refl;
  test = λ arm other. refl;
  turn = λ e body. refl;
  select = λ e arms other. refl;
  set = λ v e. refl;
  steps = λ xs. refl;
}

-- one for each statement
abbrev one_step : Layer → List ℕ
one_step y = 0 ∷ []

as_many : (xs : List Stmt) → length (flat_map (λ (x : Stmt). one_step (out-Stmt x)) xs) ≡ length xs
as_many [] = refl
as_many (x ∷ xs) = ap suc (as_many xs)

statements_count : Counts ℕ one_step of_statements
statements_count = record {
  exit = refl;
  again = refl;
  ended = refl;
  test = λ arm other. refl;
  turn = λ e body. refl;
  select = λ e arms other. refl;
  set = λ v e. refl;
  steps = λ xs. as_many (statements_in xs);
}

pub text_weighs : TextWeighs
text_weighs next r = (
  text_counts Expr test_step of_tests tests_count next r,
  text_counts Expr while_step of_whiles whiles_count next r,
  sym (as_many (statements_in (text_of next r))) ∙ text_counts ℕ one_step of_statements statements_count next r,
)

-- Settings

-- settings have no statements inside
pub settings_alone : (xs : List Stmt) → AreSettings xs → length (statements_in xs) ≡ length xs
settings_alone [] h = refl
settings_alone (stmt.Assign (var.Register r) (expr.Literal ty n) ∷ rest) h =
    let v = var.Register r in let e = expr.Literal ty n in
    let none : inner_statements (stmt.Assign v e) ≡ [] = ap inner_statements (sym (stmt.rolls-Assign v e)) ∙ inner_rolled (S.Assign v e) in
    ap (λ (inside : List Stmt). length (stmt.Assign v e ∷ inside ++ statements_in rest)) none ∙ ap suc (settings_alone rest h)
settings_alone (x ∷ rest) h = elim h [ ]

-- what no assignment gives, settings do not give
settings_give : {A : Type 0} (step : Layer → List A) → ((v : Var) (e : Expr) → step (S.Assign v e) ≡ []) → (xs : List Stmt) → AreSettings xs
    → given_by step xs ≡ []
settings_give step none [] h = refl
settings_give step none (stmt.Assign (var.Register r) (expr.Literal ty n) ∷ rest) h =
    let v = var.Register r in let e = expr.Literal ty n in
    gathered_first step (S.Assign v e) (stmt.rolls-Assign v e) rest
    ∙ ap (λ ys. ys ++ given_by step rest) (none v e) ∙ settings_give step none rest h
settings_give step none (x ∷ rest) h = elim h [ ]

pub settings_test : (xs : List Stmt) → AreSettings xs → if_tests_in xs ≡ []
settings_test xs h = settings_give test_step (λ v e. refl) xs h

pub settings_turn : (xs : List Stmt) → AreSettings xs → while_tests_in xs ≡ []
settings_turn xs h = settings_give while_step (λ v e. refl) xs h

-- Steps

-- no step is a WHILE or has one inside
put_back_turn : (xs : List Stmt) → ArePutBack xs → while_tests_in xs ≡ []
put_back_turn [] h = refl
put_back_turn (stmt.Assign (var.Register reg.DbNo) (expr.Read (var.Local i)) ∷ rest) h =
    let v = var.Register reg.DbNo in let e = expr.Read (var.Local i) in
    gathered_first while_step (S.Assign v e) (stmt.rolls-Assign v e) rest ∙ put_back_turn rest h
put_back_turn (stmt.Assign (var.Register reg.DiNo) (expr.Read (var.Local i)) ∷ rest) h =
    let v = var.Register reg.DiNo in let e = expr.Read (var.Local i) in
    gathered_first while_step (S.Assign v e) (stmt.rolls-Assign v e) rest ∙ put_back_turn rest h
put_back_turn (x ∷ rest) h = elim h [ ]

guarded_turn : (xs : List Stmt) → IsGuarded xs → while_tests_in xs ≡ []
guarded_turn [] h = elim h [ ]
guarded_turn (stmt.Assign (var.Local i) e ∷ rest) h =
    gathered_first while_step (S.Assign (var.Local i) e) (stmt.rolls-Assign (var.Local i) e) rest ∙ guarded_turn rest h
guarded_turn (stmt.Invoke n vars ∷ rest) h =
    gathered_first while_step (S.Invoke n vars) (stmt.rolls-Invoke n vars) rest ∙ put_back_turn rest h
guarded_turn (x ∷ rest) h = elim h [ ]

step_turn : (y : Layer) → IsStep y → (more : List Expr)
    → while_step y ++ (flat_map (λ (x : Stmt). while_step (out-Stmt x)) (inner_bodies y) ++ more) ≡ more
step_turn (S.Assign v e) h more = refl
step_turn (S.AreaWrite w p e) h more = refl
step_turn (S.Invoke n vars) h more = refl
step_turn (S.If (arm ∷ []) []) h more =
    let body = (out-Arm arm).body in
    ap (λ (xs : List Stmt). flat_map (λ (x : Stmt). while_step (out-Stmt x)) xs ++ more)
    (append-nil (statements_in body ++ []) ∙ append-nil (statements_in body))
    ∙ ap (λ (ys : List Expr). ys ++ more) (guarded_turn body h.1)
step_turn y h more = elim h [ ]

pub steps_turn : (xs : List Stmt) → AreSteps xs → while_tests_in xs ≡ []
steps_turn [] h = refl
steps_turn (x ∷ rest) h =
    gathered_first while_step {x = x} (out-Stmt x) (roll-out-Stmt x) rest
    ∙ step_turn (out-Stmt x) h.0 (while_tests_in rest) ∙ steps_turn rest h.1

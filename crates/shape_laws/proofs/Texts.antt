-- What holds of each statement in the text of a region that fits, where it holds of those in the steps of its nodes.
use Rattle.std.proofs.Common.{◌≡◌, ℕ, zero, suc, ◌+◌, ◌<◌, ◌==◌, pos, Bool, true, false, ◌||◌, List, [], ◌∷◌, ◌++◌, slice_get, Some, refl, sym, ap, ◌∙◌, subst, arith}
use Rattle.std.specs.List.{flat_map, list_any}
use Rattle.std.specs.Prelude.{All}
use Rattle.std.proofs.lemmas.Bool.{eq-eqb, eqb-true, or_left, or_right}
use Rattle.std.proofs.lemmas.Grind.{flat_map-append}
use Rattle.std.proofs.lemmas.List.Elements.{All-append, All-cons, All-head, All-nil}
use Rattle.st_tree.specs.BodyParts.{inner_statements, statements_in}
use Rattle.st_tree.specs.declared.expr.Expr.{Expr}
use Rattle.st_tree.specs.declared.expr.Expr.TheVariants as expr
use Rattle.st_tree.specs.declared.expr.StType.TheVariants as type
use Rattle.st_tree.specs.declared.expr.Var.TheVariants as var
use Rattle.st_tree.specs.declared.graph.StExit.{StExit}
use Rattle.st_tree.specs.declared.graph.StExit.TheVariants as exit
use Rattle.st_tree.specs.declared.graph.StNode.{StNode}
use Rattle.st_tree.specs.declared.program.CaseArm.{CaseArm}
use Rattle.st_tree.specs.declared.program.Stmt.{Stmt, out-Stmt, out-roll-Stmt, roll-Stmt}
use Rattle.st_tree.specs.declared.program.Stmt.TheOpen as S
use Rattle.st_tree.specs.declared.program.Stmt.TheVariants as stmt
use Rattle.st_tree.proofs.PartEquations.{inner_bodies, inner_rolled}
use Rattle.graph_rules.specs.Plain.{tests_of}
use Rattle.region_laws.specs.Regions.{Around, Fits, IsNode, Mark, Marked, Place, Region, again, arm_of, arms_of_nodes, arms_with_labels, at, choice, choose, cycle, ended, forever, fork, inside, is_among, is_arm, labels_from, leaves, loop_head, node, off, quit, selected, selector, table, text_of, turn_to, unmarked}
use Rattle.text_shapes.proofs.Counting.{Layer}

-- Labels

-- labels from one on are before their end
pub label_before : (label n m : ℕ) → list_any (λ l. l == m) (labels_from label n) ≡ true → m < label + n
label_before label zero m e = absurd cc
label_before label (suc n) m e = by (label == m) refl e (λ f. label_before (suc label) n m f)
  where
    by : (t : Bool) → label == m ≡ t → t || list_any (λ l. l == m) (labels_from (suc label) n) ≡ true
        → (list_any (λ l. l == m) (labels_from (suc label) n) ≡ true → m < suc label + n) → m < label + suc n
    by true f e more = let same : label ≡ m = eqb-true label m f in omega arith
    by false f e more = let l : m < suc label + n = more e in omega arith

pub arm_mark : (k : ℕ) (mark : Mark) → is_arm k mark ≡ true → mark ≡ arm_of k
arm_mark k unmarked e = absurd cc
arm_mark k loop_head e = absurd cc
arm_mark k (arm_of j) e = ap arm_of (eqb-true j k e)

-- Bodies

module _ (P : Layer → Type 0) where
  abbrev Own : Stmt → Type 0
  Own x = P (out-Stmt x)

  abbrev pub EachOf : List Stmt → Type 0
  EachOf body = All Own (statements_in body)

  pub each_append : (xs ys : List Stmt) → EachOf xs → EachOf ys → EachOf (xs ++ ys)
  each_append xs ys h i =
      subst (All Own) (sym (flat_map-append (λ (x : Stmt). x ∷ inner_statements x) xs ys))
      (All-append Own (statements_in xs) (statements_in ys) h i)

  pub each_first : (y : Layer) (x : Stmt) → roll-Stmt y ≡ x → (rest : List Stmt) → P y → All Own (inner_bodies y)
      → EachOf rest → EachOf (x ∷ rest)
  each_first y x e rest own inner more =
      All-append Own (x ∷ inner_statements x) (statements_in rest)
      (All-cons Own x (inner_statements x) (subst P (sym (out-roll-Stmt y) ∙ ap out-Stmt e) own)
      (subst (All Own) (sym (inner_rolled y) ∙ ap inner_statements e) inner)) more

  -- the arms of a CASE
  each_arm : (bodies : ℕ → List Stmt) (labels : List ℕ)
      → ((n : ℕ) → list_any (λ label. label == n) labels ≡ true → EachOf (bodies n))
      → All Own (flat_map (λ (arm : CaseArm). statements_in arm.body) (arms_with_labels bodies labels))
  each_arm bodies [] each = All-nil Own
  each_arm bodies (n ∷ labels) each =
      All-append Own (statements_in (bodies n)) (flat_map (λ (arm : CaseArm). statements_in arm.body) (arms_with_labels bodies labels))
      (each n (or_left (n == n) (list_any (λ label. label == n) labels) (eq-eqb n n refl)))
      (each_arm bodies labels (λ m e. each m (or_right (n == m) (list_any (λ label. label == m) labels) e)))

  each_listed : (targets : List ℕ) (bodies : ℕ → List Stmt) (nodes : List ℕ) → ((j : ℕ) → is_among j nodes ≡ true → EachOf (bodies j))
      → All Own (flat_map (λ (arm : CaseArm). statements_in arm.body) (arms_of_nodes targets bodies nodes))
  each_listed targets bodies [] each = All-nil Own
  each_listed targets bodies (n ∷ nodes) each =
      All-append Own (statements_in (bodies n)) (flat_map (λ (arm : CaseArm). statements_in arm.body) (arms_of_nodes targets bodies nodes))
      (each n (or_left (n == n) (is_among n nodes) (eq-eqb n n refl)))
      (each_listed targets bodies nodes (λ m e. each m (or_right (n == m) (is_among m nodes) e)))

-- Regions

-- what holds of the statements that regions have besides steps, where tests are good
pub record HoldsOfText (P : Layer → Type 0) (Good : Expr → Type 0) (next : ℕ) : Type 0 where
  pub exit : P S.Exit
  pub again : P S.Continue
  pub ended : P S.Return
  pub test : (e : Expr) → Good e → (body other : List Stmt) → P (S.If (record { test = e; body = body } ∷ []) other)
  pub turn : (body : List Stmt) → P (S.While (expr.Literal type.Bool (pos 1)) body)
  pub choose : (e : Expr) → Good e → (arms : List CaseArm) (other : List Stmt) → P (S.Case e arms other)
  pub select : (arms : List CaseArm) → P (S.Case (expr.Read (var.Local next)) arms [])
  pub set : (j : ℕ) → P (S.Assign (var.Local next) (expr.Literal type.Dint (pos j)))

module _ (P : Layer → Type 0) (Good : Expr → Type 0) (next : ℕ) (ok : HoldsOfText P Good next) (unit : Marked)
    (nodes : (i : ℕ) (n : StNode) → slice_get unit.nodes i ≡ Some n → EachOf P n.steps × All Good (tests_of n.exit)) where
  steps_hold : (turn : Bool) (i : ℕ) (steps : List Stmt) (y : StExit) → IsNode unit turn i steps y → EachOf P steps
  steps_hold turn i steps y is = subst (EachOf P) is.steps_are (nodes i is.node is.there).0

  test_good : (turn : Bool) (i : ℕ) (steps : List Stmt) (y : StExit) (e : Expr) → tests_of y ≡ e ∷ [] → IsNode unit turn i steps y → Good e
  test_good turn i steps y e tests is =
      All-head Good e [] (subst (All Good) (ap tests_of is.exit_is ∙ tests) (nodes i is.node is.there).1)

  if_holds : (e : Expr) (body other rest : List Stmt) → Good e → EachOf P body → EachOf P other → EachOf P rest
      → EachOf P (choice e body other ∷ rest)
  if_holds e body other rest good h i more =
      each_first P (S.If (record { test = e; body = body } ∷ []) other) (choice e body other)
      (stmt.rolls-If (record { test = e; body = body } ∷ []) other) rest (ok.test e good body other)
      (All-append (Own P) (statements_in body ++ []) (statements_in other)
      (All-append (Own P) (statements_in body) [] h (All-nil (Own P))) i) more

  forever_holds : (body rest : List Stmt) → EachOf P body → EachOf P rest → EachOf P (forever body ∷ rest)
  forever_holds body rest h more =
      each_first P (S.While (expr.Literal type.Bool (pos 1)) body) (forever body) (stmt.rolls-While (expr.Literal type.Bool (pos 1)) body) rest
      (ok.turn body) h more

  arms_hold : (e : Expr) (arms : List CaseArm) (other rest : List Stmt) → P (S.Case e arms other)
      → All (Own P) (flat_map (λ (arm : CaseArm). statements_in arm.body) arms) → EachOf P other → EachOf P rest
      → EachOf P (stmt.Case e arms other ∷ rest)
  arms_hold e arms other rest own each h more =
      each_first P (S.Case e arms other) (stmt.Case e arms other) (stmt.rolls-Case e arms other) rest own
      (All-append (Own P) (flat_map (λ (arm : CaseArm). statements_in arm.body) arms) (statements_in other) each h) more

  case_holds : (e : Expr) (bodies : ℕ → List Stmt) (labels : List ℕ) (other rest : List Stmt)
      → P (S.Case e (arms_with_labels bodies labels) other)
      → ((n : ℕ) → list_any (λ label. label == n) labels ≡ true → EachOf P (bodies n)) → EachOf P other → EachOf P rest
      → EachOf P (stmt.Case e (arms_with_labels bodies labels) other ∷ rest)
  case_holds e bodies labels other rest own each h more =
      arms_hold e (arms_with_labels bodies labels) other rest own (each_arm P bodies labels each) h more

  pub holds : (r : Region) (turn : Bool) (p follow : Place) (a : Around) → Fits unit turn r p follow a → EachOf P (text_of next r)
  holds off turn p follow a fit = All-nil (Own P)
  holds leaves turn p follow a fit = each_first P S.Exit stmt.Exit stmt.rolls-Exit [] ok.exit (All-nil (Own P)) (All-nil (Own P))
  holds again turn p follow a fit = each_first P S.Continue stmt.Continue stmt.rolls-Continue [] ok.again (All-nil (Own P)) (All-nil (Own P))
  holds ended turn p follow a fit = each_first P S.Return stmt.Return stmt.rolls-Return [] ok.ended (All-nil (Own P)) (All-nil (Own P))
  holds (node steps rest) turn p follow a (i, x, q, e, is, leads, fits) =
      each_append P steps (text_of next rest) (steps_hold turn i steps x is) (holds rest false q follow a fits)
  holds (fork steps e there behind join rest) turn p follow a (i, j, q, is, fit, fit', fits) =
      each_append P steps (choice e (text_of next there) (text_of next behind) ∷ text_of next rest)
      (steps_hold turn i steps (exit.Branch e j) is)
      (if_holds e (text_of next there) (text_of next behind) (text_of next rest)
      (test_good turn i steps (exit.Branch e j) e refl is)
      (holds there false (at j) join a fit) (holds behind false (at (suc i)) join a fit') (holds rest false join follow a fits))
  holds (quit steps e rest) turn p follow a (i, q, is, fits) =
      each_append P steps (choice e (stmt.Return ∷ []) [] ∷ text_of next rest) (steps_hold turn i steps (exit.EndIf e) is)
      (if_holds e (stmt.Return ∷ []) [] (text_of next rest) (test_good turn i steps (exit.EndIf e) e refl is)
      (each_first P S.Return stmt.Return stmt.rolls-Return [] ok.ended (All-nil (Own P)) (All-nil (Own P))) (All-nil (Own P))
      (holds rest false (at (suc i)) follow a fits))
  holds (table steps e count arms join rest) turn p follow a (i, targets, last, q, is, many, each, fits) =
      let good = test_good turn i steps (exit.Table e targets last) e refl is in
      let bodies : ℕ → List Stmt = λ n. text_of next (arms n) in
      each_append P steps (stmt.Case e (arms_with_labels bodies (labels_from 0 count)) (text_of next (arms count)) ∷ text_of next rest)
      (steps_hold turn i steps (exit.Table e targets last) is)
      (case_holds e bodies (labels_from 0 count) (text_of next (arms count)) (text_of next rest)
      (ok.choose e good (arms_with_labels bodies (labels_from 0 count)) (text_of next (arms count)))
      (λ m f. let b : m < 0 + count = label_before 0 count m f in holds (arms m) false _ join a (each m (omega arith)))
      (holds (arms count) false _ join a (each count (omega arith))) (holds rest false join follow a fits))
  holds (choose steps e targets listed arms other join rest) turn p follow a (i, last, q, is, have, each, fit, fits) =
      let good = test_good turn i steps (exit.Table e targets last) e refl is in
      let bodies : ℕ → List Stmt = λ j. text_of next (arms j) in
      each_append P steps (stmt.Case e (arms_of_nodes targets bodies listed) (text_of next other) ∷ text_of next rest)
      (steps_hold turn i steps (exit.Table e targets last) is)
      (arms_hold e (arms_of_nodes targets bodies listed) (text_of next other) (text_of next rest)
      (ok.choose e good (arms_of_nodes targets bodies listed) (text_of next other))
      (each_listed P targets bodies listed (λ j f. holds (arms j) false (at j) join a (each j f)))
      (holds other false (at last) join a fit) (holds rest false join follow a fits))
  holds (cycle body behind rest) turn p follow a (h, t, e, m, fit, fits) =
      forever_holds (text_of next body) (text_of next rest)
      (holds body true (at h) (at h) (inside (at h) behind) fit) (holds rest false behind follow a fits)
  holds (turn_to j rest) turn p follow a (k, t, e, m, fits) =
      each_first P (S.Assign (var.Local next) (expr.Literal type.Dint (pos j))) (stmt.Assign (var.Local next) (expr.Literal type.Dint (pos j)))
      (stmt.rolls-Assign (var.Local next) (expr.Literal type.Dint (pos j))) (text_of next rest) (ok.set j) (All-nil (Own P))
      (holds rest false (selected k) follow a fits)
  holds (selector labels arms behind rest) turn p follow a (k, t, e, named, each, fits) =
      let bodies : ℕ → List Stmt = λ n. text_of next (arms n) in
      forever_holds (stmt.Case (expr.Read (var.Local next)) (arms_with_labels bodies labels) [] ∷ []) (text_of next rest)
      (case_holds (expr.Read (var.Local next)) bodies labels [] [] (ok.select (arms_with_labels bodies labels))
      (λ m g. holds (arms m) true (at m) (selected k) (inside (selected k) behind) (each m (arm_mark k (unit.marks m) (sym (named m) ∙ g))))
      (All-nil (Own P)) (All-nil (Own P)))
      (holds rest false behind follow a fits)

-- What a statement is in the tree, and its calls, at each variant.
use Rattle.st_tree.proofs.Common.{◌≡◌, ℕ, ℤ, List, sym, ap, ◌∙◌, Line, key_of}
use Rattle.st_rules.proofs.Common.{StType, Stmt, RawArm, RawCaseArm, RawExpr, RawStmt, Judged, all_calls, call_on, calls_of, calls_of_arm, calls_of_case_arm, join_calls, Actual, callee, meaning_in, Armed, Labelled, arm, case_arm, statement, statements}
use Rattle.st_tree.specs.declared.raw.RawArm.{fold-roll-RawArm, roll-RawArm}
use Rattle.st_tree.specs.declared.raw.RawCaseArm.{fold-roll-RawCaseArm, roll-RawCaseArm}
use Rattle.st_tree.specs.declared.raw.RawStmt.{fold_out-RawStmt}
use Rattle.st_tree.specs.declared.raw.RawStmtKind.{RawStmtKind, fold-roll-RawStmtKind, map-RawStmtKind, roll-RawStmtKind}
use Rattle.st_tree.specs.declared.raw.RawStmtKind.TheOpen as K
use Rattle.st_tree.specs.declared.raw.RawStmtKind.TheVariants as raw
use Rattle.st_rules.specs.Calls as calls
use Rattle.st_rules.specs.Calls.{OnLine, calls_of_action}
use Rattle.st_rules.specs.Statements.{Done, action, arm_step, case_arm_step, kind_step}
use Rattle.call_chains.specs.declared.call.Call.{Call}
use Rattle.st_names.specs.declared.scope.NameScope.{NameScope}

-- a statement on a line
abbrev pub on_line : Line → RawStmtKind → RawStmt
on_line line kind = record { line = line; kind = kind }

-- an arm of an IF, with its statements
abbrev pub raw_arm : RawExpr → List RawStmt → RawArm
raw_arm test body = roll-RawArm (record { test = test; body = body })

-- an arm of a CASE, with its statements
abbrev pub raw_case : List (StType × ℤ) → List RawStmt → RawCaseArm
raw_case labels body = roll-RawCaseArm (record { labels = labels; body = body })

module _ (s : NameScope) (l : Line) where
  -- What they are

  -- a statement of a kind is what its parts are
  pub act_at : {x : RawStmtKind} (y : K.RawStmtKind-F RawStmtKind RawArm RawCaseArm RawStmt) → roll-RawStmtKind y ≡ x
      → statement s (on_line l x) ≡ kind_step s
      (map-RawStmtKind RawStmtKind RawArm RawCaseArm RawStmt Done Armed Labelled (Judged Stmt) (action s) (arm s)
      (case_arm s) (statement s) y) l
  act_at {x} y e = fold_out-RawStmt _ _ _ _ _ _ _ _ (on_line l x)
      ∙ ap (λ (d : Done). d l) (ap (action s) (sym e) ∙ fold-roll-RawStmtKind _ _ _ _ _ _ _ _ y)

  pub act_invoke : (name : List ℕ) (actuals : List Actual)
      → statement s (on_line l (raw.Invoke name actuals)) ≡ kind_step s (K.Invoke name actuals) l
  act_invoke name actuals = act_at (K.Invoke name actuals) (raw.rolls-Invoke name actuals)

  pub act_exit : statement s (on_line l raw.Exit) ≡ kind_step s K.Exit l
  act_exit = act_at K.Exit raw.rolls-Exit

  pub act_continue : statement s (on_line l raw.Continue) ≡ kind_step s K.Continue l
  act_continue = act_at K.Continue raw.rolls-Continue

  pub act_return : statement s (on_line l raw.Return) ≡ kind_step s K.Return l
  act_return = act_at K.Return raw.rolls-Return

  -- Calls

  -- a statement of a kind calls what its parts call
  pub calls_at : {x : RawStmtKind} (y : K.RawStmtKind-F RawStmtKind RawArm RawCaseArm RawStmt) → roll-RawStmtKind y ≡ x
      → calls_of s (on_line l x)
      ≡ calls.kind_step s (map-RawStmtKind RawStmtKind RawArm RawCaseArm RawStmt OnLine (List Call) (List Call)
      (List Call) (calls_of_action s) (calls_of_arm s)
      (calls_of_case_arm s) (calls_of s) y) l
  calls_at {x} y e = fold_out-RawStmt _ _ _ _ _ _ _ _ (on_line l x)
      ∙ ap (λ (d : OnLine). d l) (ap (calls_of_action s) (sym e) ∙ fold-roll-RawStmtKind _ _ _ _ _ _ _ _ y)

  pub calls_invoke : (name : List ℕ) (actuals : List Actual)
      → calls_of s (on_line l (raw.Invoke name actuals)) ≡ call_on l (callee (meaning_in s (key_of name)))
  calls_invoke name actuals = calls_at (K.Invoke name actuals) (raw.rolls-Invoke name actuals)

-- Arms

module _ (s : NameScope) where
  pub act_arm : (test : RawExpr) (body : List RawStmt)
      → arm s (raw_arm test body) ≡ arm_step s (record { test = test; body = statements s body })
  act_arm test body = fold-roll-RawArm _ _ _ _ _ _ _ _ (record { test = test; body = body })

  pub act_case_arm : (labels : List (StType × ℤ)) (body : List RawStmt)
      → case_arm s (raw_case labels body) ≡ case_arm_step (record { labels = labels; body = statements s body })
  act_case_arm labels body = fold-roll-RawCaseArm _ _ _ _ _ _ _ _ (record { labels = labels; body = body })

  pub calls_arm : (test : RawExpr) (body : List RawStmt) → calls_of_arm s (raw_arm test body) ≡ all_calls s body
  calls_arm test body = fold-roll-RawArm _ _ _ _ _ _ _ _ (record { test = test; body = body })

  pub calls_case_arm : (labels : List (StType × ℤ)) (body : List RawStmt)
      → calls_of_case_arm s (raw_case labels body) ≡ all_calls s body
  calls_case_arm labels body = fold-roll-RawCaseArm _ _ _ _ _ _ _ _ (record { labels = labels; body = body })

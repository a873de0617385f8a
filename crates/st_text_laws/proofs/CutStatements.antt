-- The statements of a canonical text, each before what is read after it.
use Rattle.st_tree.proofs.Common.{◌≡◌, ℕ, ◌+◌, true, false, ℤ, List, [], ◌∷◌, ◌++◌, map, Option, refl, sym, subst, append_assoc, codes, flat_map, slice_get, line_after, Line, Width, ArmText, CaseText, Text, arm_text, body_text, case_text, else_text, expr_text, formals_of, label_text, literal_text, statement_text, texts_at, unit_name, var_text, Names, type_of, width_word}
use Rattle.s7_base.specs.declared.word.Width.TheVariants as width
use Rattle.st_lexer.proofs.Common.{ends_word, Expr, StType, Var, Arm, fold_out-Arm, CaseArm, fold_out-CaseArm, Local, Pou, Stmt, fold-roll-Stmt, map-Stmt, roll-Stmt}
use Rattle.st_text_laws.proofs.CutExpressions.{opens, reads_expr, three, two}
use Rattle.st_text_laws.proofs.CutLiterals.{reads_literal, reads_var}
use Rattle.st_text_laws.proofs.CutWords.{is_keyword, reads_becomes, reads_close, reads_comma, reads_fixed, reads_last_colon, reads_lead, reads_name, reads_open, reads_semicolon}
use Rattle.st_text_laws.proofs.Cuts.{ReadsOn, begins_with_times, reads_as, reads_blank, reads_line, reads_line_end}
use Rattle.st_text_laws.proofs.Common.{ArmFromLine, CaseFromLine, FromLine, Placed, actuals_from, all_from, arms_from, arm_from, body_from, case_from, cases_from, choice_from, expr_form, arm_with_labels, labels_behind, labels_form, literal_form, on, raw_var, statement_from, Fixed, Jump, GrammarKind}
use Rattle.st_text_laws.specs.Canonical as canonical
use Rattle.st_grammar.proofs.Common.{Actuals, no_actual, actual, Arms, no_arm, arm, CaseArms, no_case, Labels, label, more_labels, Statement, assign, write, invoke, jump, Statements, none, further, HasArm, arm_word, comma_behind, spell, spell_actuals, spell_all, spell_arms, spell_cases, spell_labels, spell_one, fixed_text, lead_text}
use Rattle.st_grammar.specs.declared.kind.Fixed.TheVariants as fixed
use Rattle.st_grammar.specs.declared.kind.Jump.TheVariants as jump_word
use Rattle.st_grammar.specs.declared.kind.GrammarKind.TheVariants as kind
use Rattle.st_grammar.specs.declared.kind.Lead.TheVariants as lead
use Rattle.st_tree.proofs.Induction.{Each, InArm, InCase, StmtSteps, every_body}
use Rattle.st_tree.specs.Spelling.{actuals_text, arms_text, call_text, labelled_text, labels_text, line as line_text, comma_list}
use Rattle.st_tree.specs.Spelling as spelling
use Rattle.st_tree.specs.declared.program.Stmt.TheOpen as S
use Rattle.st_tree.specs.declared.program.Stmt.TheVariants as stmt
use Rattle.st_tree.specs.declared.raw.RawVar.TheVariants as var

-- Lists, with their last element outermost

-- what is read from a line on is read from an earlier one on, behind what stands before it
abbrev pub Passes : ℕ → ℕ → (List ℕ → List ℕ) → (List GrammarKind → List GrammarKind) → Type 0
Passes start line written spelled = (more : List ℕ) (ks : List GrammarKind) → ReadsOn line more ks → ReadsOn start (written more) (spelled ks)

-- and so it is where a word may end
abbrev pub PassesWord : ℕ → (List ℕ → List ℕ) → (List GrammarKind → List GrammarKind) → Type 0
PassesWord line written spelled =
    (more : List ℕ) (ks : List GrammarKind) → ends_word more ≡ true → ReadsOn line more ks → ReadsOn line (written more) (spelled ks)

-- Labels

reads_more_labels : (ty : StType) (others : Labels) (ns : List ℤ) (line : ℕ) (written : List ℕ → List ℕ) → PassesWord line written (spell_labels others)
    → PassesWord line (λ more. written (flat_map (label_text ty) ns ++ more)) (spell_labels (labels_behind ty others ns))
unfolding label_text
reads_more_labels ty others [] line written before more ks ends r = before more ks ends r
reads_more_labels ty others (n ∷ ns) line written before more ks ends r =
    simp append_assoc (reads_more_labels ty (more_labels others (literal_form ty n)) ns line (λ bytes. written (label_text ty n ++ bytes))
    (λ bytes ls e rest. before _ _ refl (reads_comma (reads_blank (reads_literal ty n e rest)))) more ks ends r)

reads_labels : (ty : StType) (n : ℤ) (ns : List ℤ) (line : ℕ)
    → PassesWord line (λ more. literal_text ty n ++ (flat_map (label_text ty) ns ++ more)) (spell_labels (labels_form ty n ns))
reads_labels ty n ns line =
    reads_more_labels ty (label (literal_form ty n)) ns line (λ bytes. literal_text ty n ++ bytes) (λ bytes ls e rest. reads_literal ty n e rest)

module _ (names : Names) where
  -- Calls

  -- a formal with its variable
  abbrev actual_text : Local → Var → List ℕ → List ℕ
  actual_text formal v more = formal.name ++ (codes " := " ++ (var_text names v ++ more))

  reads_actual : (formal : Local) (v : Var) (line : ℕ)
      → PassesWord line (actual_text formal v)
      (λ ks. kind.Variable (var.Name formal.name) (on line) ∷ kind.Fixed fixed.Becomes ∷ kind.Variable (raw_var names v) (on line) ∷ ks)
  reads_actual formal v line more ks ends r = reads_name formal.name refl (reads_blank (reads_becomes (reads_blank (reads_var names v ends r))))

  reads_more_actuals : (others : Actuals) (formals : List Local) (vars : List Var) (line : ℕ) (written : List ℕ → List ℕ)
      → ((xs : List GrammarKind) → comma_behind others xs ≡ kind.Fixed fixed.Comma ∷ xs) → PassesWord line written (spell_actuals others)
      → PassesWord line (λ more. written (flat_map (λ text. codes ", " ++ text) (actuals_text names formals vars) ++ more)) (spell_actuals
      (actuals_from names line others formals vars))
  reads_more_actuals others [] vars line written comma before more ks ends r = before more ks ends r
  reads_more_actuals others (formal ∷ formals) [] line written comma before more ks ends r = before more ks ends r
  reads_more_actuals others (formal ∷ formals) (v ∷ vars) line written comma before more ks ends r =
      simp append_assoc (reads_more_actuals (actual others formal.name (on line) (raw_var names v) (on line)) formals vars line
      (λ bytes. written (44 ∷ 32 ∷ actual_text formal v bytes)) (λ xs. refl)
      (λ bytes ls e rest. rw comma (before _ _ refl (reads_comma (reads_blank (reads_actual formal v line bytes ls e rest))))) more ks ends r)

  reads_actuals : (formals : List Local) (vars : List Var) (line : ℕ)
      → PassesWord line (λ more. comma_list (actuals_text names formals vars) ++ more) (spell_actuals (actuals_from names line no_actual formals vars))
  reads_actuals [] vars line more ks ends r = r
  reads_actuals (formal ∷ formals) [] line more ks ends r = r
  reads_actuals (formal ∷ formals) (v ∷ vars) line more ks ends r =
      simp append_assoc (reads_more_actuals (actual no_actual formal.name (on line) (raw_var names v) (on line)) formals vars line
      (actual_text formal v) (λ xs. refl) (reads_actual formal v line) more ks ends r)

  -- no actual begins with `*`
  actuals_begin : (a : Actuals) (ks : List GrammarKind) → begins_with_times ks ≡ false → begins_with_times (spell_actuals a ks) ≡ false
  actuals_begin no_actual ks h = h
  actuals_begin (actual no_actual name l v place) ks h = refl
  actuals_begin (actual (actual others o m w p) name l v place) ks h =
      actuals_begin (actual others o m w p)
      (kind.Fixed fixed.Comma ∷ kind.Variable (var.Name name) l ∷ kind.Fixed fixed.Becomes ∷ kind.Variable v place ∷ ks) refl

  -- Statements

  abbrev ReadsStmt : Text → FromLine → Type 0
  ReadsStmt t f = (level line : ℕ) → Passes line (f line).1 (λ more. t level ++ more) (λ ks. spell_one (f line).0 (kind.Fixed fixed.Semicolon ∷ ks))

  abbrev P : Stmt → Type 0
  P x = ReadsStmt (statement_text names x) (statement_from names x)

  abbrev texts : List Stmt → List Text
  texts xs = map (statement_text names) xs

  abbrev froms : List Stmt → List FromLine
  froms xs = map (statement_from names) xs

  reads_more : (others : Statements) (xs : List Stmt) (level start line : ℕ) (written : List ℕ → List ℕ)
      → Each P xs → Passes start line written (spell_all others)
      → Passes start (all_from others line (froms xs)).1 (λ more. written (texts_at level (texts xs) ++ more)) (spell_all (all_from others line (froms xs)).0)
  reads_more others [] level start line written h before more ks r = before more ks r
  reads_more others (x ∷ xs) level start line written h before more ks r =
      let here : Placed Statement = statement_from names x line in
      simp append_assoc (reads_more (further others here.0) xs level start here.1 (λ bytes. written (statement_text names x level ++ bytes)) h.1
      (λ bytes ls rest. before _ _ (h.0 level line bytes ls rest)) more ks r)

  reads_all : (xs : List Stmt) (level line : ℕ) → Each P xs
      → Passes line (body_from line (froms xs)).1 (λ more. texts_at level (texts xs) ++ more) (spell_all (body_from line (froms xs)).0)
  reads_all xs level line h = reads_more none xs level line line (λ bytes. bytes) h (λ bytes ls rest. rest)

  -- Arms of an IF

  from_arm : (a : Arm) → arm_from names a ≡ canonical.arm_step names (record { test = a.test; body = froms a.body })
  from_arm a = fold_out-Arm FromLine ArmFromLine CaseFromLine (canonical.statement_step names) (canonical.arm_step names) canonical.case_step a

  is_arm : (a : Arm) (others : Arms) (line : ℕ) → HasArm (arm_from names a others line).0
  is_arm a others line = subst (λ (f : ArmFromLine). HasArm (f others line).0) (sym (from_arm a)) tt

  -- an arm behind its word, and behind the arms before it
  abbrev ReadsArm : ArmText → ArmFromLine → Type 0
  ReadsArm t f = (level start line : ℕ) (first : Line) (others : Arms) (word : List ℕ) (written : List ℕ → List ℕ)
      → Passes line line (λ bytes. word ++ bytes) (λ ks. arm_word first others ∷ ks) → Passes start line written (spell_arms first others)
      → Passes start (f others line).1 (λ more. written (t word level ++ more)) (spell_arms first (f others line).0)

  reads_arm : (a : Arm) → Each P a.body → ReadsArm (arm_text names a) (arm_from names a)
  reads_arm a h =
      rw (fold_out-Arm Text ArmText CaseText (spelling.statement_step names) (spelling.arm_step names) spelling.case_step a, from_arm a)
      (λ level start line first others word written begun before more ks r.
      before _ _ (simp append_assoc (reads_line _ _ _ (simp append_assoc (begun _ _ (reads_expr names line a.test refl
      (reads_blank (reads_fixed fixed.Then refl refl (reads_line_end (reads_all a.body (level + 1) (line_after line) h more ks r))))))))))

  elsif : (line : ℕ) (first : Line) (others : Arms) → HasArm others → Passes line line (λ bytes. codes "ELSIF " ++ bytes) (λ ks. arm_word first others ∷ ks)
  elsif line first no_arm h bytes ks r = absurd h
  elsif line first (arm others e body) h bytes ks r = reads_fixed fixed.Elsif refl refl (reads_blank r)

  reads_more_arms : (first : Line) (others : Arms) (xs : List Arm) (level start line : ℕ) (written : List ℕ → List ℕ) → HasArm others → Each (InArm P) xs
      → Passes start line written (spell_arms first others)
      → Passes start (arms_from others line (map (arm_from names) xs)).1
      (λ more. written (flat_map (λ (a : ArmText). a (codes "ELSIF ") level) (map (arm_text names) xs) ++ more))
      (spell_arms first (arms_from others line (map (arm_from names) xs)).0)
  reads_more_arms first others [] level start line written some h before more ks r = before more ks r
  reads_more_arms first others (x ∷ xs) level start line written some h before more ks r =
      let here : Placed Arms = arm_from names x others line in
      simp append_assoc
      (reads_more_arms first here.0 xs level start here.1 (λ bytes. written (arm_text names x (codes "ELSIF ") level ++ bytes)) (is_arm x others line) h.1
      (reads_arm x h.0 level start line first others (codes "ELSIF ") written (elsif line first others some) before) more ks r)

  reads_arms : (xs : List Arm) (level line : ℕ) → Each (InArm P) xs
      → Passes line (arms_from no_arm line (map (arm_from names) xs)).1 (λ more. arms_text level (map (arm_text names) xs) ++ more)
      (spell_arms (on line) (arms_from no_arm line (map (arm_from names) xs)).0)
  reads_arms [] level line h more ks r = r
  reads_arms (x ∷ xs) level line h more ks r =
      let here : Placed Arms = arm_from names x no_arm line in
      simp append_assoc
      (reads_more_arms (on line) here.0 xs level line here.1 (λ bytes. arm_text names x (codes "IF ") level ++ bytes) (is_arm x no_arm line) h.1
      (reads_arm x h.0 level line line (on line) no_arm (codes "IF ") (λ bytes. bytes)
      (λ bytes ls rest. reads_lead lead.If refl (reads_blank rest)) (λ bytes ls rest. rest)) more ks r)

  -- Arms of a CASE

  abbrev ReadsCase : CaseText → CaseFromLine → Type 0
  ReadsCase t f = (ty : StType) (level start line : ℕ) (others : CaseArms) (written : List ℕ → List ℕ) → Passes start line written (spell_cases others)
      → Passes start (f ty others line).1 (λ more. written (t ty level ++ more)) (spell_cases (f ty others line).0)

  reads_labelled : (labels : List ℤ) (body : List Stmt) → Each P body
      → ReadsCase (λ ty level. labelled_text ty level labels (texts_at (level + 2) (texts body)))
      (λ ty others line. arm_with_labels ty others line labels (froms body))
  reads_labelled [] body h ty level start line others written before more ks r = before more ks r
  reads_labelled (n ∷ ns) body h ty level start line others written before more ks r =
      before _ _ (simp append_assoc (reads_line _ _ _ (simp append_assoc (reads_labels ty n ns line _ _ refl
      (reads_last_colon (reads_line_end (reads_all body (level + 2) (line_after line) h more ks r)))))))

  reads_case_arm : (a : CaseArm) → Each P a.body → ReadsCase (case_text names a) (case_from names a)
  reads_case_arm a h =
      rw (
        fold_out-CaseArm Text ArmText CaseText (spelling.statement_step names) (spelling.arm_step names) spelling.case_step a,
        fold_out-CaseArm FromLine ArmFromLine CaseFromLine (canonical.statement_step names) (canonical.arm_step names) canonical.case_step a,
      )
      (reads_labelled a.labels a.body h)

  reads_cases : (ty : StType) (others : CaseArms) (xs : List CaseArm) (level start line : ℕ) (written : List ℕ → List ℕ) → Each (InCase P) xs
      → Passes start line written (spell_cases others)
      → Passes start (cases_from ty others line (map (case_from names) xs)).1
      (λ more. written (flat_map (λ (a : CaseText). a ty level) (map (case_text names) xs) ++ more))
      (spell_cases (cases_from ty others line (map (case_from names) xs)).0)
  reads_cases ty others [] level start line written h before more ks r = before more ks r
  reads_cases ty others (x ∷ xs) level start line written h before more ks r =
      let here : Placed CaseArms = case_from names x ty others line in
      simp append_assoc (reads_cases ty here.0 xs level start here.1 (λ bytes. written (case_text names x ty level ++ bytes)) h.1
      (reads_case_arm x h.0 ty level start line others written before) more ks r)

  -- ELSE with its statements
  reads_else : (x : Stmt) (xs : List Stmt) (level line : ℕ) → Each P (x ∷ xs)
      → Passes line (body_from (line_after line) (froms (x ∷ xs))).1 (λ more. else_text level (texts (x ∷ xs)) ++ more)
      (λ ks. kind.Fixed fixed.Else ∷ spell_all (body_from (line_after line) (froms (x ∷ xs))).0 ks)
  reads_else x xs level line h more ks r =
      reads_as (append_assoc (line_text level (codes "ELSE")) (texts_at (level + 1) (texts (x ∷ xs))) more)
      (reads_line _ _ _ (reads_fixed fixed.Else refl refl (reads_line_end (reads_all (x ∷ xs) (level + 1) (line_after line) h more ks r))))

  -- a word alone on the last line of a statement
  reads_last : (level : ℕ) (f : Fixed) (line : ℕ) → is_keyword (fixed_text f) ≡ true
      → Passes line (line_after line) (λ more. line_text level (fixed_text f ++ codes ";") ++ more) (λ ks. kind.Fixed f ∷ kind.Fixed fixed.Semicolon ∷ ks)
  reads_last level f line h more ks r = reads_line _ _ _ (simp append_assoc (reads_fixed f h refl (reads_semicolon (reads_line_end r))))

  -- One statement of each kind

  write_word : {line : ℕ} {more : List ℕ} {ks : List GrammarKind} (w : Width) → ends_word more ≡ true → ReadsOn line more ks
      → ReadsOn line (codes "AREA_WRITE_" ++ (width_word w ++ more)) (kind.Lead (lead.AreaWrite w) (on line) ∷ ks)
  write_word width.Bit ends r = reads_lead (lead.AreaWrite width.Bit) ends r
  write_word w ends r = reads_lead (lead.AreaWrite w) ends r

  reads_assign : (v : Var) (e : Expr) → ReadsStmt (λ level. line_text level (var_text names v ++ codes " := " ++ expr_text names e ++ codes ";"))
      (λ line. canonical.one_line line (assign (on line) (raw_var names v) (expr_form names line e)))
  reads_assign v e level line more ks r =
      reads_line _ _ _
      (simp append_assoc
      (reads_var names v refl (reads_blank (reads_becomes (reads_blank (reads_expr names line e refl (reads_semicolon (reads_line_end r))))))))

  reads_write : (w : Width) (p e : Expr)
      → ReadsStmt
      (λ level. line_text level (codes "AREA_WRITE_" ++ width_word w ++ codes "(" ++ expr_text names p ++ codes ", " ++ expr_text names e ++ codes ");"))
      (λ line. canonical.one_line line (write (on line) w (expr_form names line p) (expr_form names line e)))
  reads_write w p e level line more ks r =
      reads_line _ _ _ (simp append_assoc (write_word w refl (opens (expr_form names line p) _ (reads_expr names line p refl
      (reads_comma (reads_blank (reads_expr names line e refl (reads_close (reads_semicolon (reads_line_end r))))))))))

  reads_invoke : (unit : Option Pou) (vars : List Var) → ReadsStmt (λ level. line_text level (call_text names unit vars))
      (λ line. canonical.one_line line (invoke (on line) (unit_name unit) (actuals_from names line no_actual (formals_of unit) vars)))
  reads_invoke unit vars level line more ks r =
      reads_line _ _ _
      (simp append_assoc (reads_name (unit_name unit) refl (reads_open (actuals_begin (actuals_from names line no_actual (formals_of unit) vars) _ refl)
      (reads_actuals (formals_of unit) vars line _ _ refl (reads_close (reads_semicolon (reads_line_end r)))))))

  reads_if : (arms : List Arm) (other : List Stmt) → Each (InArm P) arms → Each P other
      → ReadsStmt (λ level. arms_text level (map (arm_text names) arms) ++ else_text level (texts other) ++ line_text level (codes "END_IF;"))
      (λ line. choice_from line (arms_from no_arm line (map (arm_from names) arms)) (froms other))
  reads_if arms [] h g level line more ks r =
      reads_as (two (arms_text level (map (arm_text names) arms)) [] (line_text level (codes "END_IF;")) more) (reads_arms arms level line h _ _
      (reads_last level fixed.EndIf _ refl more ks r))
  reads_if arms (x ∷ xs) h g level line more ks r =
      reads_as (two _ (else_text level (texts (x ∷ xs))) _ _)
      (reads_arms arms level line h _ _ (reads_else x xs level _ g _ _ (reads_last level fixed.EndIf _ refl more ks r)))

  -- the line of a CASE up to OF
  reads_of : (e : Expr) (level line : ℕ) → Passes line (line_after line) (λ more. line_text level (codes "CASE " ++ expr_text names e ++ codes " OF") ++ more)
      (λ ks. kind.Lead lead.Case (on line) ∷ spell (expr_form names line e) (kind.Fixed fixed.Of ∷ ks))
  reads_of e level line more ks r =
      reads_line _ _ _
      (simp append_assoc
      (reads_lead lead.Case refl (reads_blank (reads_expr names line e refl (reads_blank (reads_fixed fixed.Of refl refl (reads_line_end r)))))))

  reads_case : (e : Expr) (arms : List CaseArm) (other : List Stmt) → Each (InCase P) arms → Each P other
      → ReadsStmt (λ level. line_text level (codes "CASE " ++ expr_text names e ++ codes " OF")
      ++ flat_map (λ (a : CaseText). a (type_of names e) level) (map (case_text names) arms)
      ++ else_text level (texts other) ++ line_text level (codes "END_CASE;"))
      (λ line. canonical.cases_else_from line (expr_form names line e)
      (cases_from (type_of names e) no_case (line_after line) (map (case_from names) arms)) (froms other))
  reads_case e arms [] h g level line more ks r =
      reads_as
      (three (line_text level _) (flat_map (λ (a : CaseText). a (type_of names e) level) (map (case_text names) arms))
      [] (line_text level (codes "END_CASE;")) more)
      (reads_of e level line _ _ (reads_cases (type_of names e) no_case arms level _ _ (λ bytes. bytes) h (λ bytes ls rest. rest) _ _
      (reads_last level fixed.EndCase _ refl more ks r)))
  reads_case e arms (x ∷ xs) h g level line more ks r =
      reads_as (three _ _ (else_text level (texts (x ∷ xs))) _ _)
      (reads_of e level line _ _ (reads_cases (type_of names e) no_case arms level _ _ (λ bytes. bytes) h
      (λ bytes ls rest. rest) _ _
      (reads_else x xs level _ g _ _ (reads_last level fixed.EndCase _ refl more ks r))))

  reads_while : (e : Expr) (body : List Stmt) → Each P body
      → ReadsStmt (λ level. line_text level (codes "WHILE " ++ expr_text names e ++ codes " DO")
      ++ texts_at (level + 1) (texts body) ++ line_text level (codes "END_WHILE;"))
      (λ line. canonical.loop_from line (expr_form names line e) (body_from (line_after line) (froms body)))
  reads_while e body h level line more ks r =
      simp append_assoc (reads_line _ _ _ (simp append_assoc (reads_lead lead.While refl (reads_blank (reads_expr names line e refl (reads_blank
      (reads_fixed fixed.Do refl refl
      (reads_line_end (reads_all body (level + 1) (line_after line) h _ _ (reads_last level fixed.EndWhile _ refl more ks r))))))))))

  reads_jump : (word : Jump)
      → ReadsStmt (λ level. line_text level (lead_text (lead.Jump word) ++ codes ";")) (λ line. canonical.one_line line (jump (on line) word))
  reads_jump word level line more ks r = reads_line _ _ _ (simp append_assoc (reads_lead (lead.Jump word) refl (reads_semicolon (reads_line_end r))))

  abbrev given_text : S.Stmt-F Stmt Arm CaseArm → Text
  given_text x = spelling.statement_step names (map-Stmt Stmt Arm CaseArm Text ArmText CaseText (statement_text names) (arm_text names) (case_text names) x)

  abbrev given_from : S.Stmt-F Stmt Arm CaseArm → FromLine
  given_from x =
      canonical.statement_step names (map-Stmt Stmt Arm CaseArm FromLine ArmFromLine CaseFromLine (statement_from names) (arm_from names) (case_from names) x)

  rolled : (x : S.Stmt-F Stmt Arm CaseArm) → ReadsStmt (given_text x) (given_from x) → P (roll-Stmt x)
  rolled x r =
      subst (λ (t : Text). ReadsStmt t (statement_from names (roll-Stmt x))) (sym (fold-roll-Stmt Text ArmText CaseText (spelling.statement_step names)
      (spelling.arm_step names) spelling.case_step x))
      (subst (λ (f : FromLine). ReadsStmt (given_text x) f)
      (sym (fold-roll-Stmt FromLine ArmFromLine CaseFromLine (canonical.statement_step names) (canonical.arm_step names) canonical.case_step x)) r)

  steps : StmtSteps P
  steps = record {
    assign = λ v e. subst P (stmt.rolls-Assign v e) (rolled (S.Assign v e) (reads_assign v e));
    area_write = λ w p e. subst P (stmt.rolls-AreaWrite w p e) (rolled (S.AreaWrite w p e) (reads_write w p e));
    invoke = λ n vars. subst P (stmt.rolls-Invoke n vars) (rolled (S.Invoke n vars) (reads_invoke (slice_get names.units n) vars));
    choice = λ arms other h g. subst P (stmt.rolls-If arms other) (rolled (S.If arms other) (reads_if arms other h g));
    selection = λ e arms other h g. subst P (stmt.rolls-Case e arms other) (rolled (S.Case e arms other) (reads_case e arms other h g));
    loop = λ e body h. subst P (stmt.rolls-While e body) (rolled (S.While e body) (reads_while e body h));
    exit = subst P stmt.rolls-Exit (rolled S.Exit (reads_jump jump_word.Exit));
    continue = subst P stmt.rolls-Continue (rolled S.Continue (reads_jump jump_word.Continue));
    return = subst P stmt.rolls-Return (rolled S.Return (reads_jump jump_word.Return));
  }

  -- the statements of a body
  pub reads_body : (body : List Stmt) (level line : ℕ)
      → Passes line (body_from line (map (statement_from names) body)).1
      (λ more. body_text names level body ++ more) (spell_all (body_from line (map (statement_from names) body)).0)
  reads_body body level line = reads_all body level line (every_body P steps body)

-- What is made of well typed statements does the same, in each state that fits.
use Rattle.std.proofs.Common.{◌≡◌, ℕ, zero, suc, ◌-◌, Bool, true, false, not, if◌then◌else◌, ℤ, pos, List, [], ◌∷◌, ◌++◌, map, slice_get, Result, Ok, Err, refl, sym, ap, ◌∙◌, subst}
use Rattle.std.specs.List.{list_any}
use Rattle.std.specs.Ordering.{int_eq}
use Rattle.std.proofs.lemmas.Bool.Decides.{Decides-int_eq}
use Rattle.std.proofs.lemmas.List.{map-append}
use Rattle.condition_laws.specs.inner.Negation.{negation}
use Rattle.condition_laws.specs.inner.Rewriting.{is_always, otherwise}
use Rattle.condition_laws.proofs.Negations.{AreOpposite, negation_opposite}
use Rattle.condition_laws.proofs.Rewrites.{Rules, arms_with, bodies, cases_with, handed_on}
use Rattle.condition_laws.proofs.Typed.{append_typed, both_hold, loop_parts, typed_rules}
use Rattle.s7_base.specs.declared.outcome.Fault.{Fault}
use Rattle.st_tree.proofs.Equations.{meaning_area_write, meaning_arm, meaning_assign, meaning_case, meaning_case_arm, meaning_continue, meaning_exit, meaning_if, meaning_invoke, meaning_return, meaning_while, value_literal}
use Rattle.st_tree.proofs.FittingCalls.{statements_keep}
use Rattle.st_tree.proofs.Induction.{Each}
use Rattle.st_tree.proofs.TypedParts.{body_of_case, parts_of_arm, parts_of_arms, parts_of_body, parts_of_case, parts_of_cases, parts_of_if, parts_of_while}
use Rattle.st_tree.proofs.TypingEquations.{good_invoke}
use Rattle.st_tree.specs.Fitting.{CallsFit, EndsFit, Fits}
use Rattle.st_tree.specs.Meaning.{Calls, Continues, Exits, Faults, Guarded, NoUnits, Normal, Out, Returns, Sem, after_body, arm_meaning, body_meaning, case_meaning, first_true, first_with, in_order, meaning, then_do, turns, with_value}
use Rattle.st_tree.specs.State.{State}
use Rattle.st_tree.specs.Value.{Worth, value}
use Rattle.st_tree.specs.declared.state.Value.{Value}
use Rattle.st_tree.specs.Values.{is_set}
use Rattle.st_tree.specs.WellTyped.{UnitScope, are_well_typed, each, each_case, expression_type, has_type, head_of, is_arm, is_call, is_case_arm, is_well_typed, unit_scope_in}
use Rattle.st_tree.specs.declared.expr.Expr.{Expr}
use Rattle.st_tree.specs.declared.expr.Expr.TheVariants as expr
use Rattle.st_tree.specs.declared.expr.StType.{StType}
use Rattle.st_tree.specs.declared.expr.StType.TheVariants as type
use Rattle.st_tree.specs.declared.expr.Var.{Var}
use Rattle.st_tree.specs.declared.program.Arm.{Arm}
use Rattle.st_tree.specs.declared.program.CaseArm.{CaseArm}
use Rattle.st_tree.specs.declared.program.Located.{Located}
use Rattle.st_tree.specs.declared.program.Pou.{Pou}
use Rattle.st_tree.specs.declared.program.StProgram.{StProgram}
use Rattle.st_tree.specs.declared.program.Stmt.{Stmt}
use Rattle.st_tree.specs.declared.program.Stmt.TheVariants as stmt

-- Ends

-- nothing follows
pub alone : (o : Out) → then_do o (in_order []) ≡ o
alone (Normal u s) = refl
alone (Exits u s) = refl
alone (Continues u s) = refl
alone (Returns u s) = refl
alone (Faults f s) = refl
alone (NoUnits s) = refl

then_then : (o : Out) (f : Sem) (xs : List Sem) → ((u : ℕ) (s : State) → f u s ≡ in_order xs u s)
    → then_do o f ≡ then_do o (in_order xs)
then_then (Normal u s) f xs h = h u s
then_then (Exits u s) f xs h = refl
then_then (Continues u s) f xs h = refl
then_then (Returns u s) f xs h = refl
then_then (Faults e s) f xs h = refl
then_then (NoUnits s) f xs h = refl

grouped : (o : Out) (f g : Sem) → then_do (then_do o f) g ≡ then_do o (λ u s. then_do (f u s) g)
grouped (Normal u s) f g = refl
grouped (Exits u s) f g = refl
grouped (Continues u s) f g = refl
grouped (Returns u s) f g = refl
grouped (Faults e s) f g = refl
grouped (NoUnits s) f g = refl

same_next : (o : Out) (f g : Sem) → ((u : ℕ) (s : State) → f u s ≡ g u s) → then_do o f ≡ then_do o g
same_next (Normal u s) f g h = h u s
same_next (Exits u s) f g h = refl
same_next (Continues u s) f g h = refl
same_next (Returns u s) f g h = refl
same_next (Faults e s) f g h = refl
same_next (NoUnits s) f g h = refl

-- statements, and then others
pub in_order_append : (xs ys : List Sem) (u : ℕ) (s : State)
    → then_do (in_order xs u s) (in_order ys) ≡ in_order (xs ++ ys) u s
in_order_append [] ys u s = refl
in_order_append (x ∷ xs) ys u s =
    grouped (x u s) (in_order xs) (in_order ys)
    ∙ same_next (x u s) (λ v t. then_do (in_order xs v t) (in_order ys)) (in_order (xs ++ ys))
    (λ v t. in_order_append xs ys v t)

valued : (r : Result Value Fault) (u : ℕ) (s : State) (f g : Value → Out) → ((v : Value) → f v ≡ g v)
    → with_value r u s f ≡ with_value r u s g
valued (Ok v) u s f g h = h v
valued (Err e) u s f g h = refl

picked : (b : Bool) (o p q r : Out) → o ≡ q → p ≡ r → (if b then o else p) ≡ (if b then q else r)
picked true o p q r h k = h
picked false o p q r h k = k

-- Choices

-- what follows ELSE counts only in this state
other_alike : (arms : List Guarded) (f g : Sem) (u : ℕ) (s : State) → f u s ≡ g u s
    → first_true arms f u s ≡ first_true arms g u s
other_alike [] f g u s h = h
other_alike (x ∷ xs) f g u s h =
    valued (x.0 s) u s _ _
    (λ v. picked (is_set v) (x.1 u s) (first_true xs f u s) (x.1 u s) (first_true xs g u s) refl (other_alike xs f g u s h))

-- arms and then others
arms_append : (xs ys : List Guarded) (f : Sem) (u : ℕ) (s : State)
    → first_true xs (first_true ys f) u s ≡ first_true (xs ++ ys) f u s
arms_append [] ys f u s = refl
arms_append (x ∷ xs) ys f u s =
    valued (x.0 s) u s _ _
    (λ v. picked (is_set v) (x.1 u s) (first_true xs (first_true ys f) u s) (x.1 u s) (first_true (xs ++ ys) f u s) refl
    (arms_append xs ys f u s))

-- a test that is always met
always_set : (g : List Located) (e : Expr) (s : State) → is_always e ≡ true → (v : Value) × (value g e s ≡ Ok v) × (is_set v ≡ true)
always_set g (expr.Literal ty n) s h =
    let one : n ≡ pos 1 = (Decides-int_eq n (pos 1)).0 h in
    (record { ty = ty; n = n }, value_literal g ty n s, ap (λ (z : ℤ). not (int_eq z (pos 0))) one)
always_set g e s h = cc

-- Statements by what calls do

module _ (g : List Located) (c : Calls) where
  pub one_means : (x : Stmt) (u : ℕ) (s : State) → body_meaning g c (x ∷ []) u s ≡ meaning g c x u s
  one_means x u s = alone (meaning g c x u s)

  -- an ELSE that is one IF
  join_means : (arms more : List Arm) (last : List Stmt) (u : ℕ) (s : State)
      → meaning g c (stmt.If arms (stmt.If more last ∷ [])) u s ≡ meaning g c (stmt.If (arms ++ more) last) u s
  join_means arms more last u s =
      meaning_if g c u s arms (stmt.If more last ∷ [])
      ∙ (other_alike (map (arm_meaning g c) arms) (body_meaning g c (stmt.If more last ∷ []))
      (first_true (map (arm_meaning g c) more) (body_meaning g c last)) u s
      (one_means (stmt.If more last) u s ∙ meaning_if g c u s more last)
      ∙ (arms_append (map (arm_meaning g c) arms) (map (arm_meaning g c) more) (body_meaning g c last) u s
      ∙ (ap (λ (arms : List Guarded). first_true arms (body_meaning g c last) u s) (sym (map-append (arm_meaning g c) arms more))
      ∙ sym (meaning_if g c u s (arms ++ more) last))))

  bodies_append : (xs ys : List Stmt) (u : ℕ) (s : State)
      → then_do (body_meaning g c xs u s) (body_meaning g c ys) ≡ body_meaning g c (xs ++ ys) u s
  bodies_append xs ys u s =
      in_order_append (map (meaning g c) xs) (map (meaning g c) ys) u s
      ∙ ap (λ (ms : List Sem). in_order ms u s) (sym (map-append (meaning g c) xs ys))

  otherwise_means : (more : List Arm) (other : List Stmt) (u : ℕ) (s : State)
      → first_true (map (arm_meaning g c) more) (body_meaning g c other) u s ≡ body_meaning g c (otherwise more other) u s
  otherwise_means [] other u s = refl
  otherwise_means (x ∷ xs) other u s = sym (one_means (stmt.If (x ∷ xs) other) u s ∙ meaning_if g c u s (x ∷ xs) other)

-- Loops in states that fit

module _ (tree : StProgram) (waiting : List Pou) (unit : Pou) where
  abbrev sight : UnitScope
  sight = unit_scope_in tree unit

  abbrev Ends : Out → Type 0
  Ends o = EndsFit tree waiting unit o

  -- two things do the same in each state that fits
  abbrev pub Alike : Sem → Sem → Type 0
  Alike f h = (u : ℕ) (s : State) → Fits tree waiting unit s → f u s ≡ h u s

  abbrev Keeps : Sem → Type 0
  Keeps f = (u : ℕ) (s : State) → Fits tree waiting unit s → Ends (f u s)

  then_alike : (o : Out) (f h : Sem) → Ends o → Alike f h → then_do o f ≡ then_do o h
  then_alike (Normal u s) f h e same = same u s e
  then_alike (Exits u s) f h e same = refl
  then_alike (Continues u s) f h e same = refl
  then_alike (Returns u s) f h e same = refl
  then_alike (Faults x s) f h e same = refl
  then_alike (NoUnits s) f h e same = refl

  body_alike : (o : Out) (f h : Sem) → Ends o → Alike f h → after_body o f ≡ after_body o h
  body_alike (Normal u s) f h e same = same u s e
  body_alike (Continues u s) f h e same = same u s e
  body_alike (Exits u s) f h e same = refl
  body_alike (Returns u s) f h e same = refl
  body_alike (Faults x s) f h e same = refl
  body_alike (NoUnits s) f h e same = refl

  turns_alike : (most : ℕ) (test : Worth) (f h : Sem) → Keeps h → Alike f h → Alike (turns most test f) (turns most test h)
  turns_alike zero test f h keeps same u s fits = refl
  turns_alike (suc most) test f h keeps same zero s fits = refl
  turns_alike (suc most) test f h keeps same (suc u) s fits =
      valued (test s) u s _ _
      (λ v. picked (is_set v) (after_body (f u s) (turns most test f)) (Normal u s) (after_body (h u s) (turns most test h)) (Normal u s)
      (ap (λ (o : Out). after_body o (turns most test f)) (same u s fits)
      ∙ body_alike (h u s) (turns most test f) (turns most test h) (keeps u s fits) (turns_alike most test f h keeps same)) refl)

  -- a loop whose body first leaves where a test is FALSE
  abbrev Splits : Worth → Sem → Sem → Type 0
  Splits test old new = (u : ℕ) (s : State) → Fits tree waiting unit s
      → old u s ≡ with_value (test s) u s (λ v. if is_set v then new u s else Exits u s)

  turn_split : (r : Result Value Fault) (u : ℕ) (s : State) (new again next : Sem)
      → after_body (new u s) again ≡ after_body (new u s) next
      → after_body (with_value r u s (λ v. if is_set v then new u s else Exits u s)) again
      ≡ with_value r u s (λ v. if is_set v then after_body (new u s) next else Normal u s)
  turn_split (Err f) u s new again next h = refl
  turn_split (Ok v) u s new again next h = by (is_set v)
    where
      by : (b : Bool) → after_body (if b then new u s else Exits u s) again ≡ (if b then after_body (new u s) next else Normal u s)
      by true = h
      by false = refl

  turn_always : (r : Result Value Fault) (v : Value) (u : ℕ) (s : State) (o p : Out) → r ≡ Ok v → is_set v ≡ true
      → with_value r u s (λ v. if is_set v then o else p) ≡ o
  turn_always r v u s o p e h = rw (e, h) refl

  turns_split : (always : Expr) → is_always always ≡ true → (most : ℕ) (test : Worth) (old new : Sem) → Keeps new
      → Splits test old new → Alike (turns most (value tree.globals always) old) (turns most test new)
  turns_split always a zero test old new keeps split u s fits = refl
  turns_split always a (suc most) test old new keeps split zero s fits = refl
  turns_split always a (suc most) test old new keeps split (suc u) s fits =
      let set = always_set tree.globals always s a in
      turn_always (value tree.globals always s) set.0 u s (after_body (old u s) (turns most (value tree.globals always) old)) (Normal u s) set.1 set.2
      ∙ (ap (λ (o : Out). after_body o (turns most (value tree.globals always) old)) (split u s fits)
      ∙ turn_split (test s) u s new (turns most (value tree.globals always) old) (turns most test new)
      (body_alike (new u s) (turns most (value tree.globals always) old) (turns most test new) (keeps u s fits)
      (turns_split always a most test old new keeps split)))

  -- then_do in both arms of a choice
  then_choice : (r : Result Value Fault) (u : ℕ) (s : State) (o p : Out) (f : Sem)
      → then_do (with_value r u s (λ v. if is_set v then o else p)) f
      ≡ with_value r u s (λ v. if is_set v then then_do o f else then_do p f)
  then_choice (Err e) u s o p f = refl
  then_choice (Ok v) u s o p f = by (is_set v)
    where
      by : (b : Bool) → then_do (if b then o else p) f ≡ (if b then then_do o f else then_do p f)
      by true = refl
      by false = refl

  -- a choice by a test, and by its opposite
  turned : (r q : Result Value Fault) (u : ℕ) (s : State) (o p : Out) → AreOpposite r q
      → with_value r u s (λ v. if is_set v then o else p) ≡ with_value q u s (λ v. if is_set v then p else o)
  turned (Err f) q u s o p h = rw h refl
  turned (Ok v) q u s o p h =
      by (is_set v) (is_set h.0) h.2 ∙ ap (λ (r : Result Value Fault). with_value r u s (λ v. if is_set v then p else o)) (sym h.1)
    where
      by : (b d : Bool) → d ≡ not b → (if b then o else p) ≡ (if d then p else o)
      by true false e = refl
      by false true e = refl
      by b d e = cc

  -- The rules

  module _ (c d : Calls) (fit_c : CallsFit tree c) (fit_d : CallsFit tree d)
      (same : (n : ℕ) (vars : List Var) → is_call sight (slice_get (map head_of tree.pous) n) vars ≡ true → Alike (c n vars) (d n vars))
    where
      abbrev first : List Stmt → Sem
      first xs = body_meaning tree.globals c xs

      abbrev second : List Stmt → Sem
      second xs = body_meaning tree.globals d xs

      abbrev Same : ℕ → List Stmt → List Stmt → Type 0
      Same room xs ys = (inside : Bool) → are_well_typed sight inside xs ≡ true
          → (are_well_typed sight inside ys ≡ true) × Alike (first xs) (second ys)

      -- of statements that do the same, whatever is called
      one_same : (x y : Stmt) (u : ℕ) (s : State) → meaning tree.globals c x u s ≡ meaning tree.globals d y u s
          → first (x ∷ []) u s ≡ second (y ∷ []) u s
      one_same x y u s h = one_means tree.globals c x u s ∙ (h ∙ sym (one_means tree.globals d y u s))

      the_first : (x : Stmt) (inside : Bool) → are_well_typed sight inside (x ∷ []) ≡ true → is_well_typed sight x inside ≡ true
      the_first x inside h = (parts_of_body sight inside x [] h).0

      keeps_first : (xs : List Stmt) (inside : Bool) → are_well_typed sight inside xs ≡ true → Keeps (first xs)
      keeps_first xs inside good = statements_keep tree waiting unit c fit_c inside xs good

      keeps_second : (xs : List Stmt) (inside : Bool) → are_well_typed sight inside xs ≡ true → Keeps (second xs)
      keeps_second xs inside good = statements_keep tree waiting unit d fit_d inside xs good

      more_same : (x y : Stmt) (xs ys : List Stmt) (inside : Bool) → Alike (first (x ∷ [])) (second (y ∷ []))
          → Alike (first xs) (second ys) → are_well_typed sight inside (x ∷ []) ≡ true
          → Alike (first (x ∷ xs)) (second (y ∷ ys))
      more_same x y xs ys inside h k one u s fits =
          let is : meaning tree.globals c x u s ≡ meaning tree.globals d y u s
          = sym (one_means tree.globals c x u s) ∙ (h u s fits ∙ one_means tree.globals d y u s) in
          let ends : Ends (meaning tree.globals c x u s)
          = subst Ends (one_means tree.globals c x u s) (keeps_first (x ∷ []) inside one u s fits) in
          then_alike (meaning tree.globals c x u s) (first xs) (second ys) ends k
          ∙ ap (λ (o : Out). then_do o (second ys)) is

      arms_same : (room : ℕ) (inside : Bool) (g : List Stmt → List Stmt) (arms : List Arm) (other : List Stmt)
          → Each (λ (arm : Arm). Same room arm.body (g arm.body)) arms → each inside (map (is_arm sight) arms) ≡ true
          → Alike (first other) (second (g other))
          → Alike (first_true (map (arm_meaning tree.globals c) arms) (first other))
          (first_true (map (arm_meaning tree.globals d) (arms_with g arms)) (second (g other)))
      arms_same room inside g [] other all good h u s fits = h u s fits
      arms_same room inside g (x ∷ xs) other all good h u s fits =
          let parts = parts_of_arms sight inside x xs good in
          let own = (parts_of_arm sight inside x parts.0).1 in
          rw (meaning_arm tree.globals c x, meaning_arm tree.globals d (record { test = x.test; body = g x.body }))
          (valued (value tree.globals x.test s) u s _ _
          (λ v. picked (is_set v) (first x.body u s) (first_true (map (arm_meaning tree.globals c) xs) (first other) u s)
          (second (g x.body) u s) (first_true (map (arm_meaning tree.globals d) (arms_with g xs)) (second (g other)) u s)
          ((all.0 inside own).1 u s fits) (arms_same room inside g xs other all.1 parts.1 h u s fits)))

      cases_same : (room : ℕ) (inside : Bool) (ty : StType) (n : ℤ) (g : List Stmt → List Stmt) (arms : List CaseArm) (other : List Stmt)
          → Each (λ (arm : CaseArm). Same room arm.body (g arm.body)) arms → each_case ty inside (map (is_case_arm sight) arms) ≡ true
          → Alike (first other) (second (g other))
          → Alike (first_with n (map (case_meaning tree.globals c) arms) (first other))
          (first_with n (map (case_meaning tree.globals d) (cases_with g arms)) (second (g other)))
      cases_same room inside ty n g [] other all good h u s fits = h u s fits
      cases_same room inside ty n g (x ∷ xs) other all good h u s fits =
          let parts = parts_of_cases sight inside ty x xs good in
          let own = body_of_case sight inside x ty parts.0 in
          rw (meaning_case_arm tree.globals c x, meaning_case_arm tree.globals d (record { labels = x.labels; body = g x.body }))
          (picked (list_any (λ label. int_eq label n) x.labels) (first x.body u s) (first_with n (map (case_meaning tree.globals c) xs) (first other) u s)
          (second (g x.body) u s) (first_with n (map (case_meaning tree.globals d) (cases_with g xs)) (second (g other)) u s)
          ((all.0 inside own).1 u s fits) (cases_same room inside ty n g xs other all.1 parts.1 h u s fits))

      -- the typing of Same
      typing : (room : ℕ) (xs ys : List Stmt) → Same room xs ys → (inside : Bool) → are_well_typed sight inside xs ≡ true
          → are_well_typed sight inside ys ≡ true
      typing room xs ys h inside good = (h inside good).0

      arms_typing : (room : ℕ) (g : List Stmt → List Stmt) (arms : List Arm) → Each (λ (arm : Arm). Same room arm.body (g arm.body)) arms
          → Each (λ (arm : Arm). (inside : Bool) → are_well_typed sight inside arm.body ≡ true → are_well_typed sight inside (g arm.body) ≡ true) arms
      arms_typing room g [] all = tt
      arms_typing room g (x ∷ xs) all = (typing room x.body (g x.body) all.0, arms_typing room g xs all.1)

      cases_typing : (room : ℕ) (g : List Stmt → List Stmt) (arms : List CaseArm) → Each (λ (arm : CaseArm). Same room arm.body (g arm.body)) arms
          → Each (λ (arm : CaseArm). (inside : Bool) → are_well_typed sight inside arm.body ≡ true → are_well_typed sight inside (g arm.body) ≡ true) arms
      cases_typing room g [] all = tt
      cases_typing room g (x ∷ xs) all = (typing room x.body (g x.body) all.0, cases_typing room g xs all.1)

      -- loops that leave first

      lead_splits : (arm : Arm) (rest : List Stmt)
          → Splits (value tree.globals arm.test) (second (stmt.If (arm ∷ []) (stmt.Exit ∷ []) ∷ rest)) (second (arm.body ++ rest))
      lead_splits arm rest u s fits =
          ap (λ (o : Out). then_do o (second rest))
          (meaning_if tree.globals d u s (arm ∷ []) (stmt.Exit ∷ [])
          ∙ ap (λ (guarded : Guarded). first_true (guarded ∷ []) (second (stmt.Exit ∷ [])) u s) (meaning_arm tree.globals d arm))
          ∙ (then_choice (value tree.globals arm.test s) u s (second arm.body u s) (second (stmt.Exit ∷ []) u s) (second rest)
          ∙ valued (value tree.globals arm.test s) u s _ _
          (λ v. picked (is_set v) _ _ _ _ (bodies_append tree.globals d arm.body rest u s)
          (ap (λ (o : Out). then_do o (second rest)) (one_means tree.globals d stmt.Exit u s ∙ meaning_exit tree.globals d u s))))

      opposite_splits : (arm : Arm) (more : List Arm) (other rest : List Stmt) → arm.body ≡ stmt.Exit ∷ []
          → has_type type.Bool (expression_type sight arm.test) ≡ true
          → Splits (value tree.globals (negation arm.test)) (second (stmt.If (arm ∷ more) other ∷ rest))
          (second (otherwise more other ++ rest))
      opposite_splits arm more other rest is test u s fits =
          let tail : Sem = first_true (map (arm_meaning tree.globals d) more) (second other) in
          ap (λ (o : Out). then_do o (second rest))
          (meaning_if tree.globals d u s (arm ∷ more) other
          ∙ ap (λ (guarded : Guarded). first_true (guarded ∷ map (arm_meaning tree.globals d) more) (second other) u s) (meaning_arm tree.globals d arm))
          ∙ (then_choice (value tree.globals arm.test s) u s (second arm.body u s) (tail u s) (second rest)
          ∙ (turned (value tree.globals arm.test s) (value tree.globals (negation arm.test) s) u s
          (then_do (second arm.body u s) (second rest)) (then_do (tail u s) (second rest))
          (negation_opposite tree waiting unit s fits arm.test test)
          ∙ valued (value tree.globals (negation arm.test) s) u s _ _
          (λ v. picked (is_set v) _ _ _ _
          (ap (λ (o : Out). then_do o (second rest)) (otherwise_means tree.globals d more other u s)
          ∙ bodies_append tree.globals d (otherwise more other) rest u s)
          (ap (λ (o : Out). then_do o (second rest))
          (ap (λ (body : List Stmt). second body u s) is
          ∙ (one_means tree.globals d stmt.Exit u s ∙ meaning_exit tree.globals d u s))))))

      while_same : (always test : Expr) (old new : List Stmt) (u : ℕ) (s : State) → is_always always ≡ true → Keeps (second new)
          → Splits (value tree.globals test) (second old) (second new) → Fits tree waiting unit s
          → second (stmt.While always old ∷ []) u s ≡ second (stmt.While test new ∷ []) u s
      while_same always test old new u s a keeps split fits =
          one_means tree.globals d (stmt.While always old) u s
          ∙ (meaning_while tree.globals d u s always old
          ∙ (turns_split always a u (value tree.globals test) (second old) (second new) keeps split u s fits
          ∙ (sym (meaning_while tree.globals d u s test new) ∙ sym (one_means tree.globals d (stmt.While test new) u s))))

      same_rules : Rules Same
      same_rules =
          record {
            assign = λ room v e inside good. (
              good,
              λ u s fits.
                  one_same _ _ u s (meaning_assign tree.globals c u s v e ∙ sym (meaning_assign tree.globals d u s v e)),
            );
            area_write = λ room w p e inside good. (
              good,
              λ u s fits.
                  one_same _ _ u s (meaning_area_write tree.globals c u s w p e ∙ sym (meaning_area_write tree.globals d u s w p e)),
            );
            invoke = λ room n vars inside good. (
              good,
              λ u s fits.
                  let call = sym (good_invoke sight inside n vars) ∙ the_first (stmt.Invoke n vars) inside good in
                  one_same _ _ u s
                  (meaning_invoke tree.globals c u s n vars
                  ∙ (same n vars call u s fits ∙ sym (meaning_invoke tree.globals d u s n vars))),
            );
            exit = λ room inside good. (
              good,
              λ u s fits.
                  one_same _ _ u s (meaning_exit tree.globals c u s ∙ sym (meaning_exit tree.globals d u s)),
            );
            continue = λ room inside good. (
              good,
              λ u s fits.
                  one_same _ _ u s (meaning_continue tree.globals c u s ∙ sym (meaning_continue tree.globals d u s)),
            );
            return = λ room inside good. (
              good,
              λ u s fits.
                  one_same _ _ u s (meaning_return tree.globals c u s ∙ sym (meaning_return tree.globals d u s)),
            );
            none = λ room inside good. (good, λ u s fits. refl);
            more = λ room x y xs ys h k inside good.
                let parts = parts_of_body sight inside x xs good in
                let one = both_hold (is_well_typed sight x inside) true parts.0 refl in (
                  (typed_rules sight).more room x y xs ys (typing room (x ∷ []) (y ∷ []) h) (typing room xs ys k) inside good,
                  more_same x y xs ys inside (h inside one).1 (k inside parts.1).1 one,
                );
            choice = λ room g arms other all rest inside good.
                let parts = parts_of_if sight inside arms other (the_first (stmt.If arms other) inside good) in (
                  (typed_rules sight).choice room g arms other (arms_typing (room - 1) g arms all) (typing (room - 1) other (g other) rest) inside good,
                  λ u s fits. one_same _ _ u s
                      (meaning_if tree.globals c u s arms other
                      ∙ (arms_same (room - 1) inside g arms other all parts.0 (rest inside parts.1).1 u s fits
                      ∙ sym (meaning_if tree.globals d u s (arms_with g arms) (g other)))),
                );
            selection = λ room g e arms other all rest inside good.
                let parts = parts_of_case sight inside e arms other (the_first (stmt.Case e arms other) inside good) in (
                  (typed_rules sight).selection room g e arms other (cases_typing (room - 1) g arms all) (typing (room - 1) other (g other) rest) inside good,
                  λ u s fits. one_same _ _ u s
                      (meaning_case tree.globals c u s e arms other
                      ∙ (valued (value tree.globals e s) u s _ _
                      (λ v. cases_same (room - 1) inside parts.0.type v.n g arms other all parts.0.arms (rest inside parts.1).1 u s fits)
                      ∙ sym (meaning_case tree.globals d u s e (cases_with g arms) (g other)))),
                );
            loop = λ room g test body h inside good.
                let parts = parts_of_while sight inside test body (the_first (stmt.While test body) inside good) in
                let inner = h true parts.1 in (
                  (typed_rules sight).loop room g test body (typing (room - 1) body (g body) h) inside good,
                  λ u s fits. one_same _ _ u s
                      (meaning_while tree.globals c u s test body
                      ∙ (turns_alike u (value tree.globals test) (first body) (second (g body)) (keeps_second (g body) true inner.0) inner.1 u s fits
                      ∙ sym (meaning_while tree.globals d u s test (g body)))),
                );
            join = λ room xs arms more last h inside good. (
              (typed_rules sight).join room xs arms more last (typing room xs (stmt.If arms (stmt.If more last ∷ []) ∷ []) h) inside good,
              λ u s fits. (h inside good).1 u s fits
                  ∙ (one_means tree.globals d _ u s ∙ (join_means tree.globals d arms more last u s ∙ sym (one_means tree.globals d _ u s))),
            );
            lead = λ room xs always arm rest a some low h inside good.
                let parts = loop_parts sight inside always arm [] (stmt.Exit ∷ []) rest (h inside good).0 in (
                  (typed_rules sight).lead room xs always arm rest a some low
                      (typing room xs (stmt.While always (stmt.If (arm ∷ []) (stmt.Exit ∷ []) ∷ rest) ∷ []) h) inside good,
                  λ u s fits. (h inside good).1 u s fits
                      ∙ while_same always arm.test (stmt.If (arm ∷ []) (stmt.Exit ∷ []) ∷ rest) (arm.body ++ rest) u s a
                      (keeps_second (arm.body ++ rest) true (append_typed sight arm.body rest true parts.1 parts.4)) (lead_splits arm rest) fits,
                );
            opposite = λ room xs always arm more other rest a some low is h inside good.
                let parts = loop_parts sight inside always arm more other rest (h inside good).0 in
                let typed = (typed_rules sight).opposite room xs always arm more other rest a some low is
                (typing room xs (stmt.While always (stmt.If (arm ∷ more) other ∷ rest) ∷ []) h) inside good in
                let new = parts_of_while sight inside (negation arm.test) (otherwise more other ++ rest) (the_first _ inside typed) in (
                  typed,
                  λ u s fits. (h inside good).1 u s fits
                      ∙ while_same always (negation arm.test) (stmt.If (arm ∷ more) other ∷ rest) (otherwise more other ++ rest) u s a
                      (keeps_second (otherwise more other ++ rest) true new.1) (opposite_splits arm more other rest is parts.0) fits,
                );
          }

      pub body_same : (room : ℕ) (inside : Bool) (body : List Stmt) → are_well_typed sight inside body ≡ true
          → Alike (first body) (second (bodies room body))
      body_same room inside body good = (handed_on Same same_rules room body inside good).1

-- A statement by its parts: where it breaks no rule, and what it is.
use Rattle.st_tree.proofs.Common.{◌≡◌, ◌++◌, ℤ, Bool, true, false, ◌&&◌, cond, List, [], ◌∷◌, map, Option, Some, Ok, Err, refl, sym, ap, ◌∙◌, flat_map-append, Line, Width, type_of_width, is_selector, is_type}
use Rattle.s7_base.specs.declared.reason.Reason.TheVariants.{TypeMismatch}
use Rattle.st_reading_laws.proofs.Actions.{act_arm, act_at, act_case_arm, on_line, raw_arm, raw_case}
use Rattle.st_rules.proofs.Common.{Expr, StType, Stmt, RawArm, RawCaseArm, RawExpr, RawStmt, RawVar, Judged, breaks_in, breaks_rule, found_in, sound, judgement_on, expression, variable_on, Armed, Labelled, arm, arms_on, case_arm, case_arms_on, label_breaks, selector, statement, statements, type_of_selector, variable}
use Rattle.st_tree.specs.declared.expr.StType.TheVariants as type
use Rattle.st_tree.specs.declared.program.Arm.{Arm}
use Rattle.st_tree.specs.declared.program.CaseArm.{CaseArm}
use Rattle.st_tree.specs.declared.program.Stmt.TheVariants as stmt
use Rattle.st_tree.specs.declared.raw.RawStmtKind.TheOpen as K
use Rattle.st_tree.specs.declared.raw.RawStmtKind.TheVariants as raw
use Rattle.st_reading_laws.proofs.Lists.{both_nil, map_last, nil_first}
use Rattle.st_rules.specs.Statements.{test}
use Rattle.st_rules.specs.declared.expression.Typed.{Typed}
use Rattle.st_names.specs.declared.scope.NameScope.{NameScope}
use Rattle.st_names.specs.declared.variable.TypedVar.{TypedVar}

-- Lists

-- parts that have their place in the tree
abbrev pub AreSound : {T : Type 0} → List (Judged T) → List T → Type 0
AreSound js xs = js ≡ map sound xs

found_sound : {T : Type 0} (xs : List T) → found_in (map sound xs) ≡ xs
found_sound [] = refl
found_sound (x ∷ xs) = ap (λ l. x ∷ l) (found_sound xs)

breaks_sound : {T : Type 0} (xs : List T) → breaks_in (map (λ (x : T). sound x) xs) ≡ []
breaks_sound [] = refl
breaks_sound (x ∷ xs) = breaks_sound xs

pub found_of : {T : Type 0} (js : List (Judged T)) (xs : List T) → AreSound js xs → found_in js ≡ xs
found_of js xs h = ap found_in h ∙ found_sound xs

pub clean_of : {T : Type 0} (js : List (Judged T)) (xs : List T) → AreSound js xs → breaks_in js ≡ []
clean_of js xs h = ap breaks_in h ∙ breaks_sound xs

pub breaks_last : {T : Type 0} (js : List (Judged T)) (j : Judged T) → breaks_in (js ++ j ∷ []) ≡ [] → (breaks_in js ≡ []) × (j.breaks ≡ [])
breaks_last {T} js j h =
    let both = both_nil (breaks_in js) _ (sym (flat_map-append (λ (k : Judged T). k.breaks) js (j ∷ [])) ∙ h) in
    (both.0, nil_first j.breaks [] both.1)

-- a test holds where no rule is broken by it
held : {T : Type 0} (l : Line) (x : T) (b : Bool) → (cond b (sound x) (breaks_rule l TypeMismatch)).breaks ≡ [] → b ≡ true
held l x true q = refl
held l x false q = absurd cc

-- the values of some labels
abbrev pub values : List (StType × ℤ) → List ℤ
values labels = map (λ (label : StType × ℤ). label.1) labels

-- what a write through a pointer asks of its operands
abbrev pub writes : Width → Typed → Typed → Bool
writes w p e = is_type p.ty type.Dword && is_type e.ty (type_of_width w)

module _ (s : NameScope) (l : Line) where
  -- Tests and selectors

  pub test_is : (e : RawExpr) (t : Typed) → expression s l e ≡ sound t → is_type t.ty type.Bool ≡ true → test s l e ≡ sound t.tree
  test_is e t h b = rw (h, b) refl

  pub test_clean : (e : RawExpr) → (test s l e).breaks ≡ [] → (expression s l e).breaks ≡ []
  test_clean e h = nil_first _ _ h

  pub test_bool : (e : RawExpr) (t : Typed) → expression s l e ≡ sound t → (test s l e).breaks ≡ [] → is_type t.ty type.Bool ≡ true
  test_bool e t h c = held l t.tree (is_type t.ty type.Bool) (rw h at c)

  pub selector_is : (e : RawExpr) (t : Typed) → expression s l e ≡ sound t → is_selector t.ty ≡ true → selector s l e ≡ sound t
  selector_is e t h b = rw (h, b) refl

  pub selector_clean : (e : RawExpr) → (selector s l e).breaks ≡ [] → (expression s l e).breaks ≡ []
  selector_clean e h = nil_first _ _ h

  pub selector_type : (e : RawExpr) (t : Typed) → expression s l e ≡ sound t → (selector s l e).breaks ≡ [] → is_selector t.ty ≡ true
  selector_type e t h c = held l t (is_selector t.ty) (rw h at c)

  -- Assignments and writes

  pub variable_there : (v : RawVar) → (variable_on s l v).breaks ≡ [] → (x : TypedVar) × (variable s v ≡ Ok x)
  variable_there v h =
      (elim (variable s v) as (λ r. (judgement_on l r).breaks ≡ [] → (x : TypedVar) × (r ≡ Ok x)) [ Ok x ↦ λ q. (x, refl) | Err rule ↦ λ q. absurd cc ]) h

  pub assign_clean : (v : RawVar) (e : RawExpr) → (statement s (on_line l (raw.Assign v e))).breaks ≡ []
      → ((variable_on s l v).breaks ≡ []) × ((expression s l e).breaks ≡ [])
  assign_clean v e c = both_nil _ _ (nil_first _ _ (rw (act_at s l (K.Assign v e) (raw.rolls-Assign v e)) at c))

  pub assign_fits : (v : RawVar) (e : RawExpr) (x : TypedVar) (t : Typed) → variable s v ≡ Ok x → expression s l e ≡ sound t
      → (statement s (on_line l (raw.Assign v e))).breaks ≡ [] → is_type x.ty t.ty ≡ true
  assign_fits v e x t h g c =
      held l (stmt.Assign x.var t.tree) (is_type x.ty t.ty) (rw (act_at s l (K.Assign v e) (raw.rolls-Assign v e), h, g) at c)

  pub assign_is : (v : RawVar) (e : RawExpr) (x : TypedVar) (t : Typed) → variable s v ≡ Ok x → expression s l e ≡ sound t → is_type x.ty t.ty ≡ true
      → statement s (on_line l (raw.Assign v e)) ≡ sound (stmt.Assign x.var t.tree)
  assign_is v e x t h g b = rw (act_at s l (K.Assign v e) (raw.rolls-Assign v e), h, g, b) refl

  pub write_clean : (w : Width) (p e : RawExpr) → (statement s (on_line l (raw.AreaWrite w p e))).breaks ≡ []
      → ((expression s l p).breaks ≡ []) × ((expression s l e).breaks ≡ [])
  write_clean w p e c = both_nil _ _ (nil_first _ _ (rw (act_at s l (K.AreaWrite w p e) (raw.rolls-AreaWrite w p e)) at c))

  pub write_fits : (w : Width) (p e : RawExpr) (t u : Typed) → expression s l p ≡ sound t → expression s l e ≡ sound u
      → (statement s (on_line l (raw.AreaWrite w p e))).breaks ≡ [] → writes w t u ≡ true
  write_fits w p e t u h g c =
      held l (stmt.AreaWrite w t.tree u.tree) (writes w t u) (rw (act_at s l (K.AreaWrite w p e) (raw.rolls-AreaWrite w p e), h, g) at c)

  pub write_is : (w : Width) (p e : RawExpr) (t u : Typed) → expression s l p ≡ sound t → expression s l e ≡ sound u → writes w t u ≡ true
      → statement s (on_line l (raw.AreaWrite w p e)) ≡ sound (stmt.AreaWrite w t.tree u.tree)
  write_is w p e t u h g b = rw (act_at s l (K.AreaWrite w p e) (raw.rolls-AreaWrite w p e), h, g, b) refl

  -- IF

  pub if_clean : (arms : List RawArm) (bs : List RawStmt) → (statement s (on_line l (raw.If arms bs))).breaks ≡ []
      → (breaks_in (arms_on l (map (arm s) arms)) ≡ []) × (breaks_in (statements s bs) ≡ [])
  if_clean arms bs c = both_nil _ _ (rw (act_at s l (K.If arms bs) (raw.rolls-If arms bs)) at c)

  pub if_is : (arms : List RawArm) (bs : List RawStmt) (xs : List Arm) (ys : List Stmt)
      → AreSound (arms_on l (map (arm s) arms)) xs → AreSound (statements s bs) ys
      → statement s (on_line l (raw.If arms bs)) ≡ sound (stmt.If xs ys)
  if_is arms bs xs ys h g = rw (act_at s l (K.If arms bs) (raw.rolls-If arms bs), h, g) (simp (found_sound, breaks_sound))

  -- CASE

  pub case_clean : (e : RawExpr) (arms : List RawCaseArm) (bs : List RawStmt) → (statement s (on_line l (raw.Case e arms bs))).breaks ≡ []
      → ((selector s l e).breaks ≡ []) × (breaks_in (case_arms_on l (type_of_selector (selector s l e).found) (map (case_arm s) arms)) ≡ [])
      × (breaks_in (statements s bs) ≡ [])
  case_clean e arms bs c =
      let all = both_nil _ _ (rw (act_at s l (K.Case e arms bs) (raw.rolls-Case e arms bs)) at c) in
      let first = both_nil _ _ all.0 in
      (first.0, first.1, all.1)

  pub case_is : (e : RawExpr) (arms : List RawCaseArm) (bs : List RawStmt) (t : Typed) (xs : List CaseArm) (ys : List Stmt) → selector s l e ≡ sound t
      → AreSound (case_arms_on l (Some t.ty) (map (case_arm s) arms)) xs → AreSound (statements s bs) ys
      → statement s (on_line l (raw.Case e arms bs)) ≡ sound (stmt.Case t.tree xs ys)
  case_is e arms bs t xs ys f h g =
      let found = ap (λ (j : Judged Typed). j.found) f in
      let clean = ap (λ (j : Judged Typed). j.breaks) f in
      rw (act_at s l (K.Case e arms bs) (raw.rolls-Case e arms bs), found, clean, h, g) (simp (found_sound, breaks_sound))

  -- WHILE

  pub while_clean : (e : RawExpr) (bs : List RawStmt) → (statement s (on_line l (raw.While e bs))).breaks ≡ []
      → ((test s l e).breaks ≡ []) × (breaks_in (statements s bs) ≡ [])
  while_clean e bs c = both_nil _ _ (rw (act_at s l (K.While e bs) (raw.rolls-While e bs)) at c)

  pub while_is : (e : RawExpr) (bs : List RawStmt) (x : Expr) (ys : List Stmt) → test s l e ≡ sound x → AreSound (statements s bs) ys
      → statement s (on_line l (raw.While e bs)) ≡ sound (stmt.While x ys)
  while_is e bs x ys h g =
      let found = ap (λ (j : Judged Expr). j.found) h in
      let clean = ap (λ (j : Judged Expr). j.breaks) h in
      rw (act_at s l (K.While e bs) (raw.rolls-While e bs), found, clean, g) (simp (found_sound, breaks_sound))

  -- Arms

  pub arm_clean : (e : RawExpr) (bs : List RawStmt) → (arm s (raw_arm e bs) l).breaks ≡ [] → ((test s l e).breaks ≡ []) × (breaks_in (statements s bs) ≡ [])
  arm_clean e bs c = both_nil _ _ (rw (act_arm s e bs) at c)

  pub arm_is : (e : RawExpr) (bs : List RawStmt) (x : Expr) (ys : List Stmt) → test s l e ≡ sound x → AreSound (statements s bs) ys
      → arm s (raw_arm e bs) l ≡ sound (record { test = x; body = ys })
  arm_is e bs x ys h g =
      let found = ap (λ (j : Judged Expr). j.found) h in
      let clean = ap (λ (j : Judged Expr). j.breaks) h in
      rw (act_arm s e bs, found, clean, g) (simp (found_sound, breaks_sound))

  pub case_arm_clean : (ty : StType) (labels : List (StType × ℤ)) (bs : List RawStmt) → (case_arm s (raw_case labels bs) l (Some ty)).breaks ≡ []
      → (label_breaks l (Some ty) labels ≡ []) × (breaks_in (statements s bs) ≡ [])
  case_arm_clean ty labels bs c = both_nil _ _ (rw (act_case_arm s labels bs) at c)

  pub case_arm_is : (ty : StType) (labels : List (StType × ℤ)) (bs : List RawStmt) (ns : List ℤ) (ys : List Stmt)
      → label_breaks l (Some ty) labels ≡ [] → values labels ≡ ns
      → AreSound (statements s bs) ys → case_arm s (raw_case labels bs) l (Some ty) ≡ sound (record { labels = ns; body = ys })
  case_arm_is ty labels bs ns ys h f g = rw (act_case_arm s labels bs, h, f, g) (simp (found_sound, breaks_sound))

-- Lists, with one part more

pub statements_last : (s : NameScope) (rs : List RawStmt) (r : RawStmt) (xs : List Stmt) (x : Stmt)
    → AreSound (statements s rs) xs → statement s r ≡ sound x
    → AreSound (statements s (rs ++ r ∷ [])) (xs ++ x ∷ [])
statements_last s rs r xs x h g = rw (map_last (statement s) rs r, h, g, map_last sound xs x) refl

pub arms_read_last : (s : NameScope) (m : Line) (rs : List RawArm) (r : RawArm)
    → arms_on m (map (arm s) (rs ++ r ∷ [])) ≡ arms_on m (map (arm s) rs) ++ arm s r m ∷ []
arms_read_last s m rs r = ap (arms_on m) (map_last (arm s) rs r)
    ∙ map_last (λ (a : Armed). a m) (map (arm s) rs) (arm s r)

pub cases_read_last : (s : NameScope) (m : Line) (ty : Option StType) (rs : List RawCaseArm) (r : RawCaseArm)
    → case_arms_on m ty (map (case_arm s) (rs ++ r ∷ []))
    ≡ case_arms_on m ty (map (case_arm s) rs) ++ case_arm s r m ty ∷ []
cases_read_last s m ty rs r = ap (case_arms_on m ty) (map_last (case_arm s) rs r)
    ∙ map_last (λ (a : Labelled). a m ty) (map (case_arm s) rs) (case_arm s r)

pub arms_sound_last : (s : NameScope) (m : Line) (rs : List RawArm) (r : RawArm) (xs : List Arm) (x : Arm)
    → AreSound (arms_on m (map (arm s) rs)) xs → arm s r m ≡ sound x
    → AreSound (arms_on m (map (arm s) (rs ++ r ∷ []))) (xs ++ x ∷ [])
arms_sound_last s m rs r xs x h g = rw (arms_read_last s m rs r, h, g, map_last sound xs x) refl

pub cases_sound_last : (s : NameScope) (m : Line) (ty : Option StType) (rs : List RawCaseArm) (r : RawCaseArm)
    (xs : List CaseArm) (x : CaseArm)
    → AreSound (case_arms_on m ty (map (case_arm s) rs)) xs → case_arm s r m ty ≡ sound x
    → AreSound (case_arms_on m ty (map (case_arm s) (rs ++ r ∷ []))) (xs ++ x ∷ [])
cases_sound_last s m ty rs r xs x h g = rw (cases_read_last s m ty rs r, h, g, map_last sound xs x) refl

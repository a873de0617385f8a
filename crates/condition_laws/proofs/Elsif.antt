-- No IF of what is made of statements has an IF alone after its ELSE.
use Rattle.std.proofs.Common.{◌≡◌, ℕ, ◌-◌, Bool, true, false, ◌&&◌, if◌then◌else◌, List, [], ◌∷◌, ◌++◌, map, refl, sym, subst}
use Rattle.std.specs.Prelude.{All, flat_map, nat_lt}
use Rattle.std.proofs.lemmas.List.Elements.{All-append, All-cons, All-nil}
use Rattle.condition_laws.specs.Elsif.{AllHaveElsif, HasElsif, IsNoIf}
use Rattle.condition_laws.specs.inner.Negation.{negation}
use Rattle.condition_laws.specs.inner.Rewriting.{choice_of, choice_step, is_always, is_exit, leads_out, loop_by_arms, loop_of, loop_step, loop_with_test, otherwise, rewrite, rewrite_program, rewrite_unit}
use Rattle.condition_laws.proofs.Keeping.{IfParts, InArms, InCases, Keep, Layer, Own, append_arms, both_keep, if_made, if_parts, made, more_of, split, while_made}
use Rattle.condition_laws.proofs.Rewrites.{arms_with, bodies, cases_with, if_is, rewritten, rewritten_case, rewritten_if, rewritten_while}
use Rattle.st_tree.proofs.Induction.{Each, InArm, InCase, StmtSteps, every_body}
use Rattle.st_tree.specs.BodyParts.{statements_in}
use Rattle.st_tree.specs.declared.expr.Expr.{Expr}
use Rattle.st_tree.specs.declared.program.Arm.{Arm}
use Rattle.st_tree.specs.declared.program.CaseArm.{CaseArm}
use Rattle.st_tree.specs.declared.program.Pou.{Pou}
use Rattle.st_tree.specs.declared.program.StProgram.{StProgram}
use Rattle.st_tree.specs.declared.program.Stmt.{Stmt, out-Stmt}
use Rattle.st_tree.specs.declared.program.Stmt.TheOpen as S
use Rattle.st_tree.specs.declared.program.Stmt.TheVariants as stmt

-- statements without an IF alone after an ELSE
abbrev Good : List Stmt → Type 0
Good body = Keep HasElsif body

-- it is only what stands after ELSE that counts
of_last : (arms more : List Arm) (last : List Stmt) → HasElsif (S.If arms last) → HasElsif (S.If more last)
of_last arms more [] h = tt
of_last arms more (x ∷ []) h = h
of_last arms more (x ∷ y ∷ rest) h = tt

-- Choices

choice_good : (arms : List Arm) (other : List Stmt) → InArms HasElsif arms → Good other → Good (choice_of arms other ∷ [])
choice_good arms [] h k = if_made HasElsif arms [] (record { own = tt; inside = h; last = k })
choice_good arms (x ∷ y ∷ rest) h k = if_made HasElsif arms (x ∷ y ∷ rest) (record { own = tt; inside = h; last = k })
choice_good arms (x ∷ []) h k = by (out-Stmt x) refl
  where
    by : (y : Layer) → out-Stmt x ≡ y → Good (choice_step arms x y ∷ [])
    by (S.If more last) e =
        let inner = (if_parts HasElsif more last [] (subst (λ (z : Stmt). Good (z ∷ [])) (if_is x more last e) k)).0 in
        if_made HasElsif (arms ++ more) last
        (record {
          own = of_last more (arms ++ more) last inner.own;
          inside = append_arms HasElsif arms more h inner.inside;
          last = inner.last;
        })
    by y e = if_made HasElsif arms (x ∷ []) (record { own = subst IsNoIf (sym e) tt; inside = h; last = k })

-- Loops

otherwise_good : (arm : Arm) (more : List Arm) (other : List Stmt) → IfParts HasElsif (arm ∷ more) other → Good (otherwise more other)
otherwise_good arm [] other h = h.last
otherwise_good arm (x ∷ xs) other h =
    let both = split (Own HasElsif) (statements_in arm.body) (flat_map (λ (arm : Arm). statements_in arm.body) (x ∷ xs)) h.inside in
    if_made HasElsif (x ∷ xs) other
    (record { own = of_last (arm ∷ x ∷ xs) (x ∷ xs) other h.own; inside = both.1; last = h.last })

exit_good : Good (stmt.Exit ∷ [])
exit_good = made HasElsif S.Exit stmt.Exit stmt.rolls-Exit tt (All-nil (Own HasElsif))

by_arms_good : (arms : List Arm) (other rest : List Stmt) → IfParts HasElsif arms other → Good rest → Good (loop_by_arms arms other rest ∷ [])
by_arms_good [] other rest h k = exit_good
by_arms_good (arm ∷ more) other rest h k = by (is_exit arm.body)
  where
    by : (t : Bool) → Good ((if t then stmt.While (negation arm.test) (otherwise more other ++ rest) else stmt.While arm.test (arm.body ++ rest)) ∷ [])
    by true =
        while_made HasElsif (negation arm.test) (otherwise more other ++ rest) tt
        (both_keep HasElsif (otherwise more other) rest (otherwise_good arm more other h) k)
    by false =
        let both = split (Own HasElsif) (statements_in arm.body) (flat_map (λ (arm : Arm). statements_in arm.body) more) h.inside in
        while_made HasElsif arm.test (arm.body ++ rest) tt (both_keep HasElsif arm.body rest both.0 k)

with_test_good : (body : List Stmt) → Good body → Good (loop_with_test body ∷ [])
with_test_good [] h = exit_good
with_test_good (x ∷ rest) h = by (out-Stmt x) refl
  where
    by : (y : Layer) → out-Stmt x ≡ y → Good (loop_step y rest ∷ [])
    by (S.If arms other) e =
        let both = if_parts HasElsif arms other rest (subst (λ (z : Stmt). Good (z ∷ rest)) (if_is x arms other e) h) in
        by_arms_good arms other rest both.0 both.1
    by y e = exit_good

loop_good : (room : ℕ) (test : Expr) (body : List Stmt) → Good body → Good (loop_of room test body ∷ [])
loop_good room test body h = by (nat_lt 0 room && is_always test && leads_out body)
  where
    by : (t : Bool) → Good ((if t then loop_with_test body else stmt.While test body) ∷ [])
    by true = with_test_good body h
    by false = while_made HasElsif test body tt h

-- Each statement

abbrev P : Stmt → Type 0
P x = (room : ℕ) → Good (rewrite x room ∷ [])

given : (x y : Stmt) (room : ℕ) → rewrite x room ≡ y → Good (y ∷ []) → Good (rewrite x room ∷ [])
given x y room e h = subst (λ (z : Stmt). Good (z ∷ [])) (sym e) h

bodies_good : (room : ℕ) (xs : List Stmt) → Each P xs → Good (bodies room xs)
bodies_good room [] all = All-nil (Own HasElsif)
bodies_good room (x ∷ xs) all = more_of HasElsif (rewrite x room) (bodies room xs) (all.0 room) (bodies_good room xs all.1)

arms_good : (room : ℕ) (arms : List Arm) → Each (InArm P) arms → InArms HasElsif (arms_with (bodies room) arms)
arms_good room [] all = All-nil (Own HasElsif)
arms_good room (x ∷ xs) all =
    All-append (Own HasElsif) (statements_in (bodies room x.body)) (flat_map (λ (arm : Arm). statements_in arm.body) (arms_with (bodies room) xs))
    (bodies_good room x.body all.0) (arms_good room xs all.1)

cases_good : (room : ℕ) (arms : List CaseArm) → Each (InCase P) arms → InCases HasElsif (cases_with (bodies room) arms)
cases_good room [] all = All-nil (Own HasElsif)
cases_good room (x ∷ xs) all =
    All-append (Own HasElsif) (statements_in (bodies room x.body)) (flat_map (λ (arm : CaseArm). statements_in arm.body) (cases_with (bodies room) xs))
    (bodies_good room x.body all.0) (cases_good room xs all.1)

steps : StmtSteps P
steps =
    record {
      assign = λ v e room. given _ _ room (rewritten (S.Assign v e) (stmt.rolls-Assign v e) room)
          (made HasElsif (S.Assign v e) (stmt.Assign v e) (stmt.rolls-Assign v e) tt (All-nil (Own HasElsif)));
      area_write = λ w p e room. given _ _ room (rewritten (S.AreaWrite w p e) (stmt.rolls-AreaWrite w p e) room)
          (made HasElsif (S.AreaWrite w p e) (stmt.AreaWrite w p e) (stmt.rolls-AreaWrite w p e) tt (All-nil (Own HasElsif)));
      invoke = λ n vars room. given _ _ room (rewritten (S.Invoke n vars) (stmt.rolls-Invoke n vars) room)
          (made HasElsif (S.Invoke n vars) (stmt.Invoke n vars) (stmt.rolls-Invoke n vars) tt (All-nil (Own HasElsif)));
      choice = λ arms other all rest room.
          given _ _ room (rewritten_if arms other room)
          (choice_good (arms_with (bodies (room - 1)) arms) (bodies (room - 1) other) (arms_good (room - 1) arms all)
          (bodies_good (room - 1) other rest));
      selection = λ e arms other all rest room.
          given _ _ room (rewritten_case e arms other room)
          (made HasElsif (S.Case e (cases_with (bodies (room - 1)) arms) (bodies (room - 1) other))
          (stmt.Case e (cases_with (bodies (room - 1)) arms) (bodies (room - 1) other))
          (stmt.rolls-Case e (cases_with (bodies (room - 1)) arms) (bodies (room - 1) other)) tt
          (All-append (Own HasElsif) (flat_map (λ (arm : CaseArm). statements_in arm.body) (cases_with (bodies (room - 1)) arms))
          (statements_in (bodies (room - 1) other)) (cases_good (room - 1) arms all) (bodies_good (room - 1) other rest)));
      loop = λ test body all room.
          given _ _ room (rewritten_while test body room)
          (loop_good room test (bodies (room - 1) body) (bodies_good (room - 1) body all));
      exit = λ room. given _ _ room (rewritten S.Exit stmt.rolls-Exit room) exit_good;
      continue = λ room. given _ _ room (rewritten S.Continue stmt.rolls-Continue room)
          (made HasElsif S.Continue stmt.Continue stmt.rolls-Continue tt (All-nil (Own HasElsif)));
      return = λ room. given _ _ room (rewritten S.Return stmt.rolls-Return room)
          (made HasElsif S.Return stmt.Return stmt.rolls-Return tt (All-nil (Own HasElsif)));
    }

units_good : (units : List Pou) → All (λ (unit : Pou). Good unit.body) (map rewrite_unit units)
units_good [] = All-nil (λ (unit : Pou). Good unit.body)
units_good (x ∷ xs) =
    All-cons (λ (unit : Pou). Good unit.body) (rewrite_unit x) (map rewrite_unit xs)
    (bodies_good 131 x.body (every_body P steps x.body)) (units_good xs)

pub all_have_elsif : (tree : StProgram) → AllHaveElsif (rewrite_program tree)
all_have_elsif tree = units_good tree.pous

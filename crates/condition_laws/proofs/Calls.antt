-- What is made of statements calls the same units with the same actuals, in the same order.
use Rattle.std.proofs.Common.{◌≡◌, ℕ, ◌-◌, List, [], ◌∷◌, ◌++◌, append-nil, append_assoc, refl, sym, ap, ◌∙◌}
use Rattle.std.specs.List.{flat_map}
use Rattle.std.proofs.lemmas.Grind.{flat_map-append}
use Rattle.condition_laws.specs.inner.Negation.{negation}
use Rattle.condition_laws.specs.inner.Rewriting.{otherwise}
use Rattle.condition_laws.proofs.Rewrites.{Rules, arms_with, bodies, cases_with, handed_on}
use Rattle.st_tree.proofs.Induction.{Each}
use Rattle.st_tree.proofs.PartEquations.{gathered_append, gathered_first}
use Rattle.st_tree.specs.BodyParts.{call_step, calls_in, statements_in}
use Rattle.st_tree.specs.declared.expr.Expr.{Expr}
use Rattle.st_tree.specs.declared.expr.Var.{Var}
use Rattle.st_tree.specs.declared.program.Arm.{Arm}
use Rattle.st_tree.specs.declared.program.CaseArm.{CaseArm}
use Rattle.st_tree.specs.declared.program.Stmt.{Stmt, out-Stmt}
use Rattle.st_tree.specs.declared.program.Stmt.TheOpen as S
use Rattle.st_tree.specs.declared.program.Stmt.TheVariants as stmt

abbrev Call : Type 0
Call = ℕ × List Var

append_calls : (xs ys : List Stmt) → calls_in (xs ++ ys) ≡ calls_in xs ++ calls_in ys
append_calls xs ys = gathered_append call_step xs ys

-- a statement before others
first_calls : (x : Stmt) (rest : List Stmt) → calls_in (x ∷ rest) ≡ calls_in (x ∷ []) ++ calls_in rest
first_calls x rest = append_calls (x ∷ []) rest

-- the calls of statements, but for those inside them
abbrev own : List Stmt → List Call
own xs = flat_map (λ (x : Stmt). call_step (out-Stmt x)) xs

-- the calls in the arms of an IF
abbrev arms_calls : List Arm → List Call
arms_calls arms = flat_map (λ (arm : Arm). calls_in arm.body) arms

abbrev cases_calls : List CaseArm → List Call
cases_calls arms = flat_map (λ (arm : CaseArm). calls_in arm.body) arms

arms_own : (arms : List Arm) → flat_map (λ (x : Stmt). call_step (out-Stmt x)) (flat_map (λ (arm : Arm). statements_in arm.body) arms) ≡ arms_calls arms
arms_own [] = refl
arms_own (x ∷ xs) =
    flat_map-append (λ (x : Stmt). call_step (out-Stmt x)) (statements_in x.body) (flat_map (λ (arm : Arm). statements_in arm.body) xs)
    ∙ ap (λ (rest : List Call). calls_in x.body ++ rest) (arms_own xs)

cases_own : (arms : List CaseArm)
    → flat_map (λ (x : Stmt). call_step (out-Stmt x)) (flat_map (λ (arm : CaseArm). statements_in arm.body) arms) ≡ cases_calls arms
cases_own [] = refl
cases_own (x ∷ xs) =
    flat_map-append (λ (x : Stmt). call_step (out-Stmt x)) (statements_in x.body) (flat_map (λ (arm : CaseArm). statements_in arm.body) xs)
    ∙ ap (λ (rest : List Call). calls_in x.body ++ rest) (cases_own xs)

if_calls : (arms : List Arm) (other : List Stmt) → calls_in (stmt.If arms other ∷ []) ≡ arms_calls arms ++ calls_in other
if_calls arms other =
    gathered_first call_step (S.If arms other) (stmt.rolls-If arms other) []
    ∙ (append-nil (own (flat_map (λ (arm : Arm). statements_in arm.body) arms ++ statements_in other))
    ∙ (flat_map-append (λ (x : Stmt). call_step (out-Stmt x)) (flat_map (λ (arm : Arm). statements_in arm.body) arms) (statements_in other)
    ∙ ap (λ (first : List Call). first ++ calls_in other) (arms_own arms)))

case_calls : (e : Expr) (arms : List CaseArm) (other : List Stmt)
    → calls_in (stmt.Case e arms other ∷ []) ≡ cases_calls arms ++ calls_in other
case_calls e arms other =
    gathered_first call_step (S.Case e arms other) (stmt.rolls-Case e arms other) []
    ∙ (append-nil (own (flat_map (λ (arm : CaseArm). statements_in arm.body) arms ++ statements_in other))
    ∙ (flat_map-append (λ (x : Stmt). call_step (out-Stmt x)) (flat_map (λ (arm : CaseArm). statements_in arm.body) arms) (statements_in other)
    ∙ ap (λ (first : List Call). first ++ calls_in other) (cases_own arms)))

while_calls : (test : Expr) (body : List Stmt) → calls_in (stmt.While test body ∷ []) ≡ calls_in body
while_calls test body = gathered_first call_step (S.While test body) (stmt.rolls-While test body) [] ∙ append-nil (calls_in body)

exit_calls : calls_in (stmt.Exit ∷ []) ≡ []
exit_calls = gathered_first call_step S.Exit stmt.rolls-Exit []

arms_append : (xs ys : List Arm) → arms_calls (xs ++ ys) ≡ arms_calls xs ++ arms_calls ys
arms_append xs ys = flat_map-append (λ (arm : Arm). calls_in arm.body) xs ys

-- the same calls
abbrev pub CallsStay : ℕ → List Stmt → List Stmt → Type 0
CallsStay room xs ys = calls_in ys ≡ calls_in xs

arms_stay : (room : ℕ) (g : List Stmt → List Stmt) (arms : List Arm) → Each (λ (arm : Arm). CallsStay room arm.body (g arm.body)) arms
    → arms_calls (arms_with g arms) ≡ arms_calls arms
arms_stay room g [] all = refl
arms_stay room g (x ∷ xs) all =
    ap (λ (calls : List Call). calls ++ arms_calls (arms_with g xs)) all.0
    ∙ ap (λ (calls : List Call). calls_in x.body ++ calls) (arms_stay room g xs all.1)

cases_stay : (room : ℕ) (g : List Stmt → List Stmt) (arms : List CaseArm) → Each (λ (arm : CaseArm). CallsStay room arm.body (g arm.body)) arms
    → cases_calls (cases_with g arms) ≡ cases_calls arms
cases_stay room g [] all = refl
cases_stay room g (x ∷ xs) all =
    ap (λ (calls : List Call). calls ++ cases_calls (cases_with g xs)) all.0
    ∙ ap (λ (calls : List Call). calls_in x.body ++ calls) (cases_stay room g xs all.1)

otherwise_calls : (more : List Arm) (other : List Stmt) → calls_in (otherwise more other) ≡ arms_calls more ++ calls_in other
otherwise_calls [] other = refl
otherwise_calls (x ∷ xs) other = if_calls (x ∷ xs) other

calls_rules : Rules CallsStay
calls_rules =
    record {
      assign = λ room v e. refl;
      area_write = λ room w p e. refl;
      invoke = λ room n vars. refl;
      exit = λ room. refl;
      continue = λ room. refl;
      return = λ room. refl;
      none = λ room. refl;
      more = λ room x y xs ys h k.
          first_calls y ys
          ∙ (ap (λ (calls : List Call). calls ++ calls_in ys) h
          ∙ (ap (λ (calls : List Call). calls_in (x ∷ []) ++ calls) k ∙ sym (first_calls x xs)));
      choice = λ room g arms other all rest.
          if_calls (arms_with g arms) (g other)
          ∙ (ap (λ (calls : List Call). calls ++ calls_in (g other)) (arms_stay (room - 1) g arms all)
          ∙ (ap (λ (calls : List Call). arms_calls arms ++ calls) rest ∙ sym (if_calls arms other)));
      selection = λ room g e arms other all rest.
          case_calls e (cases_with g arms) (g other)
          ∙ (ap (λ (calls : List Call). calls ++ calls_in (g other)) (cases_stay (room - 1) g arms all)
          ∙ (ap (λ (calls : List Call). cases_calls arms ++ calls) rest ∙ sym (case_calls e arms other)));
      loop = λ room g test body h. while_calls test (g body) ∙ (h ∙ sym (while_calls test body));
      join = λ room xs arms more last h.
          if_calls (arms ++ more) last
          ∙ (ap (λ (calls : List Call). calls ++ calls_in last) (arms_append arms more)
          ∙ (append_assoc (arms_calls arms) (arms_calls more) (calls_in last)
          ∙ (ap (λ (calls : List Call). arms_calls arms ++ calls) (sym (if_calls more last))
          ∙ (sym (if_calls arms (stmt.If more last ∷ [])) ∙ h))));
      lead = λ room xs always arm rest a some high h.
          while_calls arm.test (arm.body ++ rest)
          ∙ (append_calls arm.body rest
          ∙ (sym (while_calls always (stmt.If (arm ∷ []) (stmt.Exit ∷ []) ∷ rest)
          ∙ (first_calls (stmt.If (arm ∷ []) (stmt.Exit ∷ [])) rest
          ∙ ap (λ (calls : List Call). calls ++ calls_in rest) (if_calls (arm ∷ []) (stmt.Exit ∷ [])
          ∙ (ap (λ (calls : List Call). arms_calls (arm ∷ []) ++ calls) exit_calls
          ∙ (append-nil (arms_calls (arm ∷ [])) ∙ append-nil (calls_in arm.body))))))
          ∙ h));
      opposite = λ room xs always arm more other rest a some high is h.
          while_calls (negation arm.test) (otherwise more other ++ rest)
          ∙ (append_calls (otherwise more other) rest
          ∙ (ap (λ (calls : List Call). calls ++ calls_in rest) (otherwise_calls more other)
          ∙ (sym (while_calls always (stmt.If (arm ∷ more) other ∷ rest)
          ∙ (first_calls (stmt.If (arm ∷ more) other) rest
          ∙ ap (λ (calls : List Call). calls ++ calls_in rest) (if_calls (arm ∷ more) other
          ∙ ap (λ (calls : List Call). calls ++ arms_calls more ++ calls_in other) (ap calls_in is ∙ exit_calls))))
          ∙ h)));
    }

pub calls_stay : (room : ℕ) (body : List Stmt) → calls_in (bodies room body) ≡ calls_in body
calls_stay room body = handed_on CallsStay calls_rules room body

-- Each statement that needs no unit is done as it means, and costs no more than it may.
use Rattle.st_tree.proofs.Common.{◌≡◌, ℕ, Bool, true, false, if◌then◌else◌, ℤ, List, [], ◌∷◌, map, Some, Result, Ok, Err, refl, sym, ap, ◌∙◌, ◌+◌, ◌≤◌, Bor, ◌++◌, subst, arith, and_then, Fault, Out, Faults, Calls, Guarded, Labelled, arm_meaning, body_meaning, case_meaning, state_or_fault, first_true, first_with, meaning, with_value, Normal, Exits, Continues, Returns, area_assignment, assignment, end_seen, State, value, is_set, Width}
use Rattle.st_runner.proofs.Common.{has_label, case_body, if_body, end_at, ending, Frame, Expr, Arm, CaseArm, Located, Stmt, Value, Leaves, body_weight, unit_costs, weight, Costs, body_most, most, Done, Changes, At, Var, StProgram}
use Rattle.st_runner.specs.declared.frame.At.TheVariants as at
use Rattle.st_runner.proofs.Stack.{unwound_faults, sizes_tall, on_top, top_sizes, top_tall, top_weight}
use Rattle.st_tree.specs.Meaning.{in_order}
use Rattle.st_tree.specs.declared.program.Stmt.TheVariants as stmt
use Rattle.st_tree.proofs.Equations.{meaning_arm, meaning_case, meaning_case_arm, meaning_if, meaning_area_write, meaning_assign, meaning_continue, meaning_exit, meaning_return}
use Rattle.st_runner.specs.inner.Ready.{next_of}
use Rattle.st_runner.specs.declared.frame.Frame.TheVariants as frame
use Rattle.st_runner.proofs.Costs.{labelled_most, labelled_weight, picked_most, picked_weight, weight_stmt}
use Rattle.st_tree.specs.declared.program.Stmt.TheOpen as S

-- What is done for each statement is what it means

module _ (g : List Located) (c : Calls) (fs : List Frame) (u : ℕ) where
  pub changed_ok : (r : Result State Fault) (s t : State) → r ≡ Ok t → end_at g c fs at.Work u t ≡ ending g c fs (state_or_fault r u s)
  changed_ok (Ok x) s t e = ap (λ (y : Result State Fault). ending g c fs (state_or_fault y u s)) (sym e)
  changed_ok (Err f) s t e = cc

  pub changed_err : (r : Result State Fault) (s : State) (f : Fault) → r ≡ Err f → end_at g c fs (at.Over (Some f)) u s ≡ ending g c fs (state_or_fault r u s)
  changed_err (Ok x) s f e = cc
  changed_err (Err x) s f e =
      sym (ap end_seen (unwound_faults g c fs f s)) ∙ ap (λ (y : Result State Fault). ending g c fs (state_or_fault y u s)) (sym e)

-- the chosen statements, or the fault of the choice
abbrev pub chosen_out : List Located → Calls → ℕ → State → Result (List Stmt) Fault → Out
chosen_out g c u s (Ok body) = body_meaning g c body u s
chosen_out g c u s (Err f) = Faults f s

module _ (g : List Located) (c : Calls) (u : ℕ) (s : State) where
  chosen_arm : (r : Result Value Fault) (body : List Stmt) (rest : Result (List Stmt) Fault) (x : Out) → x ≡ chosen_out g c u s rest →
      with_value r u s (λ v. if is_set v then body_meaning g c body u s else x) ≡ chosen_out g c u s (and_then r (λ v. if is_set v then Ok body else rest))
  chosen_arm (Ok v) body rest x e = by (is_set v)
    where
      by : (b : Bool) → (if b then body_meaning g c body u s else x) ≡ chosen_out g c u s (if b then Ok body else rest)
      by true = refl
      by false = e
  chosen_arm (Err f) body rest x e = refl

  picked_means : (arms : List Arm) (other : List Stmt)
      → first_true (map (arm_meaning g c) arms) (in_order (map (meaning g c) other)) u s ≡ chosen_out g c u s (if_body g arms other s)
  picked_means [] other = refl
  picked_means (arm ∷ arms) other =
      ap (λ (a : Guarded). with_value (a.0 s) u s
      (λ v. if is_set v then a.1 u s else first_true (map (arm_meaning g c) arms) (in_order (map (meaning g c) other)) u s)) (meaning_arm g c arm)
      ∙ chosen_arm (value g arm.test s) arm.body (if_body g arms other s)
      (first_true (map (arm_meaning g c) arms) (in_order (map (meaning g c) other)) u s) (picked_means arms other)

  pub if_means : (arms : List Arm) (other : List Stmt) → meaning g c (stmt.If arms other) u s ≡ chosen_out g c u s (if_body g arms other s)
  if_means arms other = meaning_if g c u s arms other ∙ picked_means arms other

  one_of_two : (b : Bool) (x y : Out) (p q : List Stmt) → x ≡ body_meaning g c p u s
      → y ≡ body_meaning g c q u s → (if b then x else y) ≡ body_meaning g c (if b then p else q) u s
  one_of_two true x y p q e f = e
  one_of_two false x y p q e f = f

  labelled_means : (n : ℤ) (arms : List CaseArm) (other : List Stmt)
      → first_with n (map (case_meaning g c) arms) (in_order (map (meaning g c) other)) u s ≡ body_meaning g c (case_body n arms other) u s
  unfolding has_label
  labelled_means n [] other = refl
  labelled_means n (arm ∷ arms) other =
      let rest = first_with n (map (case_meaning g c) arms) (in_order (map (meaning g c) other)) u s in
      ap (λ (a : Labelled). if has_label a.0 n then a.1 u s else rest) (meaning_case_arm g c arm)
      ∙ one_of_two (has_label arm.labels n) (body_meaning g c arm.body u s) rest arm.body (case_body n arms other) refl (labelled_means n arms other)

  case_value : (r : Result Value Fault) (arms : List CaseArm) (other : List Stmt)
      → with_value r u s (λ v. first_with v.n (map (case_meaning g c) arms) (in_order (map (meaning g c) other)) u s)
      ≡ chosen_out g c u s (and_then r (λ v. Ok (case_body v.n arms other)))
  case_value (Ok v) arms other = labelled_means v.n arms other
  case_value (Err f) arms other = refl

  pub case_means : (e : Expr) (arms : List CaseArm) (other : List Stmt)
      → meaning g c (stmt.Case e arms other) u s ≡ chosen_out g c u s (and_then (value g e s) (λ v. Ok (case_body v.n arms other)))
  case_means e arms other = meaning_case g c u s e arms other ∙ case_value (value g e s) arms other

-- What was done

module _ (tree : StProgram) (ws : List Frame) where
  -- a fault
  pub faulted : (x : Stmt) (s : State) (f : Fault)
      → ((c : Calls) (u : ℕ) → end_at tree.globals c ws (at.Over (Some f)) u s ≡ ending tree.globals c ws (meaning tree.globals c x u s))
      → Done tree x ws ws (at.Over (Some f)) s s
  faulted x s f m = record { meaning = m; reach = λ k. omega (arith, sizes_tall k ws); units = refl; weight = tt }

  -- a change of the state, or its fault
  changed_by : (x : Stmt) (change : Result State Fault) (s t : State) (r : Result (Unit {0}) Fault)
      → ((c : Calls) (u : ℕ) → meaning tree.globals c x u s ≡ state_or_fault change u s) → weight x ≡ 1 → Changes change r s t
      → Done tree x ws ws (next_of r) s t
  changed_by x change s t (Ok done) m w h =
      record {
        meaning = λ c u. changed_ok tree.globals c ws u change s t h ∙ ap (ending tree.globals c ws) (sym (m c u));
        reach = λ k. omega (arith, sizes_tall k ws);
        units = refl;
        weight = omega (arith, w);
      }
  changed_by x change s t (Err f) m w h =
      subst (λ (z : State). Done tree x ws ws (at.Over (Some f)) s z) (sym h.1)
      (faulted x s f (λ c u. changed_err tree.globals c ws u change s f h.0 ∙ ap (ending tree.globals c ws) (sym (m c u))))

  pub assign_done : (v : Var) (e : Expr) (s t : State) (r : Result (Unit {0}) Fault) (next : At)
      → Changes (assignment tree.globals v e s) r s t → next ≡ next_of r → Done tree (stmt.Assign v e) ws ws next s t
  assign_done v e s t r next h n =
      subst (λ (z : At). Done tree (stmt.Assign v e) ws ws z s t) (sym n)
      (changed_by (stmt.Assign v e) (assignment tree.globals v e s) s t r
      (λ c u. meaning_assign tree.globals c u s v e) (weight_stmt (S.Assign v e) (stmt.rolls-Assign v e)) h)

  pub area_done : (w : Width) (p e : Expr) (s t : State) (r : Result (Unit {0}) Fault) (next : At)
      → Changes (area_assignment tree.globals w p e s) r s t → next ≡ next_of r → Done tree (stmt.AreaWrite w p e) ws ws next s t
  area_done w p e s t r next h n =
      subst (λ (z : At). Done tree (stmt.AreaWrite w p e) ws ws z s t) (sym n)
      (changed_by (stmt.AreaWrite w p e) (area_assignment tree.globals w p e s) s t r
      (λ c u. meaning_area_write tree.globals c u s w p e) (weight_stmt (S.AreaWrite w p e) (stmt.rolls-AreaWrite w p e)) h)

  -- EXIT, CONTINUE and RETURN
  left_by : {x : Stmt} (y : Stmt) (o : ℕ → State → Out) (vs : List Frame) (s : State)
      → ((c : Calls) (u : ℕ) → meaning tree.globals c y u s ≡ o u s) → weight y ≡ 1 → x ≡ y → Leaves o Normal ws vs → Done tree x ws vs at.Work s s
  left_by y o vs s m w is h =
      subst (λ (x : Stmt). Done tree x ws vs at.Work s s) (sym is)
      (record {
        meaning = λ c u. h.meaning tree.globals c u s ∙ ap (ending tree.globals c ws) (sym (m c u));
        reach = λ k. omega (arith, h.tall k, sizes_tall k vs);
        units = h.units;
        weight = omega (arith, h.weight);
      })

  pub exit_done : {x : Stmt} (vs : List Frame) (s : State) → x ≡ stmt.Exit → Leaves Exits Normal ws vs → Done tree x ws vs at.Work s s
  exit_done vs s is h = left_by stmt.Exit Exits vs s (λ c u. meaning_exit tree.globals c u s) (weight_stmt S.Exit stmt.rolls-Exit) is h

  pub continue_done : {x : Stmt} (vs : List Frame) (s : State) → x ≡ stmt.Continue → Leaves Continues Normal ws vs → Done tree x ws vs at.Work s s
  continue_done vs s is h = left_by stmt.Continue Continues vs s (λ c u. meaning_continue tree.globals c u s) (weight_stmt S.Continue stmt.rolls-Continue) is h

  pub return_done : {x : Stmt} (vs : List Frame) (s : State) → x ≡ stmt.Return → Leaves Returns Normal ws vs → Done tree x ws vs at.Work s s
  return_done vs s is h = left_by stmt.Return Returns vs s (λ c u. meaning_return tree.globals c u s) (weight_stmt S.Return stmt.rolls-Return) is h

  -- statements that were chosen
  chosen_by : (n : ℕ) (x : Stmt) (vs : List Frame) (b : Bor (List Stmt)) (s : State)
      → ((c : Calls) (u : ℕ) → meaning tree.globals c x u s ≡ body_meaning tree.globals c b.now u s)
      → ((k : Costs) → k.rest + body_most k b.now ≤ most k x) → 2 + body_weight b.now ≤ weight x
      → vs ≡ ws ++ frame.Rest b n ∷ [] → Done tree x ws vs at.Work s s
  chosen_by n x vs b s m r w e =
      record {
        meaning = λ c u. on_top tree.globals c ws vs (frame.Rest b n) (Normal u s) e ∙ ap (ending tree.globals c ws) (sym (m c u));
        reach = λ k. omega (arith, top_tall k ws vs (frame.Rest b n) e, sizes_tall k vs, r k);
        units = omega (arith, top_sizes unit_costs ws vs (frame.Rest b n) e);
        weight = omega (arith, w, top_weight ws vs (frame.Rest b n) e);
      }

  pub if_done : (n : ℕ) (arms : List Arm) (other : List Stmt) (vs : List Frame) (b : Bor (List Stmt)) (s : State)
      → if_body tree.globals arms other s ≡ Ok b.now → vs ≡ ws ++ frame.Rest b n ∷ [] → Done tree (stmt.If arms other) ws vs at.Work s s
  if_done n arms other vs b s p e =
      chosen_by n (stmt.If arms other) vs b s (λ c u. if_means tree.globals c u s arms other ∙ ap (chosen_out tree.globals c u s) p)
      (λ k. picked_most k tree.globals arms other s b.now p) (picked_weight tree.globals arms other s b.now p) e

  pub if_fault : (arms : List Arm) (other : List Stmt) (s : State) (f : Fault)
      → if_body tree.globals arms other s ≡ Err f → Done tree (stmt.If arms other) ws ws (at.Over (Some f)) s s
  if_fault arms other s f p =
      faulted (stmt.If arms other) s f (λ c u.
      sym (ap end_seen (unwound_faults tree.globals c ws f s))
      ∙ ap (ending tree.globals c ws) (sym (if_means tree.globals c u s arms other ∙ ap (chosen_out tree.globals c u s) p)))

  pub case_done : (n : ℕ) (x : Expr) (arms : List CaseArm) (other : List Stmt) (vs : List Frame) (b : Bor (List Stmt)) (v : Value) (s : State)
      → value tree.globals x s ≡ Ok v → b.now ≡ case_body v.n arms other → vs ≡ ws ++ frame.Rest b n ∷ []
      → Done tree (stmt.Case x arms other) ws vs at.Work s s
  case_done n x arms other vs b v s p l e =
      chosen_by n (stmt.Case x arms other) vs b s
      (λ c u. case_means tree.globals c u s x arms other ∙ ap (λ r. chosen_out tree.globals c u s (and_then r (λ (w : Value). Ok (case_body w.n arms other)))) p
      ∙ ap (λ (xs : List Stmt). body_meaning tree.globals c xs u s) (sym l))
      (λ k. subst (λ (xs : List Stmt). k.rest + body_most k xs ≤ most k (stmt.Case x arms other)) (sym l) (labelled_most k x v.n arms other))
      (subst (λ (xs : List Stmt). 2 + body_weight xs ≤ weight (stmt.Case x arms other)) (sym l) (labelled_weight x v.n arms other)) e

  pub case_fault : (x : Expr) (arms : List CaseArm) (other : List Stmt) (s : State) (f : Fault)
      → value tree.globals x s ≡ Err f → Done tree (stmt.Case x arms other) ws ws (at.Over (Some f)) s s
  case_fault x arms other s f p =
      faulted (stmt.Case x arms other) s f (λ c u.
      sym (ap end_seen (unwound_faults tree.globals c ws f s))
      ∙ ap (ending tree.globals c ws) (sym
      (case_means tree.globals c u s x arms other ∙ ap (λ r. chosen_out tree.globals c u s (and_then r (λ (w : Value). Ok (case_body w.n arms other)))) p)))

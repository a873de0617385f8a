-- What single statements do, those that set NEXT or choose by it among them.
use Rattle.std.proofs.Common.{◌≡◌, ℕ, zero, suc, ◌<◌, ◌==◌, pos, negsuc, Bool, true, false, if◌then◌else◌, ◌||◌, List, [], ◌∷◌, length, map, Option, Some, None, Result, Ok, refl, ap, ◌∙◌, arith}
use Rattle.std.specs.Prelude.{slice_get}
use Rattle.std.specs.List.{list_any}
use Rattle.std.specs.Ordering.{int_eq}
use Rattle.std.proofs.lemmas.Bool.{eqb-true}
use Rattle.std.proofs.lemmas.Bool.Decides.{Decides-int_eq}
use Rattle.std.proofs.lemmas.Option.{slice_get_within}
use Rattle.memory_areas.specs.Access.{and_then}
use Rattle.s7_base.specs.declared.outcome.Fault.{Fault}
use Rattle.st_tree.specs.GraphRun.{for_one_unit}
use Rattle.st_tree.specs.Meaning.{Calls, Continues, Exits, Faults, Labelled, NoUnits, Normal, Out, Returns, Sem, after_body, body_meaning, case_meaning, first_with, meaning, state_or_fault, then_do, turns, with_value}
use Rattle.st_tree.specs.State.{State, own_of, there, write}
use Rattle.st_tree.specs.Value.{value}
use Rattle.st_tree.specs.Values.{is_set}
use Rattle.st_tree.specs.declared.expr.Expr.TheVariants as expr
use Rattle.st_tree.specs.declared.expr.StType.TheVariants as type
use Rattle.st_tree.specs.declared.expr.Var.TheVariants as var
use Rattle.st_tree.specs.declared.program.Located.{Located}
use Rattle.st_tree.specs.declared.program.Stmt.{Stmt}
use Rattle.st_tree.specs.declared.state.Value.{Value}
use Rattle.st_tree.proofs.Equations.{meaning_assign, meaning_case_arm, meaning_while, value_literal}
use Rattle.st_tree.proofs.Locals.{local_read, local_wrote, own_same, with_own}
use Rattle.region_laws.specs.NextLocal.{arm_with_label, set_next}
use Rattle.region_laws.specs.Regions.{forever, arms_with_labels}

-- nothing follows
pub nothing_after : (o : Out) → then_do o (λ units s. Normal units s) ≡ o
nothing_after (Normal units s) = refl
nothing_after (Exits units s) = refl
nothing_after (Continues units s) = refl
nothing_after (Returns units s) = refl
nothing_after (Faults f s) = refl
nothing_after (NoUnits s) = refl

-- where a unit of work is taken first, what is the same with one unit less is the same
pub paid_same : (f h : Sem) (u : ℕ) (s : State) → ((v : ℕ) → u ≡ suc v → f v s ≡ h v s) → for_one_unit f u s ≡ for_one_unit h u s
paid_same f h zero s e = refl
paid_same f h (suc v) s e = e v refl

-- Labels

-- a number is one of some labels
abbrev pub is_label : ℕ → List ℕ → Bool
is_label n labels = list_any (λ (label : ℕ). label == n) labels

pub or_true : (b c : Bool) → b ≡ true → (b || c) ≡ true
or_true true true e = refl
or_true true false e = refl
or_true false c e = cc

pub or_rest : (b c : Bool) → b ≡ false → (b || c) ≡ c
or_rest false true e = refl
or_rest false false e = refl
or_rest true c e = cc

pub same_number : (m n : ℕ) → int_eq (pos m) (pos n) ≡ (m == n)
same_number m n = by (int_eq (pos m) (pos n)) (m == n) refl refl
  where
    by : (b c : Bool) → int_eq (pos m) (pos n) ≡ b → (m == n) ≡ c → b ≡ c
    by true true e q = refl
    by false false e q = refl
    by true false e q = let same : pos m ≡ pos n = (Decides-int_eq (pos m) (pos n)).0 e in let numbers : m ≡ n = cc in grind (arith, numbers, q)
    by false true e q = let same : m ≡ n = eqb-true m n q in let set = (Decides-int_eq (pos m) (pos n)).1 (ap (λ (k : ℕ). pos k) same) in cc

-- NEXT

-- the value that NEXT has for the node at a position
abbrev pub at_node : ℕ → Value
at_node j = record { ty = type.Dint; n = pos j }

module _ (g : List Located) (next : ℕ) where
  -- NEXT takes the position of a node
  abbrev pub setting : ℕ → Sem
  setting j units s = state_or_fault (write g (var.Local next) (at_node j) s) units s

  pub set_done : (j units : ℕ) (s : State) → next < length (own_of s.activations) → setting j units s ≡ Normal units (with_own next (at_node j) s)
  set_done j units s h = ap (λ (r : Result State Fault). state_or_fault r units s) (local_wrote g next (at_node j) s h)

  -- behind that it has it
  pub set_read : (j units : ℕ) (s : State) (f h : Sem) → ((t : State) → value g (expr.Read (var.Local next)) t ≡ Ok (at_node j) → f units t ≡ h units t)
      → then_do (setting j units s) f ≡ then_do (setting j units s) h
  set_read j units s f h same = by (slice_get (own_of s.activations) next) refl
    where
      by : (o : Option Value) → slice_get (own_of s.activations) next ≡ o
          → then_do (state_or_fault (and_then (there o) (λ (old : Value). Ok (with_own next (at_node j) s))) units s) f
          ≡ then_do (state_or_fault (and_then (there o) (λ (old : Value). Ok (with_own next (at_node j) s))) units s) h
      by None e = refl
      by (Some old) e =
          same (with_own next (at_node j) s)
          (local_read g next (at_node j) (with_own next (at_node j) s) (own_same next (at_node j) s (slice_get_within (own_of s.activations) next old e)))

module _ (g : List Located) (c : Calls) where
  pub one_statement : (x : Stmt) (units : ℕ) (s : State) → body_meaning g c (x ∷ []) units s ≡ meaning g c x units s
  one_statement x units s = nothing_after (meaning g c x units s)

  pub set_does : (next j units : ℕ) (s : State) → meaning g c (set_next next j) units s ≡ setting g next j units s
  set_does next j units s =
      meaning_assign g c units s (var.Local next) (expr.Literal type.Dint (pos j))
      ∙ ap (λ (r : Result Value Fault). state_or_fault (and_then r (λ w. write g (var.Local next) w s)) units s) (value_literal g type.Dint (pos j) s)

  -- Loops that only EXIT and RETURN leave

  abbrev pub forever_turns : List Stmt → ℕ → Sem
  forever_turns body most = turns most (value g (expr.Literal type.Bool (pos 1))) (body_meaning g c body)

  pub forever_does : (body : List Stmt) (units : ℕ) (s : State) → meaning g c (forever body) units s ≡ forever_turns body units units s
  forever_does body units s = meaning_while g c units s (expr.Literal type.Bool (pos 1)) body

  pub forever_turn : (body : List Stmt) (most units : ℕ) (s : State)
      → forever_turns body (suc most) (suc units) s ≡ after_body (body_meaning g c body units s) (forever_turns body most)
  forever_turn body most units s =
      ap (λ (r : Result Value Fault). with_value r units s
      (λ v. if is_set v then after_body (body_meaning g c body units s) (forever_turns body most) else Normal units s))
      (value_literal g type.Bool (pos 1) s)

  -- Arms with one label each

  one_label : (n m : ℕ) (b : Bool) → (m == n) ≡ b → (bodies : ℕ → List Stmt) (labels : List ℕ) (other : Sem) (units : ℕ) (s : State)
      → first_with (pos n) (map (case_meaning g c) (arms_with_labels bodies labels)) other units s
      ≡ (if is_label n labels then body_meaning g c (bodies n) units s else other units s)
      → first_with (pos n) ((pos m ∷ [], body_meaning g c (bodies m)) ∷ map (case_meaning g c) (arms_with_labels bodies labels)) other units s
      ≡ (if is_label n (m ∷ labels) then body_meaning g c (bodies n) units s else other units s)
  one_label n m true e bodies labels other units s rest =
      let same : m ≡ n = eqb-true m n e in
      rw (or_true (m == n) (is_label n labels) e, same_number m n, e) (ap (λ (k : ℕ). body_meaning g c (bodies k) units s) same)
  one_label n m false e bodies labels other units s rest = rw (or_rest (m == n) (is_label n labels) e, same_number m n, e) rest

  pub labelled_does : (n : ℕ) (bodies : ℕ → List Stmt) (labels : List ℕ) (other : Sem) (units : ℕ) (s : State)
      → first_with (pos n) (map (case_meaning g c) (arms_with_labels bodies labels)) other units s
      ≡ (if is_label n labels then body_meaning g c (bodies n) units s else other units s)
  labelled_does n bodies [] other units s = refl
  labelled_does n bodies (m ∷ labels) other units s =
      ap (λ (arm : Labelled). first_with (pos n) (arm ∷ map (case_meaning g c) (arms_with_labels bodies labels)) other units s)
      (meaning_case_arm g c (arm_with_label m (bodies m)))
      ∙ one_label n m (m == n) refl bodies labels other units s (labelled_does n bodies labels other units s)

  -- a negative number is no label
  pub no_label : (k : ℕ) (bodies : ℕ → List Stmt) (labels : List ℕ) (other : Sem) (units : ℕ) (s : State)
      → first_with (negsuc k) (map (case_meaning g c) (arms_with_labels bodies labels)) other units s ≡ other units s
  no_label k bodies [] other units s = refl
  no_label k bodies (m ∷ labels) other units s =
      ap (λ (arm : Labelled). first_with (negsuc k) (arm ∷ map (case_meaning g c) (arms_with_labels bodies labels)) other units s)
      (meaning_case_arm g c (arm_with_label m (bodies m)))
      ∙ no_label k bodies labels other units s

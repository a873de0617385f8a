-- Statements that write their locals one after another, and read those alone that are written by then.
use Rattle.std.proofs.Common.{◌≡◌, ℕ, suc, ◌+◌, ◌-◌, ◌<◌, ◌≤◌, List, [], ◌∷◌, ◌++◌, ⊎_elim, inl, inr, refl, sym, ap, subst, ◌∙◌, arith}
use Rattle.std.proofs.Math.Nat.{eq-or-lt_of_le}
use Rattle.std.specs.Prelude.{All}
use Rattle.std.specs.List.{flat_map}
use Rattle.std.proofs.lemmas.List.{append-nil}
use Rattle.std.proofs.lemmas.List.Elements.{All-cons, All-nil}
use Rattle.s7_base.specs.declared.word.Width.{Width}
use Rattle.st_tree.proofs.PartEquations.{out_area_write, out_assign, reads_of_area_read, reads_of_binary, reads_of_convert, reads_of_literal, reads_of_read, reads_of_select, reads_of_shift, reads_of_unary}
use Rattle.st_tree.specs.BodyParts.{call_step, expressions_step, reads_of}
use Rattle.st_tree.specs.declared.expr.Expr.{Expr}
use Rattle.st_tree.specs.declared.expr.Var.{Var}
use Rattle.st_tree.specs.declared.expr.Var.TheVariants as var
use Rattle.st_tree.specs.declared.program.Arm.{Arm}
use Rattle.st_tree.specs.declared.program.CaseArm.{CaseArm}
use Rattle.st_tree.specs.declared.program.Stmt.{Stmt}
use Rattle.st_tree.specs.declared.program.Stmt.TheOpen as S
use Rattle.st_tree.specs.declared.program.Stmt.TheVariants as stmt
use Rattle.graph_rules.specs.Runs.{AreOfRun, AreOfRuns, AreWritten, IsWritten, bodies_in, bodies_step, locals_of, read_by, written_after, written_by_more, written_step}

-- Parts

-- what an assignment reads, and an area write
pub read_by_assign : (v : Var) (e : Expr) → read_by (stmt.Assign v e) ≡ reads_of e
read_by_assign v e =
    ap (λ (y : S.Stmt-F Stmt Arm CaseArm). flat_map reads_of (expressions_step y) ++ flat_map (λ (call : ℕ × List Var). call.1) (call_step y)) (out_assign v e)
    ∙ append-nil (reads_of e ++ []) ∙ append-nil (reads_of e)

pub read_by_area_write : (w : Width) (p e : Expr) → read_by (stmt.AreaWrite w p e) ≡ reads_of p ++ reads_of e
read_by_area_write w p e =
    ap (λ (y : S.Stmt-F Stmt Arm CaseArm). flat_map reads_of (expressions_step y) ++ flat_map (λ (call : ℕ × List Var). call.1) (call_step y))
    (out_area_write w p e)
    ∙ append-nil (reads_of p ++ (reads_of e ++ [])) ∙ ap (λ (vs : List Var). reads_of p ++ vs) (append-nil (reads_of e))

-- runs in two parts
pub run_in_parts : (written : List ℕ) (xs ys : List Stmt) → AreOfRun written xs → AreOfRun (written_by_more written xs) ys → AreOfRun written (xs ++ ys)
run_in_parts written [] ys h k = k
run_in_parts written (x ∷ xs) ys h k = (h.0, run_in_parts (written_after written x) xs ys h.1 k)

pub written_in_parts : (written : List ℕ) (xs ys : List Stmt) → written_by_more written (xs ++ ys) ≡ written_by_more (written_by_more written xs) ys
written_in_parts written [] ys = refl
written_in_parts written (x ∷ xs) ys = written_in_parts (written_after written x) xs ys

-- Order

-- how far the locals among some variables lie below the lowest one that may be read, and above the first so many; 0
-- where each lies between
abbrev pub missed : ℕ → ℕ → List Var → ℕ
missed low w [] = 0
missed low w (var.Local i ∷ rest) = (suc i - w) + (low - i) + missed low w rest
missed low w (v ∷ rest) = missed low w rest

-- how far statements are from writing the locals from one on in their order, and reading those alone that lie from the
-- lowest one on and before these; 0 where they do
abbrev pub disorder : ℕ → ℕ → List Stmt → ℕ
disorder low w [] = 0
disorder low w (stmt.Assign (var.Local i) e ∷ rest) = missed low w (reads_of e) + ((i - w) + (w - i)) + disorder low (suc w) rest
disorder low w (stmt.Assign v e ∷ rest) = missed low w (reads_of e) + disorder low w rest
disorder low w (stmt.AreaWrite z p e ∷ rest) = missed low w (reads_of p) + missed low w (reads_of e) + disorder low w rest
disorder low w (x ∷ rest) = 1

-- how many locals some statements set
abbrev pub locals_set : List Stmt → ℕ
locals_set [] = 0
locals_set (stmt.Assign (var.Local i) e ∷ rest) = suc (locals_set rest)
locals_set (x ∷ rest) = locals_set rest

pub missed_in_parts : (low w : ℕ) (us vs : List Var) → missed low w (us ++ vs) ≡ missed low w us + missed low w vs
missed_in_parts low w [] vs = omega arith
missed_in_parts low w (var.Local i ∷ us) vs = omega (arith, missed_in_parts low w us vs)
missed_in_parts low w (u ∷ us) vs = missed_in_parts low w us vs

pub sets_in_parts : (xs ys : List Stmt) → locals_set (xs ++ ys) ≡ locals_set xs + locals_set ys
sets_in_parts [] ys = omega arith
sets_in_parts (stmt.Assign (var.Local i) e ∷ xs) ys = omega (arith, sets_in_parts xs ys)
sets_in_parts (x ∷ xs) ys = sets_in_parts xs ys

pub disorder_in_parts : (low w : ℕ) (xs ys : List Stmt) → disorder low w xs ≡ 0 → disorder low (w + locals_set xs) ys ≡ 0 → disorder low w (xs ++ ys) ≡ 0
disorder_in_parts low w [] ys h k = let e : w + 0 ≡ w = omega arith in ap (λ (n : ℕ). disorder low n ys) (sym e) ∙ k
disorder_in_parts low w (stmt.Assign (var.Local i) e ∷ xs) ys h k =
    let same : w + suc (locals_set xs) ≡ suc w + locals_set xs = omega arith in
    let rest : disorder low (suc w) (xs ++ ys) ≡ 0 =
    disorder_in_parts low (suc w) xs ys (omega (arith, h)) (ap (λ (n : ℕ). disorder low n ys) (sym same) ∙ k) in
    omega (arith, h, rest)
disorder_in_parts low w (stmt.Assign v e ∷ xs) ys h k =
    let rest : disorder low w (xs ++ ys) ≡ 0 = disorder_in_parts low w xs ys (omega (arith, h)) k in omega (arith, h, rest)
disorder_in_parts low w (stmt.AreaWrite z p e ∷ xs) ys h k =
    let rest : disorder low w (xs ++ ys) ≡ 0 = disorder_in_parts low w xs ys (omega (arith, h)) k in omega (arith, h, rest)
disorder_in_parts low w (x ∷ xs) ys h k = absurd (omega (arith, h))

-- what may be read from one on may be read from a lower one on
lower_missed : (from low w : ℕ) (vs : List Var) → from ≤ low → missed low w vs ≡ 0 → missed from w vs ≡ 0
lower_missed from low w [] below h = refl
lower_missed from low w (var.Local i ∷ vs) below h =
    let others : missed from w vs ≡ 0 = lower_missed from low w vs below (omega (arith, h)) in omega (arith, h, others)
lower_missed from low w (v ∷ vs) below h = lower_missed from low w vs below h

pub lower_start : (from low w : ℕ) (xs : List Stmt) → from ≤ low → disorder low w xs ≡ 0 → disorder from w xs ≡ 0
lower_start from low w [] below h = refl
lower_start from low w (stmt.Assign (var.Local i) e ∷ xs) below h =
    let here : missed from w (reads_of e) ≡ 0 = lower_missed from low w (reads_of e) below (omega (arith, h)) in
    let others : disorder from (suc w) xs ≡ 0 = lower_start from low (suc w) xs below (omega (arith, h)) in
    omega (arith, h, here, others)
lower_start from low w (stmt.Assign v e ∷ xs) below h =
    let here : missed from w (reads_of e) ≡ 0 = lower_missed from low w (reads_of e) below (omega (arith, h)) in
    let others : disorder from w xs ≡ 0 = lower_start from low w xs below (omega (arith, h)) in
    omega (arith, here, others)
lower_start from low w (stmt.AreaWrite z p e ∷ xs) below h =
    let one : missed from w (reads_of p) ≡ 0 = lower_missed from low w (reads_of p) below (omega (arith, h)) in
    let two : missed from w (reads_of e) ≡ 0 = lower_missed from low w (reads_of e) below (omega (arith, h)) in
    let others : disorder from w xs ≡ 0 = lower_start from low w xs below (omega (arith, h)) in
    omega (arith, one, two, others)
lower_start from low w (x ∷ xs) below h = absurd (omega (arith, h))

-- locals that lie among those written are written
all_written : (low w : ℕ) (written : List ℕ) (vs : List Var) → missed low w vs ≡ 0
    → ((i : ℕ) → low ≤ i → i < w → IsWritten written i) → AreWritten written (locals_of vs)
all_written low w written [] h has = All-nil (IsWritten written)
all_written low w written (var.Local i ∷ vs) h has =
    All-cons (IsWritten written) i (locals_of vs) (has i (omega (arith, h)) (omega (arith, h))) (all_written low w written vs (omega (arith, h)) has)
all_written low w written (v ∷ vs) h has = all_written low w written vs h has

-- one more local is written
one_more : (low w i : ℕ) (written : List ℕ) → i ≡ w → ((j : ℕ) → low ≤ j → j < w → IsWritten written j) → (j : ℕ) → low ≤ j → j < suc w
    → IsWritten (i ∷ written) j
one_more low w i written e has j above h =
    ⊎_elim (λ (same : suc j ≡ suc w). inl (omega (arith, same, e)))
    (λ (less : suc j < suc w). inr (has j above (omega (arith, less)))) (eq-or-lt_of_le h)

-- what an assignment and an area write leave written
after_assign : (written : List ℕ) (v : Var) (e : Expr) → written_after written (stmt.Assign v e) ≡ written_step written (S.Assign v e)
after_assign written v e = ap (written_step written) (out_assign v e)

after_area_write : (written : List ℕ) (z : Width) (p e : Expr) → written_after written (stmt.AreaWrite z p e) ≡ written
after_area_write written z p e = ap (written_step written) (out_area_write z p e)

-- what statements in order are, that begin where the locals from the lowest one on are written up to so many: a run,
-- after which more are written
pub record IsInOrder (low w : ℕ) (written : List ℕ) (xs : List Stmt) : Type 0 where
  pub run : AreOfRun written xs
  pub more : (i : ℕ) → low ≤ i → i < w + locals_set xs → IsWritten (written_by_more written xs) i

-- one statement, and then others
module _ (written : List ℕ) (x : Stmt) (rest : List Stmt) (vs : List Var)
    (reads : read_by x ≡ vs) (after : List ℕ) (writes : written_after written x ≡ after) where
  one_run : AreWritten written (locals_of vs) → AreOfRun after rest → AreOfRun written (x ∷ rest)
  one_run h k =
      (subst (λ (us : List Var). AreWritten written (locals_of us)) (sym reads) h, subst (λ (now : List ℕ). AreOfRun now rest) (sym writes) k)

  one_by : written_by_more written (x ∷ rest) ≡ written_by_more after rest
  one_by = ap (λ (now : List ℕ). written_by_more now rest) writes

pub in_order : (low w : ℕ) (written : List ℕ) (xs : List Stmt) → disorder low w xs ≡ 0
    → ((i : ℕ) → low ≤ i → i < w → IsWritten written i) → IsInOrder low w written xs
in_order low w written [] h has = record { run = tt; more = λ i above less. has i above (omega (arith, less)) }
in_order low w written (stmt.Assign (var.Local i) e ∷ rest) h has =
    let v : Var = var.Local i in
    let others = in_order low (suc w) (i ∷ written) rest (omega (arith, h)) (one_more low w i written (omega (arith, h)) has) in
    let x : Stmt = stmt.Assign v e in
    record {
      run =
          one_run written x rest (reads_of e) (read_by_assign v e) (i ∷ written) (after_assign written v e)
          (all_written low w written (reads_of e) (omega (arith, h)) has) others.run;
      more = λ j above less.
          subst (λ (now : List ℕ). IsWritten now j) (sym (one_by written x rest (reads_of e) (read_by_assign v e) (i ∷ written) (after_assign written v e)))
          (others.more j above (omega (arith, less)));
    }
in_order low w written (stmt.AreaWrite z p e ∷ rest) h has =
    let others = in_order low w written rest (omega (arith, h)) has in
    let x : Stmt = stmt.AreaWrite z p e in
    let few : missed low w (reads_of p ++ reads_of e) ≡ 0 = omega (arith, h, missed_in_parts low w (reads_of p) (reads_of e)) in
    record {
      run = one_run written x rest (reads_of p ++ reads_of e) (read_by_area_write z p e) written (after_area_write written z p e)
          (all_written low w written (reads_of p ++ reads_of e) few has) others.run;
      more = λ j above less.
          subst (λ (now : List ℕ). IsWritten now j)
          (sym (one_by written x rest (reads_of p ++ reads_of e) (read_by_area_write z p e) written (after_area_write written z p e)))
          (others.more j above less);
    }
in_order low w written (stmt.Assign v e ∷ rest) h has =
    let others = in_order low w written rest (omega (arith, h)) has in
    let x : Stmt = stmt.Assign v e in
    record {
      run =
          one_run written x rest (reads_of e) (read_by_assign v e) written (after_assign written v e)
          (all_written low w written (reads_of e) (omega (arith, h)) has) others.run;
      more = λ j above less.
          subst (λ (now : List ℕ). IsWritten now j)
          (sym (one_by written x rest (reads_of e) (read_by_assign v e) written (after_assign written v e))) (others.more j above less);
    }
in_order low w written (x ∷ rest) h has = absurd (omega (arith, h))

-- they have no IF
no_bodies : (low w : ℕ) (xs : List Stmt) → disorder low w xs ≡ 0 → bodies_in xs ≡ []
no_bodies low w [] h = refl
no_bodies low w (stmt.Assign (var.Local i) e ∷ rest) h =
    ap (λ (y : S.Stmt-F Stmt Arm CaseArm). bodies_step y ++ bodies_in rest) (out_assign (var.Local i) e) ∙ no_bodies low (suc w) rest (omega (arith, h))
no_bodies low w (stmt.Assign v e ∷ rest) h =
    ap (λ (y : S.Stmt-F Stmt Arm CaseArm). bodies_step y ++ bodies_in rest) (out_assign v e) ∙ no_bodies low w rest (omega (arith, h))
no_bodies low w (stmt.AreaWrite z p e ∷ rest) h =
    ap (λ (y : S.Stmt-F Stmt Arm CaseArm). bodies_step y ++ bodies_in rest) (out_area_write z p e) ∙ no_bodies low w rest (omega (arith, h))
no_bodies low w (x ∷ rest) h = absurd (omega (arith, h))

-- so those that begin with no local are runs
pub are_of_runs : (xs : List Stmt) → disorder 0 0 xs ≡ 0 → AreOfRuns xs
are_of_runs xs h =
    let own = in_order 0 0 [] xs h (λ i above less. absurd (omega (arith, less))) in
    record { own = own.run; inner = subst (All (AreOfRun [])) (sym (no_bodies 0 0 xs h)) (All-nil (AreOfRun [])) }

-- the disorder of given statements, as a number
pub ruleset order_equations = (
  missed_in_parts,
  reads_of_literal,
  reads_of_read,
  reads_of_unary,
  reads_of_binary,
  reads_of_convert,
  reads_of_select,
  reads_of_shift,
  reads_of_area_read,
)

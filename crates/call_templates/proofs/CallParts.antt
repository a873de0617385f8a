-- Parts of the statements of calls: they are steps without an IF, few and small, read such registers alone, and write
-- their locals in order.
use Rattle.std.proofs.Common.{◌≡◌, ℕ, ◌+◌, ◌<◌, ◌≤◌, List, [], ◌∷◌, ◌++◌, length, inl, inr, ⊎_elim, refl, sym, ap, subst, ◌∙◌, arith}
use Rattle.std.specs.Prelude.{All}
use Rattle.std.specs.List.{flat_map, sum_by}
use Rattle.std.proofs.Math.Nat.{eq-or-lt_of_le}
use Rattle.std.proofs.lemmas.List.{append-nil, length-append}
use Rattle.std.proofs.lemmas.List.Elements.{All-cons, All-head, All-nil, All-tail}
use Rattle.graph_rules.proofs.Runs.{read_by_assign}
use Rattle.graph_rules.specs.Plain.{AreSteps, IsStep}
use Rattle.graph_rules.specs.Runs.{AreWritten, IsWritten, bodies_in, bodies_step, locals_of, read_by, written_after, written_step}
use Rattle.s7_base.specs.declared.register.Reg.{Reg}
use Rattle.st_tree.proofs.Common.{flat_map-append}
use Rattle.st_tree.proofs.PartEquations.{expressions_in_append, gathered_first, inner_rolled, out_assign}
use Rattle.st_tree.specs.BodyParts.{call_step, expressions_in, expressions_step, inner_statements, reads_in, reads_of as variables_of, statements_in}
use Rattle.st_tree.specs.declared.expr.Expr.{Expr}
use Rattle.st_tree.specs.declared.expr.Var.{Var}
use Rattle.st_tree.specs.declared.expr.Var.TheVariants as var
use Rattle.st_tree.specs.declared.program.Arm.{Arm}
use Rattle.st_tree.specs.declared.program.CaseArm.{CaseArm}
use Rattle.st_tree.specs.declared.program.Stmt.{Stmt, out-Stmt, roll-Stmt, out-roll-Stmt}
use Rattle.st_tree.specs.declared.program.Stmt.TheOpen as S
use Rattle.st_tree.specs.declared.program.Stmt.TheVariants as stmt
use Rattle.template_parts.proofs.Obligations.{order_in_parts, ordered}
use Rattle.template_parts.proofs.ReadRegisters.{Reads, assigned_reads, both_read}
use Rattle.template_parts.proofs.Sizes.{of_append, of_assign, of_nothing}
use Rattle.template_parts.specs.Nodes.{nodes, nodes_in}
use Rattle.template_parts.specs.Reading.{EachRegister}
use Rattle.template_parts.specs.Templates.{AreInOrder, AreThere}

pub record IsPart (P : Reg → Type 0) (low first count most size : ℕ) (body : List Stmt) : Type 0 where
  pub steps : AreSteps body
  pub guards : bodies_in body ≡ []
  pub few : length (statements_in body) ≤ most
  pub small : nodes_in body ≤ size
  pub reads : EachRegister P (reads_in body)
  pub locals : AreInOrder low first count body

-- One after another

pub steps_in_parts : (xs ys : List Stmt) → AreSteps xs → AreSteps ys → AreSteps (xs ++ ys)
steps_in_parts [] ys h k = k
steps_in_parts (x ∷ xs) ys h k = (h.0, steps_in_parts xs ys h.1 k)

pub reads_in_parts : (xs ys : List Stmt) → reads_in (xs ++ ys) ≡ reads_in xs ++ reads_in ys
reads_in_parts xs ys = ap (flat_map variables_of) (expressions_in_append xs ys) ∙ flat_map-append variables_of (expressions_in xs) (expressions_in ys)

pub statements_in_parts : (xs ys : List Stmt) → length (statements_in (xs ++ ys)) ≡ length (statements_in xs) + length (statements_in ys)
statements_in_parts xs ys =
    ap length (flat_map-append (λ (x : Stmt). x ∷ inner_statements x) xs ys) ∙ length-append (statements_in xs) (statements_in ys)

pub guards_in_parts : (xs ys : List Stmt) → bodies_in xs ≡ [] → bodies_in ys ≡ [] → bodies_in (xs ++ ys) ≡ []
guards_in_parts xs ys h k =
    flat_map-append (λ (x : Stmt). bodies_step (out-Stmt x)) xs ys ∙ ap (λ (bodies : List (List Stmt)). bodies ++ bodies_in ys) h ∙ k

module _ (P : Reg → Type 0) (low : ℕ) where
  pub both_parts : (first middle one two a b m n : ℕ) (xs ys : List Stmt) → middle ≡ first + one → IsPart P low first one a m xs
      → IsPart P low middle two b n ys → IsPart P low first (one + two) (a + b) (m + n) (xs ++ ys)
  both_parts first middle one two a b m n xs ys e h k =
      record {
        steps = steps_in_parts xs ys h.steps k.steps;
        guards = guards_in_parts xs ys h.guards k.guards;
        few = omega (arith, statements_in_parts xs ys, h.few, k.few);
        small = omega (arith, of_append xs ys, h.small, k.small);
        reads = subst (EachRegister P) (sym (reads_in_parts xs ys)) (both_read P (reads_in xs) (reads_in ys) h.reads k.reads);
        locals = order_in_parts low first middle one two xs ys e h.locals k.locals;
      }

  -- one that writes no locals, and another
  pub then_part : (first count a b m n : ℕ) (xs ys : List Stmt) → IsPart P low first 0 a m xs → IsPart P low first count b n ys
      → IsPart P low first count (a + b) (m + n) (xs ++ ys)
  then_part first count a b m n xs ys h k =
      let e : 0 + count ≡ count = omega arith in
      subst (λ (c : ℕ). IsPart P low first c (a + b) (m + n) (xs ++ ys)) e (both_parts first first 0 count a b m n xs ys (omega arith) h k)

  -- with other numbers
  pub more_part : (first count other a b m n : ℕ) (xs : List Stmt) → count ≡ other → a ≤ b → m ≤ n → IsPart P low first count a m xs
      → IsPart P low first other b n xs
  more_part first count other a b m n xs e f g h =
      record {
        steps = h.steps;
        guards = h.guards;
        few = omega (arith, h.few);
        small = omega (arith, h.small);
        reads = h.reads;
        locals = subst (λ (c : ℕ). AreInOrder low first c xs) e h.locals;
      }

  pub no_part : (first : ℕ) → IsPart P low first 0 0 0 []
  no_part first =
      record { steps = tt; guards = refl; few = omega arith; small = omega (arith, of_nothing); reads = tt; locals = ordered low first 0 [] refl refl }

-- Single statements

inner_none : {x : Stmt} (y : S.Stmt-F Stmt Arm CaseArm) → roll-Stmt y ≡ x → inner_statements (roll-Stmt y) ≡ [] → length (statements_in (x ∷ [])) ≤ 1
inner_none {x} y e none =
    let one : length (statements_in (x ∷ [])) ≡ 1 =
    ap (λ (z : Stmt). length (statements_in (z ∷ []))) (sym e) ∙ ap (λ (inner : List Stmt). length ((roll-Stmt y ∷ inner) ++ [])) none in
    omega arith

-- locals that lie between those that are written are written
all_between : (low first : ℕ) (written : List ℕ) (locals : List ℕ) → All (λ (i : ℕ). (low ≤ i) × (i < first)) locals → (from : ℕ) → from ≤ low
    → AreThere written from first → AreWritten written locals
all_between low first written [] h from below there = All-nil (IsWritten written)
all_between low first written (i ∷ locals) h from below there =
    let one : (low ≤ i) × (i < first) = All-head (λ (i : ℕ). (low ≤ i) × (i < first)) i locals h in
    let least : low ≤ i = one.0 in
    All-cons (IsWritten written) i locals (there i (omega arith) one.1)
    (all_between low first written locals (All-tail (λ (i : ℕ). (low ≤ i) × (i < first)) i locals h) from below there)

-- the locals that a statement reads, which writes none, lie between them
abbrev pub ReadBetween : ℕ → ℕ → List Var → Type 0
ReadBetween low first vs = All (λ (i : ℕ). (low ≤ i) × (i < first)) (locals_of vs)

pub one_order : (low first : ℕ) (x : Stmt) (vs : List Var) → read_by x ≡ vs → ((written : List ℕ) → written_after written x ≡ written)
    → ReadBetween low first vs → AreInOrder low first 0 (x ∷ [])
one_order low first x vs reads writes h =
    record {
      run = λ from written below there.
          (subst (λ (us : List Var). AreWritten written (locals_of us)) (sym reads) (all_between low first written (locals_of vs) h from below there), tt);
      more = λ from written below there i above less.
          subst (λ (now : List ℕ). IsWritten now i) (sym (writes written)) (there i above (omega arith));
    }

module _ (P : Reg → Type 0) (low : ℕ) where
  assigned_with : (first count : ℕ) (v : Var) (e : Expr) → nodes e ≡ 1 → Reads P e → AreInOrder low first count (stmt.Assign v e ∷ [])
      → IsPart P low first count 1 1 (stmt.Assign v e ∷ [])
  assigned_with first count v e one reads order =
      record {
        steps = (subst IsStep (sym (out_assign v e)) tt, tt);
        guards = ap (λ (y : S.Stmt-F Stmt Arm CaseArm). bodies_step y ++ []) (out_assign v e);
        few = inner_none (S.Assign v e) (stmt.rolls-Assign v e) (inner_rolled (S.Assign v e));
        small = omega (arith, of_assign v e [], one, of_nothing);
        reads = assigned_reads P v e [] reads tt;
        locals = order;
      }

  -- the next local takes a value
  pub local_part : (first : ℕ) (e : Expr) → nodes e ≡ 1 → Reads P e → locals_of (variables_of e) ≡ []
      → IsPart P low first 1 1 1 (stmt.Assign (var.Local first) e ∷ [])
  local_part first e one reads none =
      assigned_with first 1 (var.Local first) e one reads
      (record {
        run = λ from written below there. (
          subst (λ (us : List Var). AreWritten written (locals_of us)) (sym (read_by_assign (var.Local first) e))
              (subst (AreWritten written) (sym none) (All-nil (IsWritten written))),
          tt,
        );
        more = λ from written below there i above less.
            subst (λ (now : List ℕ). IsWritten now i) (sym (ap (written_step written) (out_assign (var.Local first) e)))
            (one_more from first i written above less there);
      })
    where
      one_more : (from first i : ℕ) (written : List ℕ) → from ≤ i → i < first + 1 → AreThere written from first → IsWritten (first ∷ written) i
      one_more from first i written above less there =
          let h : i ≤ first = omega arith in
          ⊎_elim (λ (same : i ≡ first). inl same) (λ (before : i < first). inr (there i above before)) (eq-or-lt_of_le h)

  -- another variable does
  pub other_part : (first : ℕ) (v : Var) (e : Expr) → ((written : List ℕ) → written_step written (S.Assign v e) ≡ written) → nodes e ≡ 1 → Reads P e
      → ReadBetween low first (variables_of e) → IsPart P low first 0 1 1 (stmt.Assign v e ∷ [])
  other_part first v e writes one reads between =
      assigned_with first 0 v e one reads
      (one_order low first (stmt.Assign v e) (variables_of e) (read_by_assign v e) (λ written. ap (written_step written) (out_assign v e) ∙ writes written)
      between)

  -- a call
  pub invoke_part : (first unit : ℕ) (vars : List Var) → ReadBetween low first vars → IsPart P low first 0 1 0 (stmt.Invoke unit vars ∷ [])
  invoke_part first unit vars between =
      let none : expressions_in (stmt.Invoke unit vars ∷ []) ≡ [] =
      gathered_first expressions_step (S.Invoke unit vars) (stmt.rolls-Invoke unit vars) [] in
      let out : out-Stmt (stmt.Invoke unit vars) ≡ S.Invoke unit vars =
      ap out-Stmt (sym (stmt.rolls-Invoke unit vars)) ∙ out-roll-Stmt (S.Invoke unit vars) in
      record {
        steps = (subst IsStep (sym out) tt, tt);
        guards = ap (λ (y : S.Stmt-F Stmt Arm CaseArm). bodies_step y ++ []) out;
        few = inner_none (S.Invoke unit vars) (stmt.rolls-Invoke unit vars) (inner_rolled (S.Invoke unit vars));
        small = omega (arith, ap (sum_by nodes) none);
        reads = subst (EachRegister P) (sym (ap (flat_map variables_of) none)) tt;
        locals =
            one_order low first (stmt.Invoke unit vars) vars
            (ap
            (λ (y : S.Stmt-F Stmt Arm CaseArm). flat_map variables_of (expressions_step y) ++ flat_map (λ (call : ℕ × List Var). call.1) (call_step y)) out
            ∙ append-nil vars)
            (λ written. ap (written_step written) out) between;
      }

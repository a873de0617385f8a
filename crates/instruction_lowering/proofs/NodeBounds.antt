-- The exit of a node: its test is a local that the node has set, and with it the node is no larger than its instructions
-- may be.
use Rattle.std.proofs.Common.{◌≡◌, ℕ, suc, ◌+◌, ◌-◌, ◌<◌, ◌≤◌, true, List, [], ◌∷◌, ◌++◌, length, Some, refl, sym, ap, subst, ◌∙◌, arith}
use Rattle.std.specs.Prelude.{All}
use Rattle.std.specs.List.{flat_map, sum_by}
use Rattle.std.proofs.lemmas.List.{length-append}
use Rattle.std.proofs.lemmas.List.Elements.{All-cons, All-head, All-nil, All-tail}
use Rattle.std.proofs.lemmas.Option.{slice_get_within}
use Rattle.flow_graph.specs.Graphs.{BeginsAt}
use Rattle.flow_graph.specs.declared.graph.Exit.{Exit}
use Rattle.flow_graph.specs.declared.graph.Exit.TheVariants as way
use Rattle.flow_graph.specs.declared.graph.Node.{Node}
use Rattle.flow_laws.specs.Ways.{AreListedTo, Goes, GoesBy}
use Rattle.graph_rules.proofs.Divisors as division
use Rattle.graph_rules.specs.Divisors.{IsSureDivisor, divisors_of}
use Rattle.graph_rules.specs.Plain.{HasSureTest, LeadsInside, is_faultless, test_of, tests_of}
use Rattle.graph_rules.specs.Runs.{AreWritten, IsWritten, locals_of}
use Rattle.instruction_lowering.proofs.Bodies.{low_after, low_behind, low_used, tests_by, tests_in}
use Rattle.instruction_lowering.proofs.LocalTests.{choice_calls, choice_expressions, choice_nesting, choice_typed, selection_calls, selection_expressions, selection_nesting, selection_typed, sure_local}
use Rattle.instruction_lowering.proofs.SpotLaws.{HasItsOperand, no_locals_used}
use Rattle.instruction_lowering.specs.Lowered.{IsExitOf}
use Rattle.instruction_lowering.specs.inner.Lowering.{exit_with, used_behind}
use Rattle.instruction_lowering.specs.inner.Templates.{context_after}
use Rattle.instruction_lowering.specs.declared.statements.LoweringContext.{LoweringContext}
use Rattle.instruction_lowering.specs.inner.Temporaries.{types_in, types_of}
use Rattle.s7_base.specs.declared.register.Reg.{Reg}
use Rattle.st_tree.proofs.PartEquations.{height_read, reads_of_read}
use Rattle.st_tree.specs.BodyParts.{reads_of as variables_of}
use Rattle.st_tree.specs.WellTyped.{UnitScope, variable_type}
use Rattle.st_tree.specs.declared.expr.Expr.{Expr}
use Rattle.st_tree.specs.declared.expr.StType.TheVariants as type
use Rattle.st_tree.specs.declared.expr.Var.{Var}
use Rattle.st_tree.specs.declared.expr.Var.TheVariants as var
use Rattle.stl_tree.specs.Accepted.{HasOperand, HaveOperands, Widths}
use Rattle.stl_tree.specs.declared.program.Block.{Block}
use Rattle.stl_tree.specs.declared.program.Instr.{Instr}
use Rattle.stl_tree.specs.declared.program.JumpTest.TheVariants as jump
use Rattle.stl_tree.specs.declared.program.Op.{Op}
use Rattle.stl_tree.specs.declared.program.Op.TheVariants as op
use Rattle.template_parts.proofs.Sizes.{of_read}
use Rattle.template_parts.proofs.Typing.{first_typed, left_typed, no_statement, right_typed}
use Rattle.template_parts.specs.Builders.{local_of}
use Rattle.template_parts.specs.Nodes.{nodes}
use Rattle.template_parts.specs.Reading.{EachRegister}
use Rattle.template_parts.specs.Templates.{AreTyped, IsLow, IsPlainBody}

none_divides : {all : List Expr} → all ≡ [] → All IsSureDivisor all
none_divides e = subst (All IsSureDivisor) (sym e) (All-nil IsSureDivisor)

-- How many tests

tests_types : (program : List Block) (o : Op) → tests_by o ≤ length (types_of program o)
tests_types program (op.Jump jump.Always to) = omega arith
tests_types program (op.Jump t to) = omega arith
tests_types program (op.Loop to) = omega arith
tests_types program (op.JumpList count label) = omega arith
tests_types program op.BlockEndIf = omega arith
tests_types program o = omega arith

pub tests_locals : (program : List Block) (is : List Instr) → tests_in is ≤ length (types_in program is)
tests_locals program [] = omega arith
tests_locals program (i ∷ is) =
    let one : tests_by i.op ≤ length (types_of program i.op) = tests_types program i.op in
    let others : tests_in is ≤ length (types_in program is) = tests_locals program is in
    omega (arith, length-append (types_of program i.op) (types_in program is))

-- how many an exit has
abbrev pub many : Exit → ℕ
many way.Fall = 0
many (way.Jump j) = 0
many (way.Branch j) = 1
many way.EndIf = 1
many (way.Table js j) = 1
many way.End = 0

pub many_tests : (l : ℕ) (e : Exit) → length (tests_of (exit_with l e)) ≡ many e
many_tests l way.Fall = refl
many_tests l (way.Jump j) = refl
many_tests l (way.Branch j) = refl
many_tests l way.EndIf = refl
many_tests l (way.Table js j) = refl
many_tests l way.End = refl

pub nodes_of_tests : (l : ℕ) (e : Exit) → sum_by nodes (tests_of (exit_with l e)) ≡ many e
nodes_of_tests l way.Fall = refl
nodes_of_tests l (way.Jump j) = refl
nodes_of_tests l (way.Branch j) = omega (arith, of_read (var.Local l))
nodes_of_tests l way.EndIf = omega (arith, of_read (var.Local l))
nodes_of_tests l (way.Table js j) = omega (arith, of_read (var.Local l))
nodes_of_tests l way.End = refl

module _ (blocks : List Node) (i : ℕ) (formals : Widths) where
  few_by : (at : ℕ) (o : Op) (rest : List Instr) (e : Exit) (later : Type 0) → GoesBy blocks i at o rest e later
      → (later → many e ≤ tests_in rest) → many e ≤ tests_by o + tests_in rest
  few_by at (op.Jump jump.Always to) rest e later h others = let one : many e ≡ 0 = ap many h.exit in omega arith
  few_by at (op.Jump t to) rest e later h others = let one : many e ≡ 1 = ap many h.exit in omega arith
  few_by at (op.Loop to) rest e later h others = let one : many e ≡ 1 = ap many h.exit in omega arith
  few_by at (op.JumpList count label) rest e later h others = let one : many e ≡ 1 = ap many h.exit in omega arith
  few_by at op.BlockEnd rest e later h others = let one : many e ≡ 0 = ap many h.exit in omega arith
  few_by at op.BlockEndIf rest e later h others = let one : many e ≡ 1 = ap many h.exit in omega arith
  few_by at o rest e later h others = let more : many e ≤ tests_in rest = others h in omega arith

  pub few_tests : (is : List Instr) (at : ℕ) (e : Exit) → Goes blocks i at is e → many e ≤ tests_in is
  few_tests [] at e h = let none : many e ≡ 0 = ap many h.0 in omega arith
  few_tests (y ∷ is) at e h = few_by at y.op is e (Goes blocks i (at + 1) is e) h (λ later. few_tests is (at + 1) e later)

  -- Where an exit leads

  begins_within : (j to : ℕ) → BeginsAt blocks j to → j < length blocks
  begins_within j to h = slice_get_within blocks j h.0 h.1

  -- a table has as many entries as the list has JU
  all_within : (is : List Instr) (js : List ℕ) → AreListedTo blocks is js → All (λ (j : ℕ). j < length blocks) js × (length is ≡ length js)
  all_within [] [] h = (All-nil (λ (j : ℕ). j < length blocks), refl)
  all_within [] (j ∷ js) h = elim h [ ]
  all_within (y ∷ is) [] h = elim h [ ]
  all_within (y ∷ is) (j ∷ js) h =
      let others = all_within is js h.1 in
      (All-cons (λ (j : ℕ). j < length blocks) j js (begins_within j h.0.0 h.0.2) others.0, ap suc others.1)

  abbrev Leads : ℕ → Exit → Type 0
  Leads l e = LeadsInside (length blocks) i (exit_with l e)

  leads_by : (l at : ℕ) (o : Op) (rest : List Instr) (e : Exit) (later : Type 0)
      → HasOperand formals o → GoesBy blocks i at o rest e later → (later → Leads l e) → Leads l e
  leads_by l at (op.Jump jump.Always to) rest e later operand h others = subst (Leads l) (sym h.exit) (begins_within h.node to h.there)
  leads_by l at (op.Jump t to) rest e later operand h others =
      subst (Leads l) (sym h.exit) (begins_within (suc i) (at + 1) h.behind, begins_within h.node to h.there)
  leads_by l at (op.Loop to) rest e later operand h others =
      subst (Leads l) (sym h.exit) (begins_within (suc i) (at + 1) h.behind, begins_within h.node to h.there)
  leads_by l at (op.JumpList count label) rest e later operand h others =
      let some : 1 ≤ count = operand.0 in
      let most : count ≤ 255 = operand.1 in
      let within = all_within rest h.nodes h.listed in
      let long : length h.nodes ≡ count = sym within.1 ∙ h.count in
      subst (Leads l) (sym h.exit) (omega arith, omega arith, within.0, h.next, begins_within h.node label h.there)
  leads_by l at op.BlockEnd rest e later operand h others = subst (Leads l) (sym h.exit) tt
  leads_by l at op.BlockEndIf rest e later operand h others = subst (Leads l) (sym h.exit) (begins_within (suc i) (at + 1) h.behind)
  leads_by l at o rest e later operand h others = others h

  pub leads_inside : (l : ℕ) (is : List Instr) (at : ℕ) (e : Exit) → HaveOperands formals is → Goes blocks i at is e → Leads l e
  leads_inside l [] at e operands h = subst (Leads l) (sym h.0) (begins_within (suc i) at h.1)
  leads_inside l (y ∷ is) at e operands h =
      leads_by l at y.op is e (Goes blocks i (at + 1) is e) (All-head (HasItsOperand formals) y is operands) h
      (λ later. leads_inside l is (at + 1) e (All-tail (HasItsOperand formals) y is operands) later)

  -- Where the local of a test is written

  -- the JU of a list end no run
  low_listed : (program : List Block) (q : LoweringContext) (is : List Instr) (js : List ℕ) (low : ℕ) → AreListedTo blocks is js
      → low_behind program q is low ≡ low
  low_listed program q [] [] low h = refl
  low_listed program q [] (j ∷ js) low h = elim h [ ]
  low_listed program q (y ∷ is) [] low h = elim h [ ]
  low_listed program q (y ∷ is) (j ∷ js) low h =
      ap (λ (o : Op). low_behind program (context_after program o q) is (low_after program q o low)) h.0.1
      ∙ low_listed program (context_after program (op.Jump jump.Always h.0.0) q) is js low h.1

  -- the last local belongs to the last run
  abbrev IsLate : List Block → LoweringContext → ℕ → Op → List Instr → Type 0
  IsLate program q low o rest =
      low_behind program (context_after program o q) rest (low_after program q o low) < used_behind program (context_after program o q) rest

  late_by : (program : List Block) (q : LoweringContext) (low at : ℕ) (o : Op) (rest : List Instr) (e : Exit) (later : Type 0) → low ≤ q.used
      → 1 ≤ many e → GoesBy blocks i at o rest e later → (later → IsLate program q low o rest) → IsLate program q low o rest
  late_by program q low at (op.Jump jump.Always to) rest e later above some h others =
      let none : many e ≡ 0 = ap many h.exit in absurd (omega arith)
  late_by program q low at (op.Jump t to) rest e later above some h others =
      subst (IsLate program q low (op.Jump t to)) (sym h.last) (omega arith)
  late_by program q low at (op.Loop to) rest e later above some h others =
      subst (IsLate program q low (op.Loop to)) (sym h.last) (omega arith)
  late_by program q low at (op.JumpList count label) rest e later above some h others =
      let ctx : LoweringContext = context_after program (op.JumpList count label) q in
      let same : low_behind program ctx rest low ≡ low = low_listed program ctx rest h.nodes low h.listed in
      let used : used_behind program ctx rest ≡ q.used + 1 = no_locals_used program blocks ctx rest h.nodes h.listed in
      omega arith
  late_by program q low at op.BlockEnd rest e later above some h others =
      let none : many e ≡ 0 = ap many h.exit in absurd (omega arith)
  late_by program q low at op.BlockEndIf rest e later above some h others =
      subst (IsLate program q low op.BlockEndIf) (sym h.last) (omega arith)
  late_by program q low at o rest e later above some h others = others h

  pub test_late : (program : List Block) (is : List Instr) (q : LoweringContext) (low at : ℕ) (e : Exit) → low ≤ q.used → Goes blocks i at is e
      → 1 ≤ many e → low_behind program q is low < used_behind program q is
  test_late program [] q low at e above h some = let none : many e ≡ 0 = ap many h.0 in absurd (omega arith)
  test_late program (y ∷ is) q low at e above h some =
      late_by program q low at y.op is e (Goes blocks i (at + 1) is e) above some h
      (λ later. test_late program is (context_after program y.op q) (low_after program q y.op low) (at + 1) e (low_used program y.op q low above) later some)

  -- How the last local is typed

  module _ (program : List Block) (sight : UnitScope) where
    -- the local that an exit tests has the type of its test
    abbrev pub IsTyped : ℕ → Exit → Type 0
    IsTyped l way.Fall = Unit {0}
    IsTyped l (way.Jump j) = Unit {0}
    IsTyped l (way.Branch j) = variable_type sight (var.Local l) ≡ Some type.Bool
    IsTyped l way.EndIf = variable_type sight (var.Local l) ≡ Some type.Bool
    IsTyped l (way.Table js j) = variable_type sight (var.Local l) ≡ Some type.Dint
    IsTyped l way.End = Unit {0}

    last_is : (used count : ℕ) → count ≡ 1 → (used + count) - 1 ≡ used
    last_is used count e = omega arith

    no_types : (is : List Instr) (js : List ℕ) → AreListedTo blocks is js → length (types_in program is) ≡ 0
    no_types [] [] h = refl
    no_types [] (j ∷ js) h = elim h [ ]
    no_types (y ∷ is) [] h = elim h [ ]
    no_types (y ∷ is) (j ∷ js) h =
        let none : length (types_of program y.op) ≡ 0 = ap (λ (o : Op). length (types_of program o)) h.0.1 in
        let others : length (types_in program is) ≡ 0 = no_types is js h.1 in
        omega (arith, length-append (types_of program y.op) (types_in program is))

    typed_by : (at used count : ℕ) (o : Op) (rest : List Instr) (e : Exit) (later : Type 0) → AreTyped sight used (types_of program o)
        → length (types_in program rest) ≡ count → GoesBy blocks i at o rest e later
        → (later → IsTyped ((used + length (types_of program o) + count) - 1) e) → IsTyped ((used + length (types_of program o) + count) - 1) e
    typed_by at used count (op.Jump jump.Always to) rest e later own long h others =
        subst (IsTyped ((used + 0 + count) - 1)) (sym h.exit) tt
    typed_by at used count (op.Jump t to) rest e later own long h others =
        let none : count ≡ 0 = sym long ∙ ap (λ (is : List Instr). length (types_in program is)) h.last in
        let last : (used + 1 + count) - 1 ≡ used = omega arith in
        subst (IsTyped ((used + 1 + count) - 1)) (sym h.exit)
        (subst (λ (l : ℕ). variable_type sight (var.Local l) ≡ Some type.Bool) (sym last) (first_typed sight used type.Bool [] own))
    typed_by at used count (op.Loop to) rest e later own long h others =
        let none : count ≡ 0 = sym long ∙ ap (λ (is : List Instr). length (types_in program is)) h.last in
        let last : (used + 1 + count) - 1 ≡ used = omega arith in
        subst (IsTyped ((used + 1 + count) - 1)) (sym h.exit)
        (subst (λ (l : ℕ). variable_type sight (var.Local l) ≡ Some type.Bool) (sym last) (first_typed sight used type.Bool [] own))
    typed_by at used count (op.JumpList n label) rest e later own long h others =
        let none : count ≡ 0 = sym long ∙ no_types rest h.nodes h.listed in
        let last : (used + 1 + count) - 1 ≡ used = omega arith in
        subst (IsTyped ((used + 1 + count) - 1)) (sym h.exit)
        (subst (λ (l : ℕ). variable_type sight (var.Local l) ≡ Some type.Dint) (sym last) (first_typed sight used type.Dint [] own))
    typed_by at used count op.BlockEnd rest e later own long h others = subst (IsTyped ((used + 0 + count) - 1)) (sym h.exit) tt
    typed_by at used count op.BlockEndIf rest e later own long h others =
        let none : count ≡ 0 = sym long ∙ ap (λ (is : List Instr). length (types_in program is)) h.last in
        let last : (used + 1 + count) - 1 ≡ used = omega arith in
        subst (IsTyped ((used + 1 + count) - 1)) (sym h.exit)
        (subst (λ (l : ℕ). variable_type sight (var.Local l) ≡ Some type.Bool) (sym last) (first_typed sight used type.Bool [] own))
    typed_by at used count o rest e later own long h others = others h

    -- the last local of a node, where so many are used before it
    pub test_typed : (is : List Instr) (at used : ℕ) (e : Exit) → AreTyped sight used (types_in program is) → Goes blocks i at is e
        → IsTyped ((used + length (types_in program is)) - 1) e
    test_typed [] at used e own h = subst (IsTyped ((used + 0) - 1)) (sym h.0) tt
    test_typed (y ∷ is) at used e own h =
        let parts : used + length (types_of program y.op) + length (types_in program is) ≡ used + length (types_in program (y ∷ is))
        = omega (arith, length-append (types_of program y.op) (types_in program is)) in
        subst (λ (n : ℕ). IsTyped (n - 1) e) parts
        (typed_by at used (length (types_in program is)) y.op is e (Goes blocks i (at + 1) is e)
        (left_typed sight used (types_of program y.op) (types_in program is) own) refl h
        (λ later. test_typed is (at + 1) (used + length (types_of program y.op)) e
        (right_typed sight used (used + length (types_of program y.op)) (types_of program y.op) (types_in program is) refl own) later))

    -- as a statement it is plain

    one_low : (l : ℕ) → All IsLow (local_of l ∷ [])
    one_low l =
        let low : IsLow (local_of l) = omega (arith, height_read (var.Local l)) in
        All-cons IsLow (local_of l) [] low (All-nil IsLow)

    none_divided : (l : ℕ) → flat_map divisors_of (local_of l ∷ []) ≡ []
    none_divided l = ap (λ (ds : List Expr). ds ++ []) (division.of_read (var.Local l))

    pub test_plain : (l : ℕ) (e : Exit) → IsTyped l e → IsPlainBody sight (test_of (exit_with l e))
    test_plain l way.Fall h = no_statement sight
    test_plain l (way.Jump j) h = no_statement sight
    test_plain l (way.Branch j) h =
        record {
          typed = choice_typed l sight h;
          low = omega (arith, choice_nesting l);
          high = subst (All IsLow) (sym (choice_expressions l)) (one_low l);
          divisors = none_divides (ap (flat_map divisors_of) (choice_expressions l) ∙ none_divided l);
          calls = choice_calls l;
        }
    test_plain l way.EndIf h =
        record {
          typed = choice_typed l sight h;
          low = omega (arith, choice_nesting l);
          high = subst (All IsLow) (sym (choice_expressions l)) (one_low l);
          divisors = none_divides (ap (flat_map divisors_of) (choice_expressions l) ∙ none_divided l);
          calls = choice_calls l;
        }
    test_plain l (way.Table js j) h =
        record {
          typed = selection_typed l sight h;
          low = omega (arith, selection_nesting l);
          high = subst (All IsLow) (sym (selection_expressions l)) (one_low l);
          divisors = none_divides (ap (flat_map divisors_of) (selection_expressions l) ∙ none_divided l);
          calls = selection_calls l;
        }
    test_plain l way.End h = no_statement sight

-- What a test reads

pub sure_test : (l : ℕ) (e : Exit) → HasSureTest (exit_with l e)
sure_test l way.Fall = All-nil (λ (e : Expr). is_faultless e ≡ true)
sure_test l (way.Jump j) = All-nil (λ (e : Expr). is_faultless e ≡ true)
sure_test l (way.Branch j) = All-cons (λ (e : Expr). is_faultless e ≡ true) (local_of l) [] (sure_local l) (All-nil (λ (e : Expr). is_faultless e ≡ true))
sure_test l way.EndIf = All-cons (λ (e : Expr). is_faultless e ≡ true) (local_of l) [] (sure_local l) (All-nil (λ (e : Expr). is_faultless e ≡ true))
sure_test l (way.Table js j) = All-cons (λ (e : Expr). is_faultless e ≡ true) (local_of l) [] (sure_local l) (All-nil (λ (e : Expr). is_faultless e ≡ true))
sure_test l way.End = All-nil (λ (e : Expr). is_faultless e ≡ true)

-- one variable, that of the local
local_read : (l : ℕ) → flat_map variables_of (local_of l ∷ []) ≡ var.Local l ∷ []
local_read l = ap (λ (vs : List Var). vs ++ []) (reads_of_read (var.Local l))

pub reads_none : (P : Reg → Type 0) (l : ℕ) (e : Exit) → EachRegister P (flat_map variables_of (tests_of (exit_with l e)))
reads_none P l way.Fall = tt
reads_none P l (way.Jump j) = tt
reads_none P l (way.Branch j) = subst (EachRegister P) (sym (local_read l)) tt
reads_none P l way.EndIf = subst (EachRegister P) (sym (local_read l)) tt
reads_none P l (way.Table js j) = subst (EachRegister P) (sym (local_read l)) tt
reads_none P l way.End = tt

-- it is written where an exit has one
pub test_written : (written : List ℕ) (l : ℕ) (e : Exit) → (1 ≤ many e → IsWritten written l)
    → AreWritten written (locals_of (flat_map variables_of (tests_of (exit_with l e))))
test_written written l way.Fall h = All-nil (IsWritten written)
test_written written l (way.Jump j) h = All-nil (IsWritten written)
test_written written l (way.Branch j) h =
    subst (λ (vs : List Var). AreWritten written (locals_of vs)) (sym (local_read l))
    (All-cons (IsWritten written) l [] (h (omega arith)) (All-nil (IsWritten written)))
test_written written l way.EndIf h =
    subst (λ (vs : List Var). AreWritten written (locals_of vs)) (sym (local_read l))
    (All-cons (IsWritten written) l [] (h (omega arith)) (All-nil (IsWritten written)))
test_written written l (way.Table js j) h =
    subst (λ (vs : List Var). AreWritten written (locals_of vs)) (sym (local_read l))
    (All-cons (IsWritten written) l [] (h (omega arith)) (All-nil (IsWritten written)))
test_written written l way.End h = All-nil (IsWritten written)

-- the exit of a node is that of its block
pub exit_is : (l : ℕ) (e : Exit) → IsExitOf e (exit_with l e)
exit_is l way.Fall = tt
exit_is l (way.Jump j) = refl
exit_is l (way.Branch j) = refl
exit_is l way.EndIf = tt
exit_is l (way.Table js j) = (refl, refl)
exit_is l way.End = tt

-- The statements of CC: an IF behind others, which ends their run.
use Rattle.std.proofs.Common.{◌≡◌, ℕ, ◌+◌, ◌≤◌, Bool, true, false, List, [], ◌∷◌, ◌++◌, length, Some, refl, sym, ap, subst, ◌∙◌, arith}
use Rattle.std.specs.Prelude.{All}
use Rattle.std.specs.List.{flat_map, sum_by}
use Rattle.std.proofs.lemmas.List.Elements.{All-append, All-cons, All-nil}
use Rattle.std.proofs.lemmas.List.Sums.{sum_by-cons}
use Rattle.call_templates.proofs.CallParts.{IsPart, reads_in_parts, statements_in_parts, steps_in_parts}
use Rattle.call_templates.proofs.CallSizes.{asking_part, guarded_part}
use Rattle.call_templates.proofs.CallTyping.{asking_plain, guarded_plain, question_typed}
use Rattle.call_templates.specs.CallLaw.{IsPlainCall, IsUnitCalled}
use Rattle.call_templates.specs.Calls.{call_if_of, end_word_of, guarded_of, put_back_of, saved_of, types_of_call_if}
use Rattle.graph_rules.proofs.Divisors as division
use Rattle.graph_rules.proofs.Runs.{run_in_parts, written_in_parts}
use Rattle.graph_rules.specs.Divisors.{IsSureDivisor, divisors_in, divisors_of}
use Rattle.graph_rules.specs.Plain.{AreSteps, IsStep, faultless_step}
use Rattle.graph_rules.specs.Runs.{AreOfRun, AreWritten, IsWritten, bodies_in, bodies_step, locals_of, read_by, written_after, written_by_more}
use Rattle.s7_base.specs.declared.register.Reg.{Reg}
use Rattle.s7_base.specs.declared.register.Reg.TheVariants as reg
use Rattle.st_tree.proofs.Common.{flat_map-append}
use Rattle.st_tree.proofs.Equations.{fold_read}
use Rattle.st_tree.proofs.PartEquations.{expressions_in_append, height_read, part_equations}
use Rattle.st_tree.proofs.TypingEquations.{good_arm, good_if, nesting_equations, typed_read}
use Rattle.st_tree.specs.BodyParts.{calls_in, expressions_in, reads_in, reads_of as variables_of, statements_in}
use Rattle.st_tree.specs.Depth.{deepest}
use Rattle.st_tree.specs.Nesting.{body_nesting}
use Rattle.st_tree.specs.WellTyped.{UnitScope, are_well_typed, variable_type}
use Rattle.st_tree.specs.declared.expr.Expr.{Expr}
use Rattle.st_tree.specs.declared.expr.StType.TheVariants as type
use Rattle.st_tree.specs.declared.expr.Var.{Var}
use Rattle.st_tree.specs.declared.expr.Var.TheVariants as var
use Rattle.st_tree.specs.declared.program.Arm.{Arm}
use Rattle.st_tree.specs.declared.program.Stmt.{Stmt, out-Stmt, out-roll-Stmt}
use Rattle.st_tree.specs.declared.program.Stmt.TheOpen as S
use Rattle.st_tree.specs.declared.program.Stmt.TheVariants as stmt
use Rattle.template_parts.proofs.Obligations.{calls_in_parts, well_typed_in_parts}
use Rattle.template_parts.proofs.ReadRegisters.{both_read, local_reads}
use Rattle.template_parts.proofs.Sizes.{of_append, of_read}
use Rattle.template_parts.specs.Builders.{literal_of, local_of, read_of, set_local_of, set_of}
use Rattle.template_parts.specs.Nodes.{nodes, nodes_in}
use Rattle.template_parts.specs.Reading.{EachRegister}
use Rattle.template_parts.specs.Templates.{AreTyped, IsLow}

module _ (first unit : ℕ) where
  abbrev asking : List Stmt
  asking = set_local_of first (read_of reg.Rlo) ∷ set_of reg.Rlo (literal_of true) ∷ end_word_of

  abbrev inner : List Stmt
  inner = saved_of (first + 1) ++ stmt.Invoke unit [] ∷ put_back_of (first + 1)

  abbrev choice : Stmt
  choice = guarded_of (first + 1) first unit

  -- The parts of the IF

  choice_body : bodies_in (choice ∷ []) ≡ inner ∷ []
  choice_body = simp part_equations

  choice_expressions : expressions_in (choice ∷ []) ≡ local_of first ∷ expressions_in inner
  choice_expressions = simp part_equations

  choice_calls : calls_in (choice ∷ []) ≡ calls_in inner
  choice_calls = simp part_equations

  choice_statements : length (statements_in (choice ∷ [])) ≡ 1 + length (statements_in inner)
  choice_statements = simp part_equations

  choice_reads : read_by choice ≡ var.Local first ∷ []
  choice_reads = simp part_equations

  choice_writes : (written : List ℕ) → written_after written choice ≡ []
  choice_writes written = simp part_equations

  abbrev arm : Arm
  arm = record { test = local_of first; body = inner }

  choice_step : IsStep (out-Stmt choice)
  choice_step =
      let out : out-Stmt choice ≡ S.If (arm ∷ []) [] = ap out-Stmt (sym (stmt.rolls-If (arm ∷ []) [])) ∙ out-roll-Stmt (S.If (arm ∷ []) []) in
      subst IsStep (sym out) (fold_read Bool faultless_step (var.Local first), tt)

  choice_nesting : body_nesting (call_if_of first unit) ≤ deepest
  choice_nesting = simp nesting_equations (omega arith)

  -- What they are with the others

  module _ (P : Reg → Type 0) (rlo : P reg.Rlo) (db : P reg.DbNo) (di : P reg.DiNo) where
    abbrev before : IsPart P first first 1 5 5 asking
    before = asking_part P first rlo

    abbrev inside : IsPart P (first + 1) (first + 1) 2 5 4 inner
    inside = guarded_part P (first + 1) unit db di

    pub steps : AreSteps (call_if_of first unit)
    steps = steps_in_parts asking (choice ∷ []) before.steps (choice_step, tt)

    all_bodies : bodies_in (call_if_of first unit) ≡ inner ∷ []
    all_bodies =
        flat_map-append (λ (x : Stmt). bodies_step (out-Stmt x)) asking (choice ∷ [])
        ∙ ap (λ (bodies : List (List Stmt)). bodies ++ bodies_in (choice ∷ [])) before.guards ∙ choice_body

    pub guards : length (bodies_in (call_if_of first unit)) ≡ 1
    guards = ap length all_bodies

    pub few : length (statements_in (call_if_of first unit)) ≤ 11
    few = omega (arith, statements_in_parts asking (choice ∷ []), choice_statements, before.few, inside.few)

    pub small : nodes_in (call_if_of first unit) ≤ 91
    small =
        let question : nodes_in (choice ∷ []) ≡ 1 + nodes_in inner =
        ap (sum_by nodes) choice_expressions ∙ sum_by-cons nodes (local_of first) (expressions_in inner)
        ∙ ap (λ (n : ℕ). n + nodes_in inner) (of_read (var.Local first)) in
        omega (arith, of_append asking (choice ∷ []), question, before.small, inside.small)

    pub reads : EachRegister P (reads_in (call_if_of first unit))
    reads =
        subst (EachRegister P) (sym (reads_in_parts asking (choice ∷ [])))
        (both_read P (reads_in asking) (reads_in (choice ∷ [])) before.reads
        (subst (λ (es : List Expr). EachRegister P (flat_map variables_of es)) (sym choice_expressions)
        (both_read P (variables_of (local_of first)) (reads_in inner) (local_reads P first) inside.reads)))

    pub run : (written : List ℕ) → AreOfRun written (call_if_of first unit)
    run written =
        let least : first ≤ first = omega arith in
        let asked : IsWritten (written_by_more written asking) first =
        before.locals.more first written least (λ i above below. absurd (omega (arith, above, below))) first least (omega arith) in
        run_in_parts written asking (choice ∷ [])
        (before.locals.run first written least (λ i above below. absurd (omega (arith, above, below)))) (
          subst (λ (vs : List Var). AreWritten (written_by_more written asking) (locals_of vs)) (sym choice_reads)
              (All-cons (IsWritten (written_by_more written asking)) first [] asked (All-nil (IsWritten (written_by_more written asking)))),
          tt,
        )

    pub inner_run : All (AreOfRun []) (bodies_in (call_if_of first unit))
    inner_run =
        subst (All (AreOfRun [])) (sym all_bodies)
        (All-cons (AreOfRun []) inner []
        (inside.locals.run (first + 1) [] (omega arith) (λ i above below. absurd (omega (arith, above, below)))) (All-nil (AreOfRun [])))

    pub ends : (written : List ℕ) → written_by_more written (call_if_of first unit) ≡ []
    ends written = written_in_parts written asking (choice ∷ []) ∙ choice_writes (written_by_more written asking)

  pub call_if_plain : (sight : UnitScope) → IsUnitCalled sight unit [] → AreTyped sight first types_of_call_if
      → IsPlainCall sight unit (call_if_of first unit)
  call_if_plain sight called own =
      let before = asking_plain sight unit called first [] own in
      let inside = guarded_plain sight unit called first [] own in
      let question : variable_type sight (var.Local first) ≡ Some type.Bool = question_typed sight unit called first [] own in
      let low : IsLow (local_of first) = omega (arith, height_read (var.Local first)) in
      record {
        typed = well_typed_in_parts sight asking (choice ∷ []) before.typed (choice_typed sight question inside.typed);
        low = choice_nesting;
        high =
            subst (All IsLow) (sym (expressions_in_append asking (choice ∷ [])))
            (All-append IsLow (expressions_in asking) (expressions_in (choice ∷ [])) before.high
            (subst (All IsLow) (sym choice_expressions) (All-cons IsLow (local_of first) (expressions_in inner) low inside.high)));
        divisors =
            subst (All IsSureDivisor) (sym (division.in_parts asking (choice ∷ [])))
            (All-append IsSureDivisor (divisors_in asking) (divisors_in (choice ∷ [])) before.divisors
            (subst (λ (es : List Expr). All IsSureDivisor (flat_map divisors_of es)) (sym choice_expressions)
            (subst (λ (ds : List Expr). All IsSureDivisor (ds ++ divisors_in inner)) (sym (division.of_read (var.Local first))) inside.divisors)));
        variables = inside.variables;
        calls =
            calls_in_parts asking (choice ∷ []) ∙ ap (λ (calls : List (ℕ × List Var)). calls ++ calls_in (choice ∷ [])) before.calls
            ∙ choice_calls ∙ inside.calls;
        given = inside.given;
      }
    where
      choice_typed : (sight : UnitScope) → variable_type sight (var.Local first) ≡ Some type.Bool → are_well_typed sight false inner ≡ true
          → are_well_typed sight false (choice ∷ []) ≡ true
      choice_typed sight question typed =
          rw (good_if sight false (arm ∷ []) [], good_arm sight false arm, typed_read sight (var.Local first), question, typed) refl

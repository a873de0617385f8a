-- The statements of a body: each of its instructions gives a template, or those of a jump or a call, and what is asked of
-- each holds of all.
use Rattle.std.proofs.Common.{◌≡◌, ℕ, ◌+◌, ◌*◌, ◌<◌, ◌≤◌, false, List, [], ◌∷◌, ◌++◌, length, inl, inr, refl, sym, ap, subst, ◌∙◌, arith}
use Rattle.std.specs.Prelude.{All}
use Rattle.std.specs.List.{flat_map, sum_by}
use Rattle.std.proofs.lemmas.List.{length-append}
use Rattle.std.proofs.lemmas.List.Elements.{All-append, All-cons, All-head, All-nil, All-tail}
use Rattle.bit_templates.proofs.Serving.{bit_logic}
use Rattle.bit_templates.specs.Brackets.{bracket_at, types_of_bracket}
use Rattle.bit_templates.specs.declared.chain.OpenBracket.{OpenBracket}
use Rattle.call_templates.proofs.Serving.{calls_serve}
use Rattle.call_templates.specs.CallLaw.{IsCallOf, IsPlainCall, IsUnitCalled, ServesCall, ServesCallIf, widths_inside}
use Rattle.call_templates.specs.Calls.{call_if_of, call_of, end_word_of, one_if_given, types_of_call, types_of_call_if}
use Rattle.flow_laws.specs.Ways.{IsClosed}
use Rattle.graph_rules.proofs.Runs.{order_equations, run_in_parts, written_in_parts}
use Rattle.graph_rules.specs.Plain.{AreSteps, IsGivenOn, IsStep}
use Rattle.graph_rules.specs.Runs.{AreOfRun, bodies_in, bodies_step, written_by_more}
use Rattle.graph_rules.specs.Writes.{AreWrites}
use Rattle.instruction_lowering.proofs.PlainSteps.{ArePlainSteps, IsUnitOf, steps_in_parts, without_calls}
use Rattle.instruction_lowering.proofs.Serving.{serves}
use Rattle.instruction_lowering.proofs.SpotLaws.{HasItsOperand, nested_behind, none_there, used_behind_one}
use Rattle.instruction_lowering.proofs.Writes.{are_steps, no_bodies, no_inner}
use Rattle.instruction_lowering.specs.Lowered.{IsRead, actuals_of, guards_of}
use Rattle.instruction_lowering.specs.declared.statements.LoweringContext.{LoweringContext}
use Rattle.instruction_lowering.specs.inner.Lowering.{steps_of}
use Rattle.instruction_lowering.specs.inner.Templates.{close_innermost, context_after, outer_of, statements_of, unit_called}
use Rattle.instruction_lowering.specs.inner.Temporaries.{formals_called, types_in, types_of}
use Rattle.jump_templates.proofs.Serving.{jumps}
use Rattle.jump_templates.specs.JumpLaw.{ServesJump, after_count, after_end_if, after_jump_by, tested_by_count, tested_by_end_if, tested_by_jump, tested_by_list}
use Rattle.jump_templates.specs.Jumps.{end_if_of, jump_of, list_of, loop_of, types_of_jump, types_of_list, types_of_test}
use Rattle.memory_areas.specs.Areas.{AreBlocks}
use Rattle.memory_areas.specs.declared.data_block.DataBlock.{DataBlock}
use Rattle.s7_base.specs.declared.register.Reg.{Reg}
use Rattle.s7_base.specs.declared.register.Reg.TheVariants as reg
use Rattle.st_tree.proofs.Common.{flat_map-append}
use Rattle.st_tree.proofs.PartEquations.{expressions_in_append}
use Rattle.st_tree.specs.BodyParts.{expressions_in, inner_statements, reads_in, reads_of as variables_of, statements_in}
use Rattle.st_tree.specs.WellTyped.{UnitScope}
use Rattle.st_tree.specs.declared.expr.StType.{StType}
use Rattle.st_tree.specs.declared.expr.Var.{Var}
use Rattle.st_tree.specs.declared.expr.Var.TheVariants as var
use Rattle.st_tree.specs.declared.program.Stmt.{Stmt, out-Stmt}
use Rattle.st_tree.specs.declared.state.Value.{Value}
use Rattle.stl_tree.specs.Accepted.{HasOperand, HaveOperands, Widths}
use Rattle.stl_tree.specs.Brackets.{WithNumber, none_open, open_behind}
use Rattle.stl_tree.specs.Now.{Now}
use Rattle.stl_tree.specs.Reads.{reads_of}
use Rattle.stl_tree.specs.declared.program.Block.{Block}
use Rattle.stl_tree.specs.declared.program.BlockCall.{BlockCall}
use Rattle.stl_tree.specs.declared.program.Instr.{Instr}
use Rattle.stl_tree.specs.declared.program.JumpTest.TheVariants as jump
use Rattle.stl_tree.specs.declared.program.Op.{Op}
use Rattle.stl_tree.specs.declared.program.Op.TheVariants as op
use Rattle.template_parts.proofs.Obligations.{lower_order, ordered}
use Rattle.template_parts.proofs.ReadRegisters.{both_read, variables_read}
use Rattle.template_parts.proofs.Sizes.{counts, of_append, of_nothing}
use Rattle.template_parts.proofs.Typing.{cleared_plain, left_typed, literal_is, no_statement, right_typed, set_plain}
use Rattle.template_parts.specs.Builders.{literal_of, set_of}
use Rattle.template_parts.specs.Nodes.{nodes_in}
use Rattle.template_parts.specs.Reading.{EachRegister, IsAmong}
use Rattle.template_parts.specs.Templates.{AreInOrder, AreThere, AreTyped, HasFormals, IsPlainBody, IsTemplate}

-- Counts

-- how many tests an instruction needs in an exit, and the instructions of a body
abbrev pub tests_by : Op → ℕ
tests_by (op.Jump jump.Always to) = 0
tests_by (op.Jump t to) = 1
tests_by (op.Loop to) = 1
tests_by (op.JumpList count label) = 1
tests_by op.BlockEndIf = 1
tests_by other = 0

abbrev pub tests_in : List Instr → ℕ
tests_in [] = 0
tests_in (i ∷ rest) = tests_by i.op + tests_in rest

-- how many actuals the calls of a body give, and how many of its calls are by CC
abbrev pub actuals_in : List Instr → ℕ
actuals_in [] = 0
actuals_in (i ∷ rest) = actuals_of i.op + actuals_in rest

abbrev pub guards_in : List Instr → ℕ
guards_in [] = 0
guards_in (i ∷ rest) = guards_of i.op + guards_in rest

-- the lowest local of the run in which an instruction ends that begins in a run with such a one: CC ends the run
abbrev pub low_after : List Block → LoweringContext → Op → ℕ → ℕ
low_after program q (op.CallIf c) low = (context_after program (op.CallIf c) q).used
low_after program q other low = low

abbrev pub low_behind : List Block → LoweringContext → List Instr → ℕ → ℕ
low_behind program q [] low = low
low_behind program q (i ∷ rest) low = low_behind program (context_after program i.op q) rest (low_after program q i.op low)

-- it is one of those that are used, or the next one
pub low_used : (program : List Block) (o : Op) (q : LoweringContext) (low : ℕ) → low ≤ q.used
    → low_after program q o low ≤ (context_after program o q).used
low_used program (op.Bracket c) q low above = omega arith
low_used program op.Close q low above = above
low_used program (op.CallIf c) q low above = omega arith
low_used program o q low above = omega arith

-- Calls

-- a call of the block of a number is right for a unit that sees these variables and names formals of these widths, and
-- its unit is such a one
pub record IsSeenCall (Q : ℕ → Type 0) (dbs : List DataBlock) (program : List Block) (sight : UnitScope) (formals : Widths) (c : BlockCall) : Type 0 where
  pub right : IsCallOf dbs formals (formals_called program c) c
  pub unit : IsUnitCalled sight (unit_called program c) (widths_inside c (formals_called program c))
  pub has : Q (unit_called program c)

-- a call by CC is one without actuals
pub record IsSeenCallIf (Q : ℕ → Type 0) (program : List Block) (sight : UnitScope) (c : BlockCall) : Type 0 where
  pub instance : c.instance ≡ 0
  pub actuals : c.actuals ≡ []
  pub unit : IsUnitCalled sight (unit_called program c) []
  pub has : Q (unit_called program c)

-- the call of an instruction, if it is one, is
abbrev pub CallsSeen : (ℕ → Type 0) → List DataBlock → List Block → UnitScope → Widths → Op → Type 0
CallsSeen Q dbs program sight formals (op.Call c) = IsSeenCall Q dbs program sight formals c
CallsSeen Q dbs program sight formals (op.CallIf c) = IsSeenCallIf Q program sight c
CallsSeen Q dbs program sight formals other = Unit {0}

-- Bounds

-- statements of so many instructions with so many actuals and CCs, which may read such registers and call such units; with
-- so many locals from the first one on. Where they begin the locals from the lowest one on are written, and where they
-- end those from another one on; there is room for so many tests
pub record HasBounds (P : Reg → Type 0) (Q : ℕ → Type 0) (sight : UnitScope)
    (low behind first count size tests given guards : ℕ) (xs : List Stmt) : Type 0 where
  pub steps : AreSteps xs
  pub guarded : length (bodies_in xs) ≡ guards
  pub inner : All (AreOfRun []) (bodies_in xs)
  pub few : length (statements_in xs) + tests ≤ 11 * size + 3 * given
  pub small : nodes_in xs + tests ≤ 91 * size + 3 * given
  pub reads : EachRegister P (reads_in xs)
  pub run : (written : List ℕ) → AreThere written low first → AreOfRun written xs
  pub more : (written : List ℕ) → AreThere written low first → AreThere (written_by_more written xs) behind (first + count)
  pub plain : ArePlainSteps Q sight xs

each_more : (P Q : Reg → Type 0) → ((r : Reg) → P r → Q r) → (vs : List Var) → EachRegister P vs → EachRegister Q vs
each_more P Q more [] h = tt
each_more P Q more (var.Register r ∷ vs) h = (more r h.0, each_more P Q more vs h.1)
each_more P Q more (v ∷ vs) h = each_more P Q more vs h

reads_in_parts : (xs ys : List Stmt) → reads_in (xs ++ ys) ≡ reads_in xs ++ reads_in ys
reads_in_parts xs ys = ap (flat_map variables_of) (expressions_in_append xs ys) ∙ flat_map-append variables_of (expressions_in xs) (expressions_in ys)

bodies_in_parts : (xs ys : List Stmt) → bodies_in (xs ++ ys) ≡ bodies_in xs ++ bodies_in ys
bodies_in_parts xs ys = flat_map-append (λ (x : Stmt). bodies_step (out-Stmt x)) xs ys

statements_in_parts : (xs ys : List Stmt) → statements_in (xs ++ ys) ≡ statements_in xs ++ statements_in ys
statements_in_parts xs ys = flat_map-append (λ (x : Stmt). x ∷ inner_statements x) xs ys

more_steps : (xs ys : List Stmt) → AreSteps xs → AreSteps ys → AreSteps (xs ++ ys)
more_steps [] ys h k = k
more_steps (x ∷ xs) ys h k = (h.0, more_steps xs ys h.1 k)

module _ (Q : ℕ → Type 0) (sight : UnitScope) where
  -- one body after another
  both_bounds : (P : Reg → Type 0) (low middle_low behind first middle one two a b m n g h c d : ℕ) (xs ys : List Stmt)
      → middle ≡ first + one → HasBounds P Q sight low middle_low first one a m g c xs → HasBounds P Q sight middle_low behind middle two b n h d ys
      → HasBounds P Q sight low behind first (one + two) (a + b) (m + n) (g + h) (c + d) (xs ++ ys)
  both_bounds P low middle_low behind first middle one two a b m n g h c d xs ys e x y =
      record {
        steps = more_steps xs ys x.steps y.steps;
        guarded = ap length (bodies_in_parts xs ys) ∙ length-append (bodies_in xs) (bodies_in ys) ∙ omega (arith, x.guarded, y.guarded);
        inner = subst (All (AreOfRun [])) (sym (bodies_in_parts xs ys)) (All-append (AreOfRun []) (bodies_in xs) (bodies_in ys) x.inner y.inner);
        few = omega (arith, ap length (statements_in_parts xs ys), length-append (statements_in xs) (statements_in ys), x.few, y.few);
        small = omega (arith, of_append xs ys, x.small, y.small);
        reads = subst (EachRegister P) (sym (reads_in_parts xs ys)) (both_read P (reads_in xs) (reads_in ys) x.reads y.reads);
        run = λ written there. run_in_parts written xs ys (x.run written there) (y.run (written_by_more written xs) (halfway written there));
        more = λ written there. subst (λ (now : List ℕ). AreThere now behind (first + (one + two))) (sym (written_in_parts written xs ys))
            (subst (AreThere (written_by_more (written_by_more written xs) ys) behind) ends
            (y.more (written_by_more written xs) (halfway written there)));
        plain = steps_in_parts Q sight xs ys x.plain y.plain;
      }
    where
      ends : middle + two ≡ first + (one + two)
      ends = omega (arith, e)

      halfway : (written : List ℕ) → AreThere written low first → AreThere (written_by_more written xs) middle_low middle
      halfway written there = subst (AreThere (written_by_more written xs) middle_low) (sym e) (x.more written there)

  no_bounds : (P : Reg → Type 0) (low first size : ℕ) → HasBounds P Q sight low low first 0 size 0 0 0 []
  no_bounds P low first size =
      record {
        steps = tt;
        guarded = refl;
        inner = All-nil (AreOfRun []);
        few = omega arith;
        small = omega (arith, of_nothing);
        reads = tt;
        run = λ written there. tt;
        more = λ written there. let e : first ≡ first + 0 = omega arith in subst (AreThere written low) e there;
        plain = without_calls Q sight [] (no_statement sight);
      }

  -- statements that write one thing each, in their order
  of_writes : (P : Reg → Type 0) (low from first count tests : ℕ) (xs : List Stmt) → low ≤ from → AreWrites xs → length xs + tests ≤ 11
      → nodes_in xs + tests ≤ 91 → EachRegister P (reads_in xs) → AreInOrder from first count xs → IsPlainBody sight xs
      → HasBounds P Q sight low low first count 1 tests 0 0 xs
  of_writes P low from first count tests xs above writes few small reads order plain =
      record {
        steps = are_steps xs writes;
        guarded = ap length (no_bodies xs writes);
        inner = subst (All (AreOfRun [])) (sym (no_bodies xs writes)) (All-nil (AreOfRun []));
        few = omega (arith, ap length (no_inner xs writes), few);
        small = omega (arith, small);
        reads = reads;
        run = λ written there. order.run low written above there;
        more = λ written there. order.more low written above there;
        plain = without_calls Q sight xs plain;
      }

  module _ (dbs : List DataBlock) (valid : AreBlocks dbs) (program : List Block) (formals : Widths) (named : HasFormals sight formals) where
    -- a template
    of_template : (o : Op) (low first : ℕ) (types : List StType) (xs : List Stmt) → low ≤ first → HasOperand formals o → AreTyped sight first types
        → IsTemplate o first types xs
        → HasBounds (λ (r : Reg). IsAmong r (reads_of o)) Q sight low low first (length types) 1 0 0 0 xs
    of_template o low first types xs above operand own t =
        of_writes (λ (r : Reg). IsAmong r (reads_of o)) low first first (length types) 0 xs above t.writes (omega (arith, t.few)) (omega (arith, t.small))
        t.reads t.locals (t.plain sight formals named operand own)

    -- that of a jump, with room for its test
    of_jump : (o : Op) (low first : ℕ) (types : List StType) (xs : List Stmt) (after : Now → Now) (tested : Now → Value) → low ≤ first
        → HasOperand formals o → AreTyped sight first types → ServesJump o first types xs after tested
        → HasBounds (λ (r : Reg). IsAmong r (reads_of o)) Q sight low low first (length types) 1 1 0 0 xs
    of_jump o low first types xs after tested above operand own t =
        of_writes (λ (r : Reg). IsAmong r (reads_of o)) low first first (length types) 1 xs above t.template.writes
        (omega (arith, t.few)) (omega (arith, t.small)) t.template.reads t.template.locals (t.template.plain sight formals named operand own)

    -- those of a call
    call_is_plain : (unit : ℕ) (xs : List Stmt) → Q unit → IsPlainCall sight unit xs → ArePlainSteps Q sight xs
    call_is_plain unit xs has h =
        record {
          typed = h.typed;
          low = h.low;
          high = h.high;
          divisors = h.divisors;
          calls = subst (All (IsUnitOf Q)) (sym h.calls) (All-cons (IsUnitOf Q) (unit, h.variables) [] (h.given, has) (All-nil (IsUnitOf Q)));
        }

    of_call : (c : BlockCall) (low first : ℕ) → low ≤ first → IsSeenCall Q dbs program sight formals c
        → AreTyped sight first (types_of_call (formals_called program c) c)
        → HasBounds (λ (r : Reg). IsAmong r (reads_of (op.Call c))) Q sight low low first (length (types_of_call (formals_called program c) c)) 1 0
        (sum_by one_if_given c.actuals) 0 (call_of first (unit_called program c) (formals_called program c) c)
    of_call c low first above seen own =
        let t : ServesCall first (unit_called program c) (formals_called program c) c =
        calls_serve.call first (unit_called program c) (formals_called program c) c in
        let body : List Stmt = call_of first (unit_called program c) (formals_called program c) c in
        record {
          steps = t.steps;
          guarded = ap length t.guards;
          inner = subst (All (AreOfRun [])) (sym t.guards) (All-nil (AreOfRun []));
          few = omega (arith, t.few);
          small = omega (arith, t.small);
          reads = t.reads;
          run = λ written there. t.locals.run low written above there;
          more = λ written there. t.locals.more low written above there;
          plain = call_is_plain (unit_called program c) body seen.has (t.plain sight dbs formals valid seen.right named seen.unit own);
        }

    of_call_if : (c : BlockCall) (low first : ℕ) → IsSeenCallIf Q program sight c → AreTyped sight first types_of_call_if
        → HasBounds (λ (r : Reg). IsAmong r (reads_of (op.CallIf c))) Q sight low (first + 3) first 3 1 0 0 1
        (call_if_of first (unit_called program c))
    of_call_if c low first seen own =
        let t : ServesCallIf first (unit_called program c) (formals_called program c) c =
        calls_serve.call_if first (unit_called program c) (formals_called program c) c seen.instance seen.actuals in
        let body : List Stmt = call_if_of first (unit_called program c) in
        record {
          steps = t.steps;
          guarded = t.guards;
          inner = t.inner;
          few = omega (arith, t.few);
          small = omega (arith, t.small);
          reads = t.reads;
          run = λ written there. t.run written;
          more = λ written there i above below. absurd (omega (arith, above, below));
          plain = call_is_plain (unit_called program c) body seen.has (t.plain sight seen.unit own);
        }

    -- an open bracket is kept in BOOLs from the lowest local on, below those that are used
    pub record IsKeptBelow (low used : ℕ) (o : OpenBracket) : Type 0 where
      pub first : ℕ
      pub bracket : o ≡ bracket_at first o.check
      pub above : low ≤ first
      pub below : first + 3 ≤ used
      pub typed : AreTyped sight first types_of_bracket

    abbrev pub AreKept : ℕ → ℕ → List OpenBracket → Type 0
    AreKept low used [] = Unit {0}
    AreKept low used (o ∷ outer) = IsKeptBelow low used o × AreKept low used outer

    kept_higher : (low used more : ℕ) (brackets : List OpenBracket) → used ≤ more → AreKept low used brackets → AreKept low more brackets
    kept_higher low used more [] h k = tt
    kept_higher low used more (o ∷ outer) h k =
        let one = k.0 in (
          record { first = one.first; bracket = one.bracket; above = one.above; below = omega (arith, one.below, h); typed = one.typed },
          kept_higher low used more outer h k.1,
        )

    outer_kept : (low used : ℕ) (brackets : List OpenBracket) → AreKept low used brackets → AreKept low used (outer_of brackets)
    outer_kept low used [] h = tt
    outer_kept low used (o ∷ outer) h = h.1

    no_bracket : (low used : ℕ) (brackets : List OpenBracket) → length brackets ≡ 0 → AreKept low used brackets
    no_bracket low used [] e = tt
    no_bracket low used (o ∷ outer) e = absurd (omega (arith, e))

    -- the brackets behind an instruction are; none is open at CC
    kept_behind : (P : ℕ → Type 0) (o : Op) (q : LoweringContext) (low : ℕ) → low ≤ q.used → AreTyped sight q.used (types_of program o)
        → WithNumber (open_behind o (length q.brackets)) P → AreKept low q.used q.brackets
        → AreKept (low_after program q o low) (context_after program o q).used (context_after program o q).brackets
    kept_behind P (op.Bracket c) q low above own closed h = (
      record { first = q.used; bracket = refl; above = above; below = omega arith; typed = own },
      kept_higher low q.used (q.used + 3) q.brackets (omega arith) h,
    )
    kept_behind P op.Close q low above own closed h = outer_kept low q.used q.brackets h
    kept_behind P (op.CallIf c) q low above own closed h =
        no_bracket (q.used + 3) (q.used + 3) q.brackets (none_there P (length q.brackets) closed)
    kept_behind P o q low above own closed h = kept_higher low q.used (q.used + length (types_of program o)) q.brackets (omega arith) h

    close_bounds : (low used : ℕ) (brackets : List OpenBracket) → AreKept low used brackets
        → HasBounds (λ (r : Reg). IsAmong r (reads_of op.Close)) Q sight low low used 0 1 0 0 0 (close_innermost brackets)
    close_bounds low used [] h = no_bounds (λ (r : Reg). IsAmong r (reads_of op.Close)) low used 1
    close_bounds low used (o ∷ outer) h =
        let k = h.0 in
        let closes = bit_logic.closing k.first o.check used k.below in
        subst
        (λ (x : OpenBracket). HasBounds (λ (r : Reg). IsAmong r (reads_of op.Close)) Q sight low low used 0 1 0 0 0 (close_innermost (x ∷ [])))
        (sym k.bracket)
        (of_writes (λ (r : Reg). IsAmong r (reads_of op.Close)) low k.first used 0 0 (close_innermost (bracket_at k.first o.check ∷ [])) k.above
        closes.writes (omega (arith, closes.few)) (omega (arith, closes.small)) closes.reads closes.locals (closes.plain sight k.typed))

    end_nodes : nodes_in end_word_of ≤ 91 * 1
    end_nodes = simp counts (omega arith)

    end_bounds : (low first : ℕ) → low ≤ first
        → HasBounds (λ (r : Reg). IsAmong r (reads_of op.BlockEnd)) Q sight low low first 0 1 0 0 0 end_word_of
    end_bounds low first above =
        of_writes (λ (r : Reg). IsAmong r (reads_of op.BlockEnd)) low first first 0 0 end_word_of above tt (omega arith) (omega (arith, end_nodes))
        (simp variables_read tt) (ordered first first 0 end_word_of (simp order_equations) refl)
        (cleared_plain sight false (set_of reg.Os (literal_of false) ∷ [])
        (set_plain sight reg.Os (literal_of false) [] (omega arith) (literal_is sight false) (no_statement sight)))

    one_bounds : (o : Op) (q : LoweringContext) (low : ℕ) → low ≤ q.used → HasOperand formals o → CallsSeen Q dbs program sight formals o
        → AreTyped sight q.used (types_of program o) → AreKept low q.used q.brackets
        → HasBounds (λ (r : Reg). IsAmong r (reads_of o)) Q sight low (low_after program q o low) q.used (length (types_of program o)) 1 (tests_by o)
        (actuals_of o) (guards_of o) (statements_of program q o)
    one_bounds (op.Bracket c) q low above h seen own kept =
        of_template (op.Bracket c) low q.used types_of_bracket (statements_of program q (op.Bracket c)) above h own (bit_logic.opening c q.used).template
    one_bounds op.Close q low above h seen own kept = close_bounds low q.used q.brackets kept
    one_bounds (op.Jump jump.Always to) q low above h seen own kept =
        of_template (op.Jump jump.Always to) low q.used [] [] above h own (jumps.always to q.used)
    one_bounds (op.Jump t to) q low above h seen own kept =
        of_jump (op.Jump t to) low q.used (types_of_jump t) (jump_of q.used t) (after_jump_by t) (tested_by_jump t) above h own (jumps.jump t to q.used tt)
    one_bounds (op.Loop to) q low above h seen own kept =
        of_jump (op.Loop to) low q.used types_of_test (loop_of q.used) after_count tested_by_count above h own (jumps.loop to q.used)
    one_bounds (op.JumpList count label) q low above h seen own kept =
        of_jump (op.JumpList count label) low q.used types_of_list (list_of q.used) (λ now. now) tested_by_list above h own (jumps.list count label q.used)
    one_bounds op.BlockEnd q low above h seen own kept = end_bounds low q.used above
    one_bounds op.BlockEndIf q low above h seen own kept =
        of_jump op.BlockEndIf low q.used types_of_test (end_if_of q.used) after_end_if tested_by_end_if above h own (jumps.end_if q.used)
    one_bounds (op.Call c) q low above h seen own kept = of_call c low q.used above seen own
    one_bounds (op.CallIf c) q low above h seen own kept = of_call_if c low q.used seen own
    one_bounds o q low above h seen own kept =
        of_template o low q.used (types_of program o) (statements_of program q o) above h own (serves program o tt q).template

    more_reads : (P R : Reg → Type 0) (low behind first count size tests given guards : ℕ) (xs : List Stmt) → ((r : Reg) → P r → R r)
        → HasBounds P Q sight low behind first count size tests given guards xs → HasBounds R Q sight low behind first count size tests given guards xs
    more_reads P R low behind first count size tests given guards xs more h =
        record {
          steps = h.steps;
          guarded = h.guarded;
          inner = h.inner;
          few = h.few;
          small = h.small;
          reads = each_more P R more (reads_in xs) h.reads;
          run = h.run;
          more = h.more;
          plain = h.plain;
        }

    abbrev IsSeen : Instr → Type 0
    IsSeen i = CallsSeen Q dbs program sight formals i.op

    -- with so many instructions and locals
    counted : (P : Reg → Type 0) (low behind first one two a b tests given guards : ℕ) (xs : List Stmt) → one ≡ two → a ≡ b
        → HasBounds P Q sight low behind first one a tests given guards xs → HasBounds P Q sight low behind first two b tests given guards xs
    counted P low behind first one two a b tests given guards xs e f h =
        subst (λ (n : ℕ). HasBounds P Q sight low behind first n b tests given guards xs) e
        (subst (λ (n : ℕ). HasBounds P Q sight low behind first one n tests given guards xs) f h)

    pub body_bounds : (body : List Instr) (q : LoweringContext) (low : ℕ) → low ≤ q.used → HaveOperands formals body → All IsSeen body
        → AreTyped sight q.used (types_in program body) → IsClosed body (length q.brackets) → AreKept low q.used q.brackets
        → HasBounds (IsRead body) Q sight low (low_behind program q body low) q.used (length (types_in program body)) (length body) (tests_in body)
        (actuals_in body) (guards_in body) (steps_of program q body)
    body_bounds [] q low above h seen own closed kept = no_bounds (IsRead []) low q.used 0
    body_bounds (i ∷ rest) q low above h seen own closed kept =
        let more : 1 + length rest ≡ length (i ∷ rest) = omega arith in
        let many : length (types_of program i.op) + length (types_in program rest) ≡ length (types_in program (i ∷ rest))
        = sym (length-append (types_of program i.op) (types_in program rest)) in
        let used : (context_after program i.op q).used ≡ q.used + length (types_of program i.op) = used_behind_one program i.op q in
        let others =
        body_bounds rest (context_after program i.op q) (low_after program q i.op low) (low_used program i.op q low above)
        (All-tail (HasItsOperand formals) i rest h) (All-tail IsSeen i rest seen)
        (right_typed sight q.used (context_after program i.op q).used (types_of program i.op) (types_in program rest) used own)
        (nested_behind program (IsClosed rest) i.op q closed) (kept_behind (IsClosed rest) i.op q low above typed closed kept) in
        counted (IsRead (i ∷ rest)) low (low_behind program q (i ∷ rest) low) q.used (length (types_of program i.op) + length (types_in program rest))
        (length (types_in program (i ∷ rest))) (1 + length rest) (length (i ∷ rest)) (tests_in (i ∷ rest)) (actuals_in (i ∷ rest))
        (guards_in (i ∷ rest)) (steps_of program q (i ∷ rest)) many more
        (both_bounds (IsRead (i ∷ rest)) low (low_after program q i.op low) (low_behind program q (i ∷ rest) low) q.used
        (context_after program i.op q).used (length (types_of program i.op)) (length (types_in program rest)) 1 (length rest)
        (tests_by i.op) (tests_in rest) (actuals_of i.op) (actuals_in rest) (guards_of i.op) (guards_in rest)
        (statements_of program q i.op) (steps_of program (context_after program i.op q) rest) used
        (more_reads (λ (r : Reg). IsAmong r (reads_of i.op)) (IsRead (i ∷ rest)) low (low_after program q i.op low) q.used
        (length (types_of program i.op)) 1 (tests_by i.op) (actuals_of i.op) (guards_of i.op) (statements_of program q i.op) (λ r a. inl a)
        (one_bounds i.op q low above (All-head (HasItsOperand formals) i rest h) (All-head IsSeen i rest seen) typed kept))
        (more_reads (IsRead rest) (IsRead (i ∷ rest)) (low_after program q i.op low) (low_behind program q (i ∷ rest) low)
        (context_after program i.op q).used (length (types_in program rest)) (length rest) (tests_in rest) (actuals_in rest) (guards_in rest)
        (steps_of program (context_after program i.op q) rest) (λ r a. inr a) others))
      where
        typed : AreTyped sight q.used (types_of program i.op)
        typed = left_typed sight q.used (types_of program i.op) (types_in program rest) own

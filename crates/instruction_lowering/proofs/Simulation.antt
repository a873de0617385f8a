-- A program and its graph run alike: one induction over the steps for both directions, on one lemma an instruction.
use Rattle.std.proofs.Common.{◌≡◌, ℕ, zero, suc, ◌+◌, ◌-◌, ◌<◌, ◌≤◌, ◌==◌, Bool, true, false, not, List, [], ◌∷◌, ◌++◌, length, Option, Some, refl, sym, ap, ◌∙◌, subst, ⊎_elim, arith}
use Rattle.std.specs.Prelude.{All, slice_get}
use Rattle.std.proofs.Math.Nat.{eq-or-lt_of_le}
use Rattle.std.proofs.lemmas.List.Elements.{All-head, All-tail}
use Rattle.flow_graph.specs.declared.graph.Exit.{Exit}
use Rattle.flow_graph.specs.declared.graph.Exit.TheVariants as way
use Rattle.flow_graph.specs.declared.graph.Node.{Node}
use Rattle.flow_laws.specs.Ways.{Branches, Ends, EndsIf, Goes, GoesBy, HasFrom, IsClosed, IsInside, Jumps, Selects}
use Rattle.jump_templates.proofs.Serving.{jumps}
use Rattle.jump_templates.specs.JumpLaw.{HasTest, after_count}
use Rattle.jump_templates.specs.Jumps.{jump_of, list_of, loop_of, types_of_jump}
use Rattle.memory_areas.specs.Areas.{Areas}
use Rattle.memory_areas.specs.End.{End, Ended}
use Rattle.status_word.specs.StatusBits.{after_end}
use Rattle.s7_base.specs.declared.check.Entry.{Entry}
use Rattle.s7_base.specs.declared.word.Width.TheVariants as width
use Rattle.stl_tree.specs.Accepted.{CallsRight, EndsWithin, HasOperand, HaveOperands, IsCall, Widths, called_by, widths_named}
use Rattle.stl_tree.specs.Accumulators.{part}
use Rattle.stl_tree.specs.Brackets.{WithNumber, open_behind}
use Rattle.stl_tree.specs.Instructions.{effect_of}
use Rattle.stl_tree.specs.Jumps.{after_asking, after_test, called_where, effect_of_list, is_made}
use Rattle.stl_tree.specs.Now.{Activation, Effect, Now, enter, fault, go, leave, next, with_status}
use Rattle.stl_tree.specs.StlRun.{after_effect, end_of, formals_at, running}
use Rattle.stl_tree.specs.declared.program.Block.{Block}
use Rattle.stl_tree.specs.declared.program.Instr.{Instr}
use Rattle.stl_tree.specs.declared.program.JumpTest.{JumpTest}
use Rattle.stl_tree.specs.declared.program.JumpTest.TheVariants as jump
use Rattle.stl_tree.specs.declared.program.Op.{Op}
use Rattle.stl_tree.specs.declared.program.Op.TheVariants as op
use Rattle.stl_tree.specs.declared.program.Program.{Program}
use Rattle.stl_tree.proofs.Runs.{over_stays}
use Rattle.st_tree.specs.GraphRun.{Counting, exit_meaning, node_meaning, nodes_do}
use Rattle.st_tree.specs.Meaning.{Out, body_meaning, then_do}
use Rattle.st_tree.specs.State.{Activation as Running, State, own_of}
use Rattle.st_tree.specs.declared.graph.GraphProgram.{GraphProgram}
use Rattle.st_tree.specs.declared.graph.StNode.{StNode}
use Rattle.st_tree.specs.declared.program.Stmt.{Stmt}
use Rattle.stl_tree.specs.Calls.{after_call, going_on}
use Rattle.stl_tree.specs.declared.program.BlockCall.{BlockCall}
use Rattle.call_templates.proofs.Serving.{calls_serve}
use Rattle.call_templates.specs.Calls.{end_word_of}
use Rattle.instruction_lowering.proofs.CallFacts.{IsCallable, all_at, unguarded}
use Rattle.instruction_lowering.proofs.Ends.{Sees, both_end, none_back, none_forth, through}
use Rattle.instruction_lowering.specs.inner.Temporaries.{types_of}
use Rattle.instruction_lowering.specs.inner.Lowering.{exit_with, used_behind}
use Rattle.instruction_lowering.specs.inner.Templates.{context_after, context_from, unit_called}
use Rattle.template_parts.specs.Related.{Related}
use Rattle.template_parts.proofs.Alike.{keep_position}
use Rattle.instruction_lowering.proofs.Bounds.{Side, Within, first_step, next_step, no_first_step, no_node, no_step}
use Rattle.instruction_lowering.specs.declared.statements.LoweringContext.{LoweringContext}
use Rattle.instruction_lowering.proofs.Does.{Does}
use Rattle.instruction_lowering.proofs.Effects.{IsNoCall, does}
use Rattle.instruction_lowering.proofs.Temporaries.{Keeps, as_many}
use Rattle.instruction_lowering.proofs.SpotLaws.{HasItsOperand, can_stand, goes_later, has_first, has_rest, nested_behind, no_entries, no_locals_used, no_steps, none_there, used_behind_one, used_grows}
use Rattle.instruction_lowering.proofs.Spots.{HasBlock, IsLeft, widths_in}
use Rattle.instruction_lowering.proofs.RunsAlike.{Stack, running_on, IsDeep, ran, calls_within, leaves, rest_of, here, rest_by, splits, begin_unit, Follows, AtNode, Inside, Both, fewer, arrives, to_node}
use Rattle.instruction_lowering.proofs.EndWord.{ended_state, end_goes, end_related}
use Rattle.instruction_lowering.proofs.BlockEnds.{none_open_now, ends_in, goes_to, ends_block, branches, ends_if, table_is, selects}
use Rattle.instruction_lowering.proofs.CalledBlocks.{goes_on_after, may_call, made}

module _ (p : Program) (g : GraphProgram) (counts : Counting) (free : (i j : ℕ) → counts i j ≡ false → i < j) (side : Side) (size : ℕ)
    (blocks_there : (n : ℕ) (b : Block) → slice_get p.blocks n ≡ Some b → HasBlock p g size n)
    (callable : (formals : Widths) (c : BlockCall) → IsCall p formals c → IsCallable p formals c) where
  module _ (n : ℕ) (below : (m : ℕ) → m ≤ n → Both p g counts side size m) (a : Activation) (stack : Stack) (u : HasBlock p g size a.block) (i : ℕ) (x : Node)
      (piece : slice_get u.blocks i ≡ Some x) (q : LoweringContext) (now : Now) (s : State) (related : Related (running_on p stack a) now s)
      (keeps : Keeps u.total q now.brackets s.activations) (deep : IsDeep p a stack)
      (units most debt : ℕ) (within : Within side size n units most (a.at + 1) debt)
      (k : ℕ → State → End) (follows : Follows p g counts side size n a stack k debt) where
    -- Instructions inside a block

    meets : (o : Op) (is : List Instr) (e : Effect)
        → IsLeft p (widths_named u.block.name u.block.formals) u.block.body u.blocks u.total i x (a.at + 1) (context_after p.blocks o q) is
        → Does (here p g counts most q o units s) units u.total (context_after p.blocks o q) (running_on p stack a) now.memory e
        → Sees side (ran n (after_effect p now e))
        (through (then_do (here p g counts most q o units s) (rest_of p g counts most u.nodes i x.exit (context_after p.blocks o q) is)) k)
    meets o is (next after) left done =
        let here_below : Both p g counts side size n = below n (omega arith) in
        subst
        (λ (out : Out). Sees side (ran n (after_effect p now (next after)))
        (through (then_do out (rest_of p g counts most u.nodes i x.exit (context_after p.blocks o q) is)) k))
        (sym done.1)
        (here_below.1 (record a { at = a.at + 1 }) stack u i x piece (context_after p.blocks o q) is left
        (record after { activations = going_on after.activations }) done.0
        (keep_position (running_on p stack a) after done.0 done.2) done.3 deep units most debt within k follows)
    meets o is (fault f) left done =
        both_end side _ _
        (ap end_of (over_stays n now.memory (Some f))
        ∙ sym
        (ap (λ (out : Out). through (then_do out (rest_of p g counts most u.nodes i x.exit (context_after p.blocks o q) is)) k) done.1
        ∙ ap (λ (m : Areas). Ended m (Some f)) done.2))
    meets o is (go to after) left done = elim done [ ]
    meets o is (enter call after) left done = elim done [ ]
    meets o is (leave after) left done = elim done [ ]

    by_inside : (o : Op) (is : List Instr) → IsInside o → IsNoCall o → HasOperand (running_on p stack a).formals o
        → WithNumber (open_behind o (length q.brackets)) (IsClosed is)
        → IsLeft p (widths_named u.block.name u.block.formals) u.block.body u.blocks u.total i x (a.at + 1) (context_after p.blocks o q) is
        → Sees side (ran n (after_effect p now (effect_of o now))) (through (rest_by p g counts most u.nodes i q o is x.exit units s) k)
    by_inside o is inside straight operand closed left =
        let room : (context_after p.blocks o q).used ≤ used_behind p.blocks (context_after p.blocks o q) is =
        used_grows p.blocks is (context_after p.blocks o q) in
        let fits : used_behind p.blocks (context_after p.blocks o q) is ≤ u.total = left.room in
        subst (λ (out : Out). Sees side (ran n (after_effect p now (effect_of o now))) (through out k))
        (sym (splits p g counts most u.nodes i q o is x.exit units s))
        (meets o is (effect_of o now) left
        (does p.blocks g.globals (calls_within p g counts most) units (running_on p stack a) now s related u.total q keeps o inside straight operand
        (can_stand (IsClosed is) (open_behind o (length q.brackets)) closed) (omega arith)))

    -- By what it is

    -- what is said of an instruction and what follows it in its block
    record IsNext (o : Op) (is : List Instr) : Type 0 where
      operand : HasOperand (running_on p stack a).formals o
      right : CallsRight p (running_on p stack a).formals o
      closed : WithNumber (open_behind o (length q.brackets)) (IsClosed is)
      goes : GoesBy u.blocks i a.at o is x.exit (Goes u.blocks i (a.at + 1) is x.exit)
      has : HasFrom u.block.body (a.at + 1) is
      reach : x.past ≡ a.at + 1 + length is
      within_body : x.past ≤ length u.block.body
      operands : HaveOperands (widths_named u.block.name u.block.formals) is
      calls : All (λ (i : Instr). CallsRight p (widths_named u.block.name u.block.formals) i.op) is
      room : used_behind p.blocks (context_after p.blocks o q) is ≤ u.total
      chain : (m : ℕ) → EndsWithin (suc m) p.blocks a.block → All (EndsWithin m p.blocks) (called_by o)

    -- there is room for the locals of the instruction
    roomy : (o : Op) (is : List Instr) → IsNext o is → q.used + length (types_of p.blocks o) ≤ length (own_of s.activations)
    roomy o is h =
        let more : (context_after p.blocks o q).used ≤ used_behind p.blocks (context_after p.blocks o q) is =
        used_grows p.blocks is (context_after p.blocks o q) in
        let fits : used_behind p.blocks (context_after p.blocks o q) is ≤ u.total = h.room in
        let used : (context_after p.blocks o q).used ≡ q.used + length (types_of p.blocks o) = used_behind_one p.blocks o q in
        let total : length (own_of s.activations) ≡ u.total = keeps.0 in
        omega arith

    abbrev Goal : Op → List Instr → Type 0
    Goal o is = Sees side (ran n (after_effect p now (effect_of o now))) (through (rest_by p g counts most u.nodes i q o is x.exit units s) k)

    jump_list : (count label : ℕ) (is : List Instr) → IsNext (op.JumpList count label) is → Goal (op.JumpList count label) is
    jump_list count label is h =
        let closed : length q.brackets ≡ 0 = none_there (IsClosed is) (length q.brackets) h.closed in
        let ways : Selects u.blocks i count label is x.exit = h.goes in
        let ctx : LoweringContext = context_after p.blocks (op.JumpList count label) q in
        let done =
        (jumps.list count label q.used).does g.globals (calls_within p g counts most) units (running_on p stack a) now s h.operand related
        (roomy (op.JumpList count label) is h) in
        let v : ℕ = part width.Byte now.registers.accu1 in
        let local : (q.used + 1) - 1 ≡ q.used = omega arith in
        subst (λ (o : Out). Sees side (ran n (after_effect p now (effect_of_list count label now))) (through o k))
        (sym
        (ap
        (λ (xs : List Stmt). then_do (body_meaning g.globals (calls_within p g counts most) (list_of q.used ++ xs) units s)
        (leaves p g counts most u.nodes i (used_behind p.blocks ctx is) x.exit)) (no_steps p.blocks u.blocks ctx is ways.nodes ways.listed)
        ∙ ap
        (λ (m : ℕ). then_do (body_meaning g.globals (calls_within p g counts most) (list_of q.used ++ []) units s) (leaves p g counts most u.nodes i m x.exit))
        (no_locals_used p.blocks u.blocks ctx is ways.nodes ways.listed)
        ∙ ap (λ (e : Exit). then_do (body_meaning g.globals (calls_within p g counts most) (list_of q.used ++ []) units s)
        (leaves p g counts most u.nodes i (q.used + 1) e))
        ways.exit
        ∙ ends_in p g counts free side size n below a stack u i x piece q now s related keeps deep units most debt within k follows closed
        (omega (arith, h.reach)) h.within_body (list_of q.used) done.leads.to
        (leaves p g counts most u.nodes i (q.used + 1) (way.Table ways.nodes ways.node)) done.leads.goes
        ∙ ap (λ (l : ℕ). exit_meaning g.globals counts (nodes_do counts g most u.nodes) i (exit_with l (way.Table ways.nodes ways.node)) units done.leads.to)
        local
        ∙ table_is p g counts free side size n below a stack u i x piece q now s related keeps deep units most debt within k follows closed
        (omega (arith, h.reach)) h.within_body q.used ways.node v ways.nodes done.leads.to done.test))
        (selects p g counts free side size n below a stack u i x piece q now s related keeps deep units most debt within k follows closed
        (omega (arith, h.reach)) h.within_body is count label v ways h.has h.reach done.leads.to done.leads.related
        (done.leads.as_many ∙ keeps.0) ways (slice_get ways.nodes v) refl)

    end_word : (is : List Instr) → IsNext op.BlockEnd is → Goal op.BlockEnd is
    end_word is h =
        let closed : length q.brackets ≡ 0 = none_there (IsClosed is) (length q.brackets) h.closed in
        let ways : Ends is x.exit = h.goes in
        let t : State = ended_state g.globals (calls_within p g counts most) units (running_on p stack a) now s related in
        subst (λ (rest : List Instr). Goal op.BlockEnd rest) (sym ways.last)
        (subst (λ (o : Out). Sees side (ran n (after_effect p now (effect_of op.BlockEnd now))) (through o k))
        (sym
        (ap
        (λ (e : Exit). then_do (body_meaning g.globals (calls_within p g counts most) (end_word_of ++ []) units s)
        (leaves p g counts most u.nodes i (context_after p.blocks op.BlockEnd q).used e)) ways.exit
        ∙ ends_in p g counts free side size n below a stack u i x piece q now s related keeps deep units most debt within k follows closed
        (omega (arith, h.reach)) h.within_body end_word_of t (leaves p g counts most u.nodes i (context_after p.blocks op.BlockEnd q).used way.End)
        (end_goes g.globals (calls_within p g counts most) units (running_on p stack a) now s related)))
        (ends_block p g counts free side size n below a stack u i x piece q now s related keeps deep units most debt within k follows closed
        (omega (arith, h.reach)) h.within_body (with_status after_end now) t
        (end_related g.globals (calls_within p g counts most) units (running_on p stack a) now s related)
        (none_open_now p g counts free side size n below a stack u i x piece q now s related keeps deep units most debt within k follows closed
        (omega (arith, h.reach)) h.within_body)))

    always : (to : ℕ) (is : List Instr) → IsNext (op.Jump jump.Always to) is → Goal (op.Jump jump.Always to) is
    always to is h =
        let closed : length q.brackets ≡ 0 = none_there (IsClosed is) (length q.brackets) h.closed in
        let ways : Jumps u.blocks to is x.exit = h.goes in
        subst (λ (rest : List Instr). Goal (op.Jump jump.Always to) rest) (sym ways.last)
        (subst (λ (e : Exit). Sees side (ran n (after_effect p now (effect_of (op.Jump jump.Always to) now)))
        (through (rest_by p g counts most u.nodes i q (op.Jump jump.Always to) [] e units s) k)) (sym ways.exit)
        (goes_to p g counts free side size n below a stack u i x piece q now s related keeps deep units most debt within k follows closed
        (omega (arith, h.reach)) h.within_body to (with_status (after_test jump.Always) now) s ways.node ways.there related
        (none_open_now p g counts free side size n below a stack u i x piece q now s related keeps deep units most debt within k follows closed
        (omega (arith, h.reach)) h.within_body) keeps.0))

    tests : (t : JumpTest) (to : ℕ) (is : List Instr) → HasTest t → Branches u.blocks i a.at to is x.exit → IsNext (op.Jump t to) is
        → q.used + length (types_of_jump t) ≡ q.used + 1 → Goal (op.Jump t to) is
    tests t to is made ways h one =
        let closed : length q.brackets ≡ 0 = none_there (IsClosed is) (length q.brackets) h.closed in
        subst (λ (rest : List Instr). Goal (op.Jump t to) rest) (sym ways.last)
        (subst
        (λ (m : ℕ). Sees side (ran n (after_effect p now (effect_of (op.Jump t to) now)))
        (through (then_do (body_meaning g.globals (calls_within p g counts most) (jump_of q.used t ++ []) units s) (leaves p g counts most u.nodes i m x.exit))
        k)) (sym one)
        (branches p g counts free side size n below a stack u i x piece q now s related keeps deep units most debt within k follows closed
        (omega (arith, h.reach)) h.within_body (jump_of q.used t) to is (is_made t now.registers.status)
        (with_status (after_test t) now) ways refl
        ((jumps.jump t to q.used made).does g.globals (calls_within p g counts most) units
        (running_on p stack a) now s h.operand related (roomy (op.Jump t to) is h))))

    loops : (to : ℕ) (is : List Instr) → IsNext (op.Loop to) is → Goal (op.Loop to) is
    loops to is h =
        let closed : length q.brackets ≡ 0 = none_there (IsClosed is) (length q.brackets) h.closed in
        let ways : Branches u.blocks i a.at to is x.exit = h.goes in
        subst (λ (rest : List Instr). Goal (op.Loop to) rest) (sym ways.last)
        (branches p g counts free side size n below a stack u i x piece q now s related keeps deep units most debt within k follows closed
        (omega (arith, h.reach)) h.within_body (loop_of q.used) to is
        (not (part width.Word (after_count now).registers.accu1 == 0)) (after_count now) ways refl
        ((jumps.loop to q.used).does g.globals (calls_within p g counts most) units (running_on p stack a) now s h.operand related (roomy (op.Loop to) is h)))

    leaves_if : (is : List Instr) → IsNext op.BlockEndIf is → Goal op.BlockEndIf is
    leaves_if is h =
        let closed : length q.brackets ≡ 0 = none_there (IsClosed is) (length q.brackets) h.closed in
        let ways : EndsIf u.blocks i a.at is x.exit = h.goes in
        subst (λ (rest : List Instr). Goal op.BlockEndIf rest) (sym ways.last)
        (ends_if p g counts free side size n below a stack u i x piece q now s related keeps deep units most debt within k follows closed
        (omega (arith, h.reach)) h.within_body is now.registers.status.rlo ways
        ((jumps.end_if q.used).does g.globals (calls_within p g counts most) units (running_on p stack a) now s h.operand related (roomy op.BlockEndIf is h)))

    straight : (o : Op) (is : List Instr) → IsInside o → IsNoCall o → IsNext o is → Goal o is
    straight o is inside plain h =
        by_inside o is inside plain h.operand h.closed
        (record {
          has = h.has;
          goes = goes_later u.blocks i a.at o is x.exit (Goes u.blocks i (a.at + 1) is x.exit) inside h.goes;
          reach = sym h.reach;
          within = h.within_body;
          operands = h.operands;
          calls = h.calls;
          closed = nested_behind p.blocks (IsClosed is) o q h.closed;
          room = h.room;
        })

    -- what is left behind a call
    left_behind : (o : Op) (is : List Instr) → IsInside o → IsNext o is
        → IsLeft p (widths_named u.block.name u.block.formals) u.block.body u.blocks u.total i x (a.at + 1) (context_after p.blocks o q) is
    left_behind o is inside h =
        record {
          has = h.has;
          goes = goes_later u.blocks i a.at o is x.exit (Goes u.blocks i (a.at + 1) is x.exit) inside h.goes;
          reach = sym h.reach;
          within = h.within_body;
          operands = h.operands;
          calls = h.calls;
          closed = nested_behind p.blocks (IsClosed is) o q h.closed;
          room = h.room;
        }

    calls : (c : BlockCall) (is : List Instr) → IsNext (op.Call c) is → Goal (op.Call c) is
    calls c is h =
        let none : length q.brackets ≡ 0 = none_there (IsClosed is) (length q.brackets) h.closed in
        let fits : length u.block.body ≤ size = u.fits in
        let no_entry : now.brackets ≡ [] = no_entries now.brackets (as_many q.used q.brackets now.brackets (own_of s.activations) keeps.1 ∙ none) in
        let may : IsCallable p (running_on p stack a).formals c = callable (running_on p stack a).formals c h.right in
        let before : Now = with_status after_end now in
        let chained : (m : ℕ) → EndsWithin (suc m) p.blocks a.block → EndsWithin m p.blocks c.block =
        λ m ends. All-head (EndsWithin m p.blocks) c.block [] (h.chain m ends) in
        let left = left_behind (op.Call c) is tt h in
        let small : a.at + 1 ≤ size = omega (arith, h.reach, h.within_body) in
        subst (λ (w : Out). Sees side (ran n (after_effect p now (effect_of (op.Call c) now))) (through w k))
        (sym (splits p g counts most u.nodes i q (op.Call c) is x.exit units s))
        (made p g counts side size blocks_there n below a stack u i x piece q now s related keeps deep units most debt within k follows
        (op.Call c) is small none left c before may refl no_entry chained (after_call (formals_at p c.block) c before) refl
        ((calls_serve.call q.used (unit_called p.blocks c) (formals_at p c.block) c).does g.globals
        (begin_unit p g counts most) units (running_on p stack a) now s
        (may_call p g counts side size blocks_there n below a stack u i x piece q now s related keeps deep units most debt within k follows
        (op.Call c) is small none left c before may refl no_entry chained) related (roomy (op.Call c) is h)))

    -- CC

    calls_if_by : (c : BlockCall) (is : List Instr) → IsNext (op.CallIf c) is → (b : Bool) → now.registers.status.rlo ≡ b
        → Sees side (ran n (after_effect p now (called_where b c now))) (through (rest_by p g counts most u.nodes i q (op.CallIf c) is x.exit units s) k)
    calls_if_by c is h true asked =
        let none : length q.brackets ≡ 0 = none_there (IsClosed is) (length q.brackets) h.closed in
        let fits : length u.block.body ≤ size = u.fits in
        let no_entry : now.brackets ≡ [] = no_entries now.brackets (as_many q.used q.brackets now.brackets (own_of s.activations) keeps.1 ∙ none) in
        let may : IsCallable p (running_on p stack a).formals c = unguarded p (running_on p stack a).formals c (callable [] c h.right.0) h.right.2 in
        let before : Now = with_status after_asking now in
        let chained : (m : ℕ) → EndsWithin (suc m) p.blocks a.block → EndsWithin m p.blocks c.block =
        λ m ends. All-head (EndsWithin m p.blocks) c.block [] (h.chain m ends) in
        let left = left_behind (op.CallIf c) is tt h in
        let small : a.at + 1 ≤ size = omega (arith, h.reach, h.within_body) in
        subst (λ (w : Out). Sees side (ran n (after_effect p now (called_where true c now))) (through w k))
        (sym (splits p g counts most u.nodes i q (op.CallIf c) is x.exit units s))
        (made p g counts side size blocks_there n below a stack u i x piece q now s related keeps deep units most debt within k follows
        (op.CallIf c) is small none left c before may refl no_entry chained (after_call (formals_at p c.block) c before) refl
        ((calls_serve.call_if q.used (unit_called p.blocks c) (formals_at p c.block) c h.right.1 h.right.2).made g.globals (begin_unit p g counts most) units
        (running_on p stack a) now s
        (may_call p g counts side size blocks_there n below a stack u i x piece q now s related keeps deep units most debt within k follows
        (op.CallIf c) is small none left c before may refl no_entry chained) related (roomy (op.CallIf c) is h) asked))
    calls_if_by c is h false asked =
        let none : length q.brackets ≡ 0 = none_there (IsClosed is) (length q.brackets) h.closed in
        let fits : length u.block.body ≤ size = u.fits in
        let no_entry : now.brackets ≡ [] = no_entries now.brackets (as_many q.used q.brackets now.brackets (own_of s.activations) keeps.1 ∙ none) in
        let leads =
        (calls_serve.call_if q.used (unit_called p.blocks c) (formals_at p c.block) c h.right.1 h.right.2).left_out g.globals (begin_unit p g counts most) units
        (running_on p stack a) now s related (roomy (op.CallIf c) is h) asked in
        let after : Now = record (with_status after_asking now) { activations = going_on now.activations } in
        subst (λ (w : Out). Sees side (ran n (running p after)) (through w k)) (sym (splits p g counts most u.nodes i q (op.CallIf c) is x.exit units s))
        (subst (λ (w : Out). Sees side (ran n (running p after))
        (through (then_do w (rest_of p g counts most u.nodes i x.exit (context_after p.blocks (op.CallIf c) q) is)) k)) (sym leads.goes)
        (goes_on_after p g counts side size blocks_there n below a stack u i x piece q now s related keeps deep units most debt within k follows
        (op.CallIf c) is (omega (arith, h.reach, h.within_body)) none
        (left_behind (op.CallIf c) is tt h) n (omega arith) units within after leads.to
        (keep_position (running_on p stack a) (with_status after_asking now) leads.to leads.related) no_entry (leads.as_many ∙ keeps.0)))

    calls_if : (c : BlockCall) (is : List Instr) → IsNext (op.CallIf c) is → Goal (op.CallIf c) is
    calls_if c is h = calls_if_by c is h now.registers.status.rlo refl

    by_op : (o : Op) (is : List Instr) → IsNext o is → Goal o is
    by_op (op.Jump jump.Always to) is h = always to is h
    by_op (op.Jump t to) is h = tests t to is tt h.goes h refl
    by_op (op.Loop to) is h = loops to is h
    by_op (op.JumpList count label) is h = jump_list count label is h
    by_op op.BlockEnd is h = end_word is h
    by_op op.BlockEndIf is h = leaves_if is h
    by_op (op.Call c) is h = calls c is h
    by_op (op.CallIf c) is h = calls_if c is h
    by_op o is h = straight o is tt tt h

    pub one_step : (y : Instr) (is : List Instr) → IsLeft p (widths_named u.block.name u.block.formals) u.block.body u.blocks u.total i x a.at q (y ∷ is)
        → Sees side (ran (suc n) (running p now)) (through (rest_of p g counts most u.nodes i x.exit q (y ∷ is) units s) k)
    one_step y is left =
        let same_widths : (running_on p stack a).formals ≡ widths_named u.block.name u.block.formals = ap widths_in u.there in
        arrives p g counts side size n a stack u now s related y (has_first u.block.body a.at y is left.has)
        (λ stand. Sees side (ran n stand) (through (rest_by p g counts most u.nodes i q y.op is x.exit units s) k))
        (by_op y.op is (record {
          operand = subst (λ (formals : Widths). HasOperand formals y.op) (sym same_widths)
              (All-head (HasItsOperand (widths_named u.block.name u.block.formals)) y is left.operands);
          right = subst (λ (formals : Widths). CallsRight p formals y.op) (sym same_widths)
              (All-head (λ (i : Instr). CallsRight p (widths_named u.block.name u.block.formals) i.op) y is left.calls);
          closed = left.closed;
          goes = left.goes;
          has = has_rest u.block.body a.at y is left.has;
          reach = omega (arith, left.reach);
          within_body = left.within;
          operands = All-tail (HasItsOperand (widths_named u.block.name u.block.formals)) y is left.operands;
          calls = All-tail (λ (i : Instr). CallsRight p (widths_named u.block.name u.block.formals) i.op) y is left.calls;
          room = left.room;
          chain = λ m ends.
              all_at (EndsWithin m p.blocks) (λ (i : Instr). called_by i.op) u.block.body a.at y (ends u.block u.there)
              (has_first u.block.body a.at y is left.has);
        }))

  -- All of them, from fewer p g counts side size steps to more

  -- no bracket is open where a block begins
  keeps_none : (total used : ℕ) (entries : List Entry) (acts : List Running) → entries ≡ [] → length (own_of acts) ≡ total
      → Keeps total (context_from used) entries acts
  keeps_none total used [] acts e long = (long, tt)
  keeps_none total used (x ∷ entries) acts e long = cc

  node_none : AtNode p g counts side size 0
  node_none a stack u i begins now s related none total deep units most debt begun k follows =
      let at = u.unit.each i begins.0 begins.1 in
      let some : 1 ≤ length at.is = at.some in
      let fits : length u.block.body ≤ size = u.fits in
      none_forth side _ (no_first_step side size units most a.at debt (omega (arith, begins.2, at.left.reach, at.left.within)) begun)

  node_next : (n : ℕ) → ((m : ℕ) → m ≤ n → Both p g counts side size m) → AtNode p g counts side size (suc n)
  node_next n below a stack u i begins now s related none total deep units zero debt begun k follows =
      none_back side _ (no_node side size n units a.at debt begun)
  node_next n below a stack u i begins now s related none total deep units (suc most) debt begun k follows =
      let at = u.unit.each i begins.0 begins.1 in
      subst (λ (o : Out). Sees side (ran (suc n) (running p now)) (through o k))
      (sym
      (ap
      (λ (o : Option StNode). node_meaning g.globals counts (calls_within p g counts most) (nodes_do counts g most u.nodes) i o units s)
      at.there))
      (by at.is at.some
      (subst (λ (m : ℕ). IsLeft p (widths_named u.block.name u.block.formals) u.block.body u.blocks u.total i begins.0 m (context_from at.used) at.is)
      begins.2 at.left))
    where
      by : (is : List Instr) → 1 ≤ length is
          → IsLeft p (widths_named u.block.name u.block.formals) u.block.body u.blocks u.total i begins.0 a.at
          (context_from (u.unit.each i begins.0 begins.1).used) is
          → Sees side (ran (suc n) (running p now))
          (through (rest_of p g counts most u.nodes i begins.0.exit (context_from (u.unit.each i begins.0 begins.1).used) is units s) k)
      by [] some left = absurd (omega arith)
      by (y ∷ is) some left =
          let used : ℕ = (u.unit.each i begins.0 begins.1).used in
          one_step n below a stack u i begins.0 begins.1 (context_from used) now s related
          (keeps_none u.total used now.brackets s.activations none total) deep units most debt
          (first_step side size n units most a.at debt begun) k (fewer p g counts side size n (suc n) a stack k debt (omega arith) follows) y is left

  -- with the exit of a node from which the next one follows, which takes no step
  falls : (n : ℕ) → AtNode p g counts side size n
      → (a : Activation) (stack : Stack) (u : HasBlock p g size a.block) (i : ℕ) (x : Node) → slice_get u.blocks i ≡ Some x
      → (q : LoweringContext) → IsLeft p (widths_named u.block.name u.block.formals) u.block.body u.blocks u.total i x a.at q []
      → (now : Now) (s : State) → Related (running_on p stack a) now s
      → Keeps u.total q now.brackets s.activations → IsDeep p a stack → (units most debt : ℕ) → Within side size n units most a.at debt
      → (k : ℕ → State → End) → Follows p g counts side size n a stack k debt
      → Sees side (ran n (running p now)) (through (rest_of p g counts most u.nodes i x.exit q [] units s) k)
  falls n node a stack u i x piece q left now s related keeps deep units most debt within k follows =
      let fits : length u.block.body ≤ size = u.fits in
      subst (λ (e : Exit). Sees side (ran n (running p now)) (through (rest_of p g counts most u.nodes i e q [] units s) k)) (sym left.goes.0)
      (to_node p g counts side size n node a stack u i deep most debt k follows
      (suc i) a.at a.at left.goes.1 (λ unpaid. omega arith) (omega (arith, left.reach, left.within))
      now s related (no_entries now.brackets (as_many q.used q.brackets now.brackets (own_of s.activations) keeps.1 ∙ left.closed)) keeps.0 units within)

  inside_none : AtNode p g counts side size 0 → Inside p g counts side size 0
  inside_none node a stack u i x piece q [] left now s related keeps deep units most debt within k follows =
      falls 0 node a stack u i x piece q left now s related keeps deep units most debt within k follows
  inside_none node a stack u i x piece q (y ∷ is) left now s related keeps deep units most debt within k follows =
      let fits : length u.block.body ≤ size = u.fits in
      none_forth side _ (no_step side size units most a.at debt (omega (arith, left.reach, left.within)) within)

  inside_next : (n : ℕ) → AtNode p g counts side size (suc n) → ((m : ℕ) → m ≤ n → Both p g counts side size m) → Inside p g counts side size (suc n)
  inside_next n node below a stack u i x piece q [] left now s related keeps deep units most debt within k follows =
      falls (suc n) node a stack u i x piece q left now s related keeps deep units most debt within k follows
  inside_next n node below a stack u i x piece q (y ∷ is) left now s related keeps deep units most debt within k follows =
      one_step n below a stack u i x piece q now s related keeps deep units most debt (next_step side size n units most a.at debt within) k
      (fewer p g counts side size n (suc n) a stack k debt (omega arith) follows) y is left

  -- from all smaller numbers, which jump lists and calls ask for
  both_next : (n : ℕ) → ((m : ℕ) → m ≤ n → Both p g counts side size m) → Both p g counts side size (suc n)
  both_next n below = let node : AtNode p g counts side size (suc n) = node_next n below in (node, inside_next n node below)

  both_within : (n m : ℕ) → m ≤ n → Both p g counts side size m
  both_within zero zero h = (node_none, inside_none node_none)
  both_within zero (suc m) h = absurd (omega arith)
  both_within (suc n) m h =
      ⊎_elim (λ (e : m ≡ suc n). subst (Both p g counts side size) (sym e) (both_next n (both_within n)))
      (λ (less : m < suc n). both_within n m (omega arith)) (eq-or-lt_of_le h)

  pub at_node : (n : ℕ) → AtNode p g counts side size n
  at_node n = let both = both_within n n (omega arith) in both.0

-- Blocks that are called: a call enters the unit of its block, and the calling block goes on once that has ended.
use Rattle.std.proofs.Common.{◌≡◌, ℕ, zero, suc, ◌+◌, ◌-◌, ◌<◌, ◌≤◌, List, [], ◌∷◌, ◌++◌, length, Option, Some, Result, Ok, Err, refl, sym, ap, ◌∙◌, subst, arith}
use Rattle.std.specs.Prelude.{option_map, slice_get}
use Rattle.std.proofs.lemmas.Option.{get_or_from_slice_get, slice_get-map}
use Rattle.flow_graph.specs.Graphs.{BeginsAt}
use Rattle.flow_graph.specs.declared.graph.Node.{Node}
use Rattle.memory_areas.specs.Areas.{Areas, Contents}
use Rattle.memory_areas.specs.End.{End, Ended}
use Rattle.s7_base.specs.declared.outcome.Fault.{Fault}
use Rattle.stl_tree.specs.Accepted.{EndsWithin, Widths, widths_named}
use Rattle.stl_tree.specs.Now.{Activation, Now}
use Rattle.stl_tree.specs.StlRun.{end_of, formals_at, running, unless_fault}
use Rattle.stl_tree.specs.declared.program.Block.{Block}
use Rattle.stl_tree.specs.declared.program.Instr.{Instr}
use Rattle.stl_tree.specs.declared.program.Op.{Op}
use Rattle.stl_tree.specs.declared.program.Program.{Program}
use Rattle.stl_tree.proofs.Runs.{over_stays}
use Rattle.st_tree.specs.GraphRun.{Counting, for_one_unit, nodes_do, unit_begun}
use Rattle.st_tree.specs.Meaning.{Out, then_do}
use Rattle.st_tree.specs.State.{State, own_of}
use Rattle.st_tree.specs.declared.graph.GraphProgram.{GraphProgram}
use Rattle.st_tree.specs.declared.graph.StNode.{StNode}
use Rattle.memory_areas.specs.declared.sizes.TheConstants.{ACTIVATIONS}
use Rattle.stl_tree.specs.Calls.{after_call, formals_of, going_on}
use Rattle.stl_tree.specs.declared.program.BlockCall.{BlockCall}
use Rattle.stl_tree.specs.declared.program.Formal.{Formal}
use Rattle.call_templates.specs.CallLaw.{DoesCall, Enters, MayCall, frames_on, widths_inside}
use Rattle.st_tree.specs.Calls.{after_unit, state_on_entry}
use Rattle.st_tree.specs.declared.graph.GraphPou.{GraphPou}
use Rattle.instruction_lowering.specs.UnitNames.{unit_position}
use Rattle.instruction_lowering.proofs.CallFacts.{Begins, IsCallable, call_begins, end_keeps_brackets, entry_locals, keeps_nothing, same_block, same_head}
use Rattle.instruction_lowering.proofs.Ends.{Sees, behind_call, both_end, through, through_call}
use Rattle.instruction_lowering.specs.inner.Templates.{context_after, unit_called}
use Rattle.instruction_lowering.specs.inner.UnitOrder.{unit_positions}
use Rattle.template_parts.specs.Related.{Related}
use Rattle.instruction_lowering.proofs.Bounds.{Begun, Side, Within, called_step, no_unit, owed, returned_step}
use Rattle.instruction_lowering.specs.declared.statements.LoweringContext.{LoweringContext}
use Rattle.instruction_lowering.proofs.Temporaries.{Keeps, as_many}
use Rattle.instruction_lowering.proofs.Spots.{HasBlock, IsLeft, widths_in}
use Rattle.instruction_lowering.proofs.RunsAlike.{Stack, running_on, IsDeep, ran, rest_of, here, begin_unit, Follows, Both, fewer, no_more}

module _ (p : Program) (g : GraphProgram) (counts : Counting) (side : Side) (size : ℕ)
    (blocks_there : (n : ℕ) (b : Block) → slice_get p.blocks n ≡ Some b → HasBlock p g size n) where
  module _ (n : ℕ) (below : (m : ℕ) → m ≤ n → Both p g counts side size m) (a : Activation) (stack : Stack) (u : HasBlock p g size a.block) (i : ℕ) (x : Node)
      (piece : slice_get u.blocks i ≡ Some x) (q : LoweringContext) (now : Now) (s : State) (related : Related (running_on p stack a) now s)
      (keeps : Keeps u.total q now.brackets s.activations) (deep : IsDeep p a stack)
      (units most debt : ℕ) (within : Within side size n units most (a.at + 1) debt)
      (k : ℕ → State → End) (follows : Follows p g counts side size n a stack k debt) where
    module _ (o : Op) (is : List Instr) (small : a.at + 1 ≤ size) (none : length (context_after p.blocks o q).brackets ≡ 0)
        (left : IsLeft p (widths_named u.block.name u.block.formals) u.block.body u.blocks u.total i x (a.at + 1) (context_after p.blocks o q) is) where
      -- the calling block goes on
      pub goes_on_after : (j : ℕ) → j ≤ n → (others : ℕ) → Within side size j others most (a.at + 1) debt → (after : Now) (t : State)
          → Related (frames_on (running_on p stack a)) after t → after.brackets ≡ [] → length (own_of t.activations) ≡ u.total
          → Sees side (ran j (running p after)) (through (rest_of p g counts most u.nodes i x.exit (context_after p.blocks o q) is others t) k)
      goes_on_after j less others enough after t alike closed total =
          let here_below : Both p g counts side size j = below j less in
          here_below.1 (record a { at = a.at + 1 }) stack u i x piece (context_after p.blocks o q) is left after t alike
          (keeps_nothing u.total (context_after p.blocks o q) after.brackets t.activations none closed total)
          deep others most debt enough k (fewer p g counts side size j n a stack k debt less follows)

      -- the called block begins, and the calling one goes on once it has ended
      module _ (unit : ℕ) (begun : Now) (called : Activation) (v : HasBlock p g size called.block)
          (position : unit_position p.blocks v.block.name ≡ unit) (starts : called.at ≡ 0) (closed : begun.brackets ≡ [])
          (deeper : (inner : Stack) → length inner.callers ≡ suc (length stack.callers) → IsDeep p called inner)
          (entered : Enters (here p g counts most q o units s)
          (begin_unit p g counts most) units q.used unit (running_on p stack a) s (formals_at p called.block)
          (widths_in (slice_get p.blocks called.block)) begun called) where
        abbrev inner : Stack
        inner = record { callers = record a { at = a.at + 1 } ∷ stack.callers; units = stack.units ++ entered.waits ∷ [] }

        abbrev first : State
        first = state_on_entry v.pou.head entered.references entered.at

        abbrev behind : ℕ → State → End
        behind = behind_call entered.more (rest_of p g counts most u.nodes i x.exit (context_after p.blocks o q) is) k

        follows_call : Follows p g counts side size n called inner behind (owed size (a.at + 1) debt)
        follows_call j less others enough at done t alike closed_there =
            let out = entered.behind at others done t alike in
            let after : Now = out.0 in
            let leads = out.2 in
            subst
            (λ (r : Result Now Fault). Sees side (ran j (unless_fault p done r)) (behind others t)) (sym out.1)
            (subst (λ (w : Out). Sees side (ran j (running p after))
            (through (then_do w (rest_of p g counts most u.nodes i x.exit (context_after p.blocks o q) is)) k)) (sym leads.goes)
            (goes_on_after j less others (returned_step side size n j others units most (a.at + 1) debt small less within enough) after leads.to
            leads.related
            (end_keeps_brackets (formals_at p called.block) (record called { at = at }) (record a { at = a.at + 1 } ∷ stack.callers) done after out.1
            ∙ closed_there)
            (leads.as_many ∙ keeps.0)))

        -- with so many units
        by_units : (m : ℕ) → Within side size n m most (a.at + 1) debt
            → Sees side (ran n (running p begun)) (through (for_one_unit (nodes_do counts g most v.nodes 0) m first) behind)
        by_units zero enough = no_more p g counts side size n (running p begun) refl (no_unit side size n most (a.at + 1) debt enough)
        by_units (suc m) enough =
            let here_below : Both p g counts side size n = below n (omega arith) in
            here_below.0 called inner v 0 (subst (BeginsAt v.blocks 0) (sym starts) v.unit.begins) begun first (entered.begins v.pou.head) closed
            (entry_locals v.pou.head entered.references entered.at ∙ v.many) (deeper inner refl) m most (owed size (a.at + 1) debt)
            (subst (λ (at : ℕ). Begun side size n m most at (owed size (a.at + 1) debt)) (sym starts)
            (called_step side size n m most (a.at + 1) debt small enough)) behind follows_call

        unit_is : begin_unit p g counts most unit entered.references units entered.at ≡ after_unit (for_one_unit (nodes_do counts g most v.nodes 0) units first)
        unit_is =
            ap (λ (o : Option GraphPou). unit_begun (λ begun. nodes_do counts g most begun 0) o entered.references units entered.at)
            (ap (slice_get g.pous) (sym position) ∙ v.stands)
            ∙ ap (λ (nodes : List StNode). after_unit (for_one_unit (nodes_do counts g most nodes 0) units first)) v.graph

        enters : Sees side (ran n (running p begun))
            (through (then_do (here p g counts most q o units s) (rest_of p g counts most u.nodes i x.exit (context_after p.blocks o q) is)) k)
        enters =
            subst (λ (w : End). Sees side (ran n (running p begun)) w)
            (sym
            (ap (λ (w : Out). through (then_do w (rest_of p g counts most u.nodes i x.exit (context_after p.blocks o q) is)) k) entered.goes
            ∙ ap (λ (w : Out). through (then_do (then_do w entered.more) (rest_of p g counts most u.nodes i x.exit (context_after p.blocks o q) is)) k) unit_is
            ∙ through_call (for_one_unit (nodes_do counts g most v.nodes 0) units first) entered.more
            (rest_of p g counts most u.nodes i x.exit (context_after p.blocks o q) is) k))
            (by_units units within)

      -- the call is made from a state, or an actual has a fault
      module _ (c : BlockCall) (before : Now) (may : IsCallable p (running_on p stack a).formals c) (same_memory : before.memory ≡ now.memory)
          (no_brackets : before.brackets ≡ []) (chained : (m : ℕ) → EndsWithin (suc m) p.blocks a.block → EndsWithin m p.blocks c.block) where
        abbrev formals : List Formal
        formals = formals_at p c.block

        -- one block more runs
        deeper_by : (most : ℕ) → length stack.callers + most ≡ ACTIVATIONS → EndsWithin most p.blocks a.block → (called : Activation) → called.block ≡ c.block
            → (inner : Stack) → length inner.callers ≡ suc (length stack.callers) → IsDeep p called inner
        deeper_by zero all ends called same inner more = elim ends [ ]
        deeper_by (suc m) all ends called same inner more =
            (m, omega arith, subst (EndsWithin m p.blocks) (sym same) (chained m ends))

        room_by : (most : ℕ) → length stack.callers + most ≡ ACTIVATIONS → EndsWithin most p.blocks a.block → suc (length stack.callers) < ACTIVATIONS
        room_by zero all ends = elim ends [ ]
        room_by (suc zero) all ends = elim (chained 0 ends) [ ]
        room_by (suc (suc m)) all ends = omega arith

        has_formals : formals ≡ may.block.formals
        has_formals = ap formals_of may.there

        pub may_call : MayCall (running_on p stack a) formals c
        may_call =
            subst (λ (fs : List Formal). MayCall (running_on p stack a) fs c) (sym has_formals)
            (record { right = may.right; deep = room_by deep.0 deep.1 deep.2 })

        abbrev pub Made : Result Now Fault → Type 0
        Made r =
            Sees side (ran n (unless_fault p before r))
            (through (then_do (here p g counts most q o units s) (rest_of p g counts most u.nodes i x.exit (context_after p.blocks o q) is)) k)

        begins_by : (begun : Now) (called : Activation) → begun.activations ≡ called ∷ going_on (running_on p stack a).blocks → Begins c before begun
            → Enters (here p g counts most q o units s) (begin_unit p g counts most) units q.used
            (unit_called p.blocks c) (running_on p stack a) s formals (widths_inside c formals) begun called
            → Sees side (ran n (running p begun))
            (through (then_do (here p g counts most q o units s) (rest_of p g counts most u.nodes i x.exit (context_after p.blocks o q) is)) k)
        begins_by begun called is_called begins entered =
            let opened : Activation = record {
              block = c.block;
              at = 0;
              instance = c.instance;
              db = before.registers.db;
              di = before.registers.di;
              formals = begins.places;
            } in
            let is_it : opened ≡ called =
            same_head opened called (going_on before.activations) (going_on (running_on p stack a).blocks)
            (sym (ap (λ (x : Now). x.activations) begins.is) ∙ is_called) in
            let same : called.block ≡ c.block = sym (ap (λ (x : Activation). x.block) is_it) in
            let starts : called.at ≡ 0 = sym (ap (λ (x : Activation). x.at) is_it) in
            let there : slice_get p.blocks called.block ≡ Some may.block = ap (slice_get p.blocks) same ∙ may.there in
            let v : HasBlock p g size called.block = blocks_there called.block may.block there in
            let block : v.block ≡ may.block = same_block v.block may.block (sym v.there ∙ there) in
            let position : unit_position p.blocks v.block.name ≡ unit_called p.blocks c =
            ap (λ (b : Block). unit_position p.blocks b.name) block
            ∙ sym
            (get_or_from_slice_get (unit_positions p.blocks) c.block (unit_position p.blocks may.block.name) 0
            (slice_get-map (λ (b : Block). unit_position p.blocks b.name) p.blocks c.block
            ∙ ap (option_map (λ (b : Block). unit_position p.blocks b.name)) may.there)) in
            enters (unit_called p.blocks c) begun called v position starts (ap (λ (x : Now). x.brackets) begins.is ∙ no_brackets)
            (λ inner more. deeper_by deep.0 deep.1 deep.2 called same inner more)
            (subst (λ (ws : Widths). Enters (here p g counts most q o units s) (begin_unit p g counts most) units q.used (unit_called p.blocks c)
            (running_on p stack a) s (formals_at p called.block) ws begun called)
            (ap (widths_inside c) has_formals ∙ may.inside ∙ sym (ap widths_in there))
            (subst (λ (m : ℕ). Enters (here p g counts most q o units s) (begin_unit p g counts most) units q.used (unit_called p.blocks c)
            (running_on p stack a) s (formals_at p m) (widths_inside c formals) begun called)
            (sym same) entered))

        pub made : (r : Result Now Fault) → after_call formals c before ≡ r
            → DoesCall (here p g counts most q o units s) (begin_unit p g counts most) units q.used
            (unit_called p.blocks c) (running_on p stack a) s now.memory formals (widths_inside c formals) r
            → Made r
        made (Ok begun) e done = begins_by begun done.0 done.1 (call_begins formals c before begun e) done.2
        made (Err f) e done =
            both_end side _ _
            (ap end_of (over_stays n before.memory (Some f)) ∙ ap (λ (m : Contents). Ended m.areas (Some f)) same_memory
            ∙ sym
            (ap (λ (w : Out). through (then_do w (rest_of p g counts most u.nodes i x.exit (context_after p.blocks o q) is)) k) done.stops
            ∙ ap (λ (m : Areas). Ended m (Some f)) done.areas))

-- Exits: where the last instruction of a block leads.
use Rattle.std.proofs.Common.{◌≡◌, ℕ, zero, suc, pos, ◌+◌, ◌-◌, ◌<◌, ◌≤◌, Bool, true, false, if◌then◌else◌, List, [], ◌++◌, length, Option, Some, None, Result, Ok, refl, sym, ap, ◌∙◌, subst, arith}
use Rattle.std.specs.Prelude.{nat_lt, slice_get}
use Rattle.std.proofs.lemmas.Bool.Decides.{nat_tests}
use Rattle.std.proofs.lemmas.List.{append-nil}
use Rattle.std.proofs.lemmas.Option.{slice_get_within}
use Rattle.flow_graph.specs.Graphs.{BeginsAt}
use Rattle.flow_graph.specs.declared.graph.Exit.{Exit}
use Rattle.flow_graph.specs.declared.graph.Exit.TheVariants as way
use Rattle.flow_graph.specs.declared.graph.Node.{Node}
use Rattle.flow_laws.specs.Ways.{Branches, EndsIf, HasFrom, Selects}
use Rattle.jump_templates.specs.JumpLaw.{LeadsToTest}
use Rattle.jump_templates.specs.Jumps.{end_if_of}
use Rattle.memory_areas.specs.Access.{and_then}
use Rattle.memory_areas.specs.End.{End}
use Rattle.status_word.specs.StatusBits.{after_end, after_jump}
use Rattle.s7_base.specs.declared.outcome.Fault.{Fault}
use Rattle.stl_tree.specs.Instructions.{effect_of}
use Rattle.stl_tree.specs.Jumps.{ended_where, going_where, position_of}
use Rattle.stl_tree.specs.Now.{Activation, Now, go, next, with_status}
use Rattle.stl_tree.specs.StlRun.{after_effect, after_return, running}
use Rattle.stl_tree.specs.declared.program.Instr.{Instr}
use Rattle.stl_tree.specs.declared.program.Op.{Op}
use Rattle.stl_tree.specs.declared.program.Program.{Program}
use Rattle.st_tree.specs.GraphRun as run
use Rattle.st_tree.specs.GraphRun.{Counting, chosen_node, counted_if, entry_or, exit_meaning, follow, nodes_do}
use Rattle.st_tree.specs.Meaning.{Normal, Out, Sem, body_meaning, then_do}
use Rattle.st_tree.specs.State.{State, own_of}
use Rattle.st_tree.specs.Value.{value}
use Rattle.st_tree.specs.Values.{flag, is_set}
use Rattle.st_tree.specs.declared.expr.StType.TheVariants as type
use Rattle.st_tree.specs.declared.graph.GraphProgram.{GraphProgram}
use Rattle.st_tree.specs.declared.program.Stmt.{Stmt}
use Rattle.st_tree.specs.declared.state.Value.{Value}
use Rattle.stl_tree.specs.Calls.{going_on, going_on_at}
use Rattle.instruction_lowering.proofs.Ends.{Sees, none_forth, through}
use Rattle.instruction_lowering.specs.inner.Lowering.{exit_with}
use Rattle.template_parts.specs.Builders.{local_of}
use Rattle.template_parts.specs.Related.{Frames, Related}
use Rattle.template_parts.proofs.Alike.{keep_position, keep_position_at}
use Rattle.instruction_lowering.proofs.Bounds.{Side, Within, far_step, last_step, next_step, no_step}
use Rattle.instruction_lowering.specs.declared.statements.LoweringContext.{LoweringContext}
use Rattle.instruction_lowering.proofs.Temporaries.{Keeps, as_many}
use Rattle.instruction_lowering.proofs.SpotLaws.{Listed, as_many_listed, listed_at, no_entries, not_listed}
use Rattle.instruction_lowering.proofs.Spots.{HasBlock}
use Rattle.instruction_lowering.proofs.RunsAlike.{Stack, running_on, IsDeep, ran, calls_within, leaves, Follows, Both, fewer, arrives, to_node}

module _ (p : Program) (g : GraphProgram) (counts : Counting) (free : (i j : ℕ) → counts i j ≡ false → i < j) (side : Side) (size : ℕ) where
  module _ (n : ℕ) (below : (m : ℕ) → m ≤ n → Both p g counts side size m) (a : Activation) (stack : Stack) (u : HasBlock p g size a.block) (i : ℕ) (x : Node)
      (piece : slice_get u.blocks i ≡ Some x) (q : LoweringContext) (now : Now) (s : State) (related : Related (running_on p stack a) now s)
      (keeps : Keeps u.total q now.brackets s.activations) (deep : IsDeep p a stack)
      (units most debt : ℕ) (within : Within side size n units most (a.at + 1) debt)
      (k : ℕ → State → End) (follows : Follows p g counts side size n a stack k debt) where
    module _ (closed : length q.brackets ≡ 0) (end : a.at + 1 ≤ x.past) (inside : x.past ≤ length u.block.body) where
      abbrev frames : Frames
      frames = running_on p stack a

      pub none_open_now : now.brackets ≡ []
      none_open_now = no_entries now.brackets (as_many q.used q.brackets now.brackets (own_of s.activations) keeps.1 ∙ closed)

      small : a.at + 1 ≤ size
      small = let fits : length u.block.body ≤ size = u.fits in omega arith

      -- an exit that is not counted leads forward
      forward : (j to : ℕ) → BeginsAt u.blocks j to → counts i j ≡ false → x.past ≤ to
      forward j to begins unpaid =
          let order : x.past ≤ begins.0.first = u.unit.order i j x begins.0 (free i j unpaid) piece begins.1 in
          let same : begins.0.first ≡ to = begins.2 in
          omega arith

      -- statements that end so, with nothing behind them
      pub ends_in : (xs : List Stmt) (t : State) (last : Sem) → body_meaning g.globals (calls_within p g counts most) xs units s ≡ Normal units t
          → then_do (body_meaning g.globals (calls_within p g counts most) (xs ++ []) units s) last ≡ last units t
      ends_in xs t last goes =
          ap (λ (ys : List Stmt). then_do (body_meaning g.globals (calls_within p g counts most) ys units s) last) (append-nil xs)
          ∙ ap (λ (o : Out). then_do o last) goes

      abbrev nodes_then : ℕ → Sem
      nodes_then = nodes_do counts g most u.nodes

      -- the state goes on at a position, or behind the instruction
      pub goes_to : (to : ℕ) (after : Now) (t : State) (j : ℕ) → BeginsAt u.blocks j to → Related frames after t → after.brackets ≡ []
          → length (own_of t.activations) ≡ u.total
          → Sees side (ran n (after_effect p now (go to after))) (through (counted_if (counts i j) (nodes_then j) units t) k)
      goes_to to after t j begins alike none total =
          let here_below : Both p g counts side size n = below n (omega arith) in
          to_node p g counts side size n here_below.0 a stack u i deep most debt k follows j to (a.at + 1) begins
          (λ unpaid. let past : x.past ≤ to = forward j to begins unpaid in omega arith) small
          (record after { activations = going_on_at to after.activations }) t (keep_position_at to frames after t alike) none total units within

      pub goes_behind : (after : Now) (t : State) → BeginsAt u.blocks (suc i) (a.at + 1) → Related frames after t → after.brackets ≡ []
          → length (own_of t.activations) ≡ u.total
          → Sees side (ran n (after_effect p now (next after))) (through (counted_if (counts i (suc i)) (nodes_then (suc i)) units t) k)
      goes_behind after t begins alike none total =
          let here_below : Both p g counts side size n = below n (omega arith) in
          to_node p g counts side size n here_below.0 a stack u i deep most debt k follows (suc i) (a.at + 1) (a.at + 1) begins (λ unpaid. omega arith) small
          (record after { activations = going_on after.activations }) t (keep_position frames after t alike) none total units within

      -- the block ends
      pub ends_block : (after : Now) (t : State) → Related frames after t → after.brackets ≡ []
          → Sees side (ran n (after_return p after.activations after)) (k units t)
      ends_block after t alike none =
          subst (λ (acts : List Activation). Sees side (ran n (after_return p acts after)) (k units t)) (sym alike.blocks)
          (follows n (omega arith) units (last_step side size n units most a.at debt small within) a.at after t alike none)

      -- Exits that test

      -- the number of the local that is tested
      last_local : (q.used + 1) - 1 ≡ q.used
      last_local = omega arith

      branch_is : (l j : ℕ) (b : Bool) (t : State) → value g.globals (local_of l) t ≡ Ok (flag b)
          → exit_meaning g.globals counts nodes_then i (exit_with l (way.Branch j)) units t
          ≡ (if b then counted_if (counts i j) (nodes_then j) units t else counted_if (counts i (suc i)) (nodes_then (suc i)) units t)
      branch_is l j b t h =
          ap (λ (r : Result Value Fault). follow counts nodes_then i (and_then r (λ v. Ok (if is_set v then run.to j else run.to (suc i)))) units t) h ∙ by b
        where
          by : (b : Bool) → follow counts nodes_then i (Ok (if is_set (flag b) then run.to j else run.to (suc i))) units t
              ≡ (if b then counted_if (counts i j) (nodes_then j) units t else counted_if (counts i (suc i)) (nodes_then (suc i)) units t)
          by true = refl
          by false = refl

      end_if_is : (l : ℕ) (b : Bool) (t : State) → value g.globals (local_of l) t ≡ Ok (flag b)
          → exit_meaning g.globals counts nodes_then i (exit_with l way.EndIf) units t
          ≡ (if b then Normal units t else counted_if (counts i (suc i)) (nodes_then (suc i)) units t)
      end_if_is l b t h =
          ap (λ (r : Result Value Fault). follow counts nodes_then i (and_then r (λ v. Ok (if is_set v then run.out else run.to (suc i)))) units t) h ∙ by b
        where
          by : (b : Bool) → follow counts nodes_then i (Ok (if is_set (flag b) then run.out else run.to (suc i))) units t
              ≡ (if b then Normal units t else counted_if (counts i (suc i)) (nodes_then (suc i)) units t)
          by true = refl
          by false = refl

      pub branches : (xs : List Stmt) (to : ℕ) (is : List Instr) (b : Bool) (after : Now) → Branches u.blocks i a.at to is x.exit
          → after.brackets ≡ now.brackets
          → LeadsToTest g.globals (body_meaning g.globals (calls_within p g counts most) xs units s) units q.used frames s after (flag b)
          → Sees side (ran n (after_effect p now (going_where b to after)))
          (through (then_do (body_meaning g.globals (calls_within p g counts most) (xs ++ []) units s) (leaves p g counts most u.nodes i (q.used + 1) x.exit))
          k)
      branches xs to is b after ways same done =
          subst
          (λ (e : Exit). Sees side (ran n (after_effect p now (going_where b to after)))
          (through (then_do (body_meaning g.globals (calls_within p g counts most) (xs ++ []) units s) (leaves p g counts most u.nodes i (q.used + 1) e)) k))
          (sym ways.exit)
          (subst (λ (o : Out). Sees side (ran n (after_effect p now (going_where b to after))) (through o k))
          (sym
          (ends_in xs done.leads.to (leaves p g counts most u.nodes i (q.used + 1) (way.Branch ways.node)) done.leads.goes
          ∙ ap (λ (l : ℕ). exit_meaning g.globals counts nodes_then i (exit_with l (way.Branch ways.node)) units done.leads.to) last_local
          ∙ branch_is q.used ways.node b done.leads.to done.test)) (by b))
        where
          total : length (own_of done.leads.to.activations) ≡ u.total
          total = done.leads.as_many ∙ keeps.0

          by : (b : Bool) → Sees side (ran n (after_effect p now (going_where b to after)))
              (through
              (if b then counted_if (counts i ways.node) (nodes_then ways.node) units done.leads.to
              else counted_if (counts i (suc i)) (nodes_then (suc i)) units done.leads.to) k)
          by true = goes_to to after done.leads.to ways.node ways.there done.leads.related (same ∙ none_open_now) total
          by false = goes_behind after done.leads.to ways.behind done.leads.related (same ∙ none_open_now) total

      abbrev after_either : Bool → Now
      after_either b = if b then with_status after_end now else with_status after_jump now

      pub ends_if : (is : List Instr) (b : Bool) → EndsIf u.blocks i a.at is x.exit
          → LeadsToTest g.globals (body_meaning g.globals (calls_within p g counts most) (end_if_of q.used) units s) units q.used frames s
          (after_either b) (flag b)
          → Sees side (ran n (after_effect p now (ended_where b now)))
          (through (then_do (body_meaning g.globals (calls_within p g counts most) (end_if_of q.used ++ []) units s)
          (leaves p g counts most u.nodes i (q.used + 1) x.exit)) k)
      ends_if is b ways done =
          subst
          (λ (e : Exit). Sees side (ran n (after_effect p now (ended_where b now)))
          (through (then_do (body_meaning g.globals (calls_within p g counts most) (end_if_of q.used ++ []) units s)
          (leaves p g counts most u.nodes i (q.used + 1) e)) k))
          (sym ways.exit)
          (subst (λ (o : Out). Sees side (ran n (after_effect p now (ended_where b now))) (through o k))
          (sym
          (ends_in (end_if_of q.used) done.leads.to (leaves p g counts most u.nodes i (q.used + 1) way.EndIf) done.leads.goes
          ∙ ap (λ (l : ℕ). exit_meaning g.globals counts nodes_then i (exit_with l way.EndIf) units done.leads.to) last_local
          ∙ end_if_is q.used b done.leads.to done.test)) (by b done.leads.to done.leads.related (done.leads.as_many ∙ keeps.0)))
        where
          by : (b : Bool) (t : State) → Related frames (after_either b) t → length (own_of t.activations) ≡ u.total
              → Sees side (ran n (after_effect p now (ended_where b now)))
              (through (if b then Normal units t else counted_if (counts i (suc i)) (nodes_then (suc i)) units t) k)
          by true t alike total = ends_block (with_status after_end now) t alike none_open_now
          by false t alike total = goes_behind (with_status after_jump now) t ways.behind alike none_open_now total

      -- Jump lists

      pub table_is : (l j v : ℕ) (js : List ℕ) (t : State) → value g.globals (local_of l) t ≡ Ok (record { ty = type.Dint; n = pos v })
          → exit_meaning g.globals counts nodes_then i (exit_with l (way.Table js j)) units t
          ≡ counted_if (counts i (entry_or (slice_get js v) j)) (nodes_then (entry_or (slice_get js v) j)) units t
      table_is l j v js t h =
          ap (λ (r : Result Value Fault). follow counts nodes_then i (and_then r (λ v. Ok (run.to (chosen_node v.n js j)))) units t) h

      -- the JU of a number, which is the second step
      second : (m : ℕ) → m ≡ n → (is : List Instr) (j v : ℕ) → HasFrom u.block.body (a.at + 1) is → x.past ≡ a.at + 1 + length is
          → Listed u.blocks is v j → v < length is → (after : Now) (t : State) → Related (running_on p stack (record a { at = a.at + 1 + v })) after t
          → after.brackets ≡ [] → length (own_of t.activations) ≡ u.total
          → Sees side (ran m (running p after)) (through (counted_if (counts i j) (nodes_then j) units t) k)
      second zero e is j v has past listed less after t alike none total =
          let fits : length u.block.body ≤ size = u.fits in
          none_forth side _
          (no_step side size units most (a.at + 1 + v) debt (omega arith)
          (far_step side size 0 units most (a.at + 1) (a.at + 1 + v) debt (omega arith)
          (subst (λ (m : ℕ). Within side size m units most (a.at + 1) debt) (sym e) within)))
      second (suc m) e is j v has past listed less after t alike none total =
          let fits : length u.block.body ≤ size = u.fits in
          let there : Activation = record a { at = a.at + 1 + v } in
          let fewer_below : Both p g counts side size m = below m (omega arith) in
          let far : Within side size (suc m) units most (a.at + 1 + v) debt =
          far_step side size (suc m) units most (a.at + 1) (a.at + 1 + v) debt (omega arith)
          (subst (λ (m : ℕ). Within side size m units most (a.at + 1) debt) (sym e) within) in
          arrives p g counts side size (suc m) there stack u after t alike listed.instr (has v listed.instr listed.there)
          (λ stand. Sees side (ran m stand) (through (counted_if (counts i j) (nodes_then j) units t) k))
          (subst (λ (o : Op). Sees side (ran m (after_effect p after (effect_of o after))) (through (counted_if (counts i j) (nodes_then j) units t) k))
          (sym listed.is_jump)
          (to_node p g counts side size m fewer_below.0 a stack u i deep most debt k
          (fewer p g counts side size m n a stack k debt (omega arith) follows) j listed.to (a.at + 1 + v + 1) listed.begins
          (λ unpaid. let far_on : x.past ≤ listed.to = forward j listed.to listed.begins unpaid in omega arith) (omega arith)
          (record after { activations = going_on_at listed.to after.activations }) t
          (keep_position_at listed.to (running_on p stack there) after t alike) none total units
          (next_step side size m units most (a.at + 1 + v) debt far)))

      pub selects : (is : List Instr) (count label v : ℕ) → Selects u.blocks i count label is x.exit → HasFrom u.block.body (a.at + 1) is
          → x.past ≡ a.at + 1 + length is → (t : State) → Related frames now t → length (own_of t.activations) ≡ u.total
          → (ways : Selects u.blocks i count label is x.exit) → (o : Option ℕ) → slice_get ways.nodes v ≡ o
          → Sees side (ran n (after_effect p now (go (if nat_lt v count then position_of now.activations + 1 + v else label) now)))
          (through (counted_if (counts i (entry_or o ways.node)) (nodes_then (entry_or o ways.node)) units t) k)
      selects is count label v h has past t alike total ways None e =
          let many : length is ≡ length ways.nodes = as_many_listed u.blocks is ways.nodes ways.listed in
          let short : length ways.nodes ≤ v = not_listed ways.nodes v e in
          let past_list : nat_lt v count ≡ false = grind (arith, nat_tests, ways.count) in
          subst
          (λ (b : Bool). Sees side (ran n (after_effect p now (go (if b then position_of now.activations + 1 + v else label) now)))
          (through (counted_if (counts i ways.node) (nodes_then ways.node) units t) k)) (sym past_list)
          (goes_to label now t ways.node ways.there alike none_open_now total)
      selects is count label v h has past t alike total ways (Some j) e =
          let many : length is ≡ length ways.nodes = as_many_listed u.blocks is ways.nodes ways.listed in
          let less : v < length ways.nodes = slice_get_within ways.nodes v j e in
          let in_list : nat_lt v count ≡ true = grind (arith, nat_tests, ways.count) in
          let at : position_of now.activations ≡ a.at = ap position_of alike.blocks in
          subst
          (λ (b : Bool). Sees side (ran n (after_effect p now (go (if b then position_of now.activations + 1 + v else label) now)))
          (through (counted_if (counts i j) (nodes_then j) units t) k)) (sym in_list)
          (subst
          (λ (m : ℕ). Sees side (ran n (after_effect p now (go (m + 1 + v) now))) (through (counted_if (counts i j) (nodes_then j) units t) k)) (sym at)
          (second n refl is j v has past (listed_at u.blocks is ways.nodes v j ways.listed e) (omega arith)
          (record now { activations = going_on_at (a.at + 1 + v) now.activations }) t
          (keep_position_at (a.at + 1 + v) frames now t alike) none_open_now total))

-- A program and its graph program mean the same.
use Rattle.std.proofs.Common.{◌≡◌, ℕ, zero, suc, ◌*◌, ◌<◌, ◌≤◌, Bool, true, false, not, List, [], ◌∷◌, map, length, Option, Some, None, refl, sym, ap, ◌∙◌, subst, arith}
use Rattle.std.specs.Prelude.{All, find, nat_lt, slice_get}
use Rattle.std.proofs.lemmas.Bool.{ltb-true}
use Rattle.std.proofs.lemmas.List.{length-map}
use Rattle.instruction_lowering.proofs.AcceptedCalls.{callable}
use Rattle.instruction_lowering.proofs.Bounds.{Begun, Side, back, begun_back, begun_forth, forth}
use Rattle.instruction_lowering.proofs.CallFacts.{same_block}
use Rattle.instruction_lowering.proofs.DistinctBlocks.{all_in_order}
use Rattle.instruction_lowering.proofs.Ends.{Sees, both_end, through}
use Rattle.instruction_lowering.proofs.Names.{IsNumbered, found_numbered}
use Rattle.instruction_lowering.proofs.Nodes.{has_nodes}
use Rattle.instruction_lowering.proofs.PlainProgram.{differ, unit_of_block}
use Rattle.instruction_lowering.proofs.RunsAlike.{Follows, Stack, ran, running_on}
use Rattle.instruction_lowering.proofs.Simulation.{at_node}
use Rattle.instruction_lowering.proofs.Spots.{HasBlock, widths_in}
use Rattle.instruction_lowering.proofs.Starts.{IsCalled, called_of, fits_graph, fits_program, start_alike, start_formals, start_range, unit_found}
use Rattle.instruction_lowering.proofs.TemporaryNames.{so_many}
use Rattle.instruction_lowering.proofs.UnitOrder.{ascends, unit_stands}
use Rattle.instruction_lowering.proofs.UnitShapes.{units_are}
use Rattle.instruction_lowering.specs.Lowered.{Lowered, SameGraphRuns}
use Rattle.instruction_lowering.specs.UnitNames.{in_order, unit_formals, unit_position}
use Rattle.instruction_lowering.specs.inner.Lowering.{AreMadeOf, graph_program_with, head_for, nodes_of}
use Rattle.instruction_lowering.specs.inner.Temporaries.{types_in}
use Rattle.memory_areas.proofs.SameFaults.{blocks_at_start}
use Rattle.memory_areas.specs.Areas.{Areas, IsMemoryOf, with_areas}
use Rattle.memory_areas.specs.End.{Ended, Going}
use Rattle.memory_areas.specs.declared.call.BlockName.{BlockName}
use Rattle.memory_areas.specs.declared.call.Call.{Call}
use Rattle.memory_areas.specs.declared.sizes.TheConstants.{ACTIVATIONS}
use Rattle.s7_base.specs.Numbers.{greatest}
use Rattle.s7_base.specs.declared.outcome.Fault.{Fault}
use Rattle.s7_base.specs.declared.word.Width.{Width}
use Rattle.st_tree.proofs.FittingCalls.{at_position}
use Rattle.st_tree.proofs.FittingStart.{memory_holds}
use Rattle.st_tree.specs.Calls.{activation_of, zero_of}
use Rattle.st_tree.specs.GraphRun.{Counting, counted_run, each_node, each_pass, graph_run, longest, most_nodes, nodes_do, pass_run, run_of_graph}
use Rattle.st_tree.specs.Meaning.{Continues, Exits, Faults, NoUnits, Normal, Out, Returns}
use Rattle.st_tree.specs.StRun.{end_seen, formals_given, is_meant, state_at_start}
use Rattle.st_tree.specs.State.{State, own_of}
use Rattle.st_tree.specs.WellTyped.{keys_of}
use Rattle.st_tree.specs.declared.graph.GraphPou.{GraphPou}
use Rattle.st_tree.specs.declared.graph.GraphProgram.{GraphProgram}
use Rattle.st_tree.specs.declared.program.Local.{Local}
use Rattle.st_tree.specs.declared.program.Pou.{Pou}
use Rattle.stl_tree.proofs.Runs.{over_stays}
use Rattle.stl_tree.specs.Accepted.{BlockCallsRight, IsAccepted, IsAcceptedBlock, Widths, widths_named}
use Rattle.stl_tree.specs.Now.{Activation, Now}
use Rattle.stl_tree.specs.Registers.{start}
use Rattle.stl_tree.specs.StlRun.{HasNoInstance, end_of, first_activation, instance_called, places_given, running, size_of, steps_on, stl_run}
use Rattle.stl_tree.specs.declared.program.Block.{Block}
use Rattle.stl_tree.specs.declared.program.Program.{Program}
use Rattle.template_parts.proofs.Alike.{same_areas}
use Rattle.template_parts.specs.Related.{AreFormals, Related, formals_of_block}

-- the first unit's end is what is seen
seen_through : (o : Out) → end_seen o ≡ through o (λ units s. Ended s.memory.areas None)
seen_through (Normal units s) = refl
seen_through (Exits units s) = refl
seen_through (Continues units s) = refl
seen_through (Returns units s) = refl
seen_through (Faults f s) = refl
seen_through (NoUnits s) = refl

-- a block is not longer than the largest
size_within : (blocks : List Block) (n : ℕ) (b : Block) → slice_get blocks n ≡ Some b → length b.body ≤ greatest (map (λ (y : Block). length y.body) blocks)
size_within [] n b e = cc
size_within (x ∷ rest) zero b e =
    let same : x ≡ b = cc in let long : length x.body ≡ length b.body = ap (λ (y : Block). length y.body) same in omega arith
size_within (x ∷ rest) (suc n) b e =
    let within : length b.body ≤ greatest (map (λ (y : Block). length y.body) rest) = size_within rest n b e in omega arith

module _ (program : Program) (accepted : IsAccepted program) (units : List GraphPou) (made : AreMadeOf program.blocks (in_order program.blocks) units) where
  abbrev graph : GraphProgram
  graph = graph_program_with program units

  formed : All IsAcceptedBlock (in_order program.blocks)
  formed = all_in_order IsAcceptedBlock program.blocks accepted.blocks

  -- each block and its nodes
  blocks_there : (n : ℕ) (b : Block) → slice_get program.blocks n ≡ Some b → HasBlock program graph (size_of program) n
  blocks_there n b there =
      let at = unit_of_block program accepted units made n b there in
      let own : IsAcceptedBlock b = at_position IsAcceptedBlock program.blocks n b accepted.blocks there in
      let right : BlockCallsRight program b = at_position (BlockCallsRight program) program.blocks n b accepted.calls there in
      record {
        block = b;
        there = there;
        fits = size_within program.blocks n b there;
        blocks = at.made.graph.nodes;
        nodes = nodes_of program.blocks b.body at.made.graph.nodes;
        total = length (types_in program.blocks b.body);
        unit = has_nodes program (widths_named b.name b.formals) b.body at.made.graph own.jumps at.made.is_graph own.operands own.brackets own.ends right;
        pou = at.unit;
        stands = at.stands;
        graph = ap (λ (u : GraphPou). u.graph.nodes) at.made.unit;
        many = ap (λ (u : GraphPou). length u.head.locals) at.made.unit
            ∙ so_many (keys_of (unit_formals b.name b.formals)) 0 (types_in program.blocks b.body);
      }

  -- its unit has the formals of the block
  formals_there : (n : ℕ) (b : Block) (there : slice_get program.blocks n ≡ Some b)
      → (blocks_there n b there).pou.head.formals
      ≡ unit_formals (blocks_there n b there).block.name (blocks_there n b there).block.formals
  unfolding blocks_there
  formals_there n b there = ap (λ (u : GraphPou). u.head.formals) (unit_of_block program accepted units made n b there).made.unit

  -- Runs

  module _ (call : Call) (called : IsCalled program call) (v : HasBlock program graph (size_of program) called.i)
      (formals : v.pou.head.formals ≡ unit_formals v.block.name v.block.formals) where
    same : v.block ≡ called.block
    same = same_block v.block called.block (sym v.there ∙ called.there)

    name : v.block.name ≡ call.block
    name = ap (λ (b : Block). b.name) same ∙ called.name

    numbered : IsNumbered call.block
    numbered = found_numbered call.block program.blocks called.block called.found accepted.blocks

    -- the call finds the unit of the block
    unit_there : find (λ (u : GraphPou). is_meant call.block u.head) units ≡ Some v.pou
    unit_there =
        unit_found program.blocks call.block numbered (in_order program.blocks) units made formed (ascends program.blocks (differ program accepted units made))
        (unit_position program.blocks v.block.name) v.block
        (unit_stands program.blocks called.i v.block (differ program accepted units made) v.there) name
        ∙ v.stands

    abbrev first : Activation
    first =
        record {
          block = called.i;
          at = 0;
          instance = instance_called call.block call.instance;
          db = 0;
          di = 0;
          formals = places_given call.block call.actuals;
        }

    abbrev now : Areas → Now
    now memory =
        record {
          registers = record start { di = instance_called call.block call.instance };
          brackets = [];
          memory = with_areas memory;
          activations = first ∷ [];
        }

    abbrev state : Areas → State
    state memory = state_at_start v.pou.head call memory

    -- no unit waits for the first one
    abbrev alone : Stack
    alone = record { callers = []; units = [] }

    given : AreFormals [] program.dbs (widths_in (slice_get program.blocks called.i)) (formals_of_block (first ∷ []))
        (formals_given call.block v.pou.head.formals call.actuals)
    given =
        subst (λ (ws : Widths). AreFormals [] program.dbs ws (formals_of_block (first ∷ [])) (formals_given call.block v.pou.head.formals call.actuals))
        (sym (ap widths_in v.there))
        (subst (λ (fs : List Local). AreFormals [] program.dbs (widths_named v.block.name v.block.formals) (formals_of_block (first ∷ []))
        (formals_given call.block fs call.actuals)) (sym formals)
        (subst (λ (b : Block). AreFormals [] program.dbs (widths_named b.name b.formals) (formals_of_block (first ∷ []))
        (formals_given call.block (unit_formals b.name b.formals) call.actuals)) (sym same)
        (start_formals program called.block call.block call.instance call.actuals called.i called.name called.fits)))

    start_related : (memory : Areas) → IsMemoryOf program.dbs memory → Related (running_on program alone first) (now memory) (state memory)
    start_related memory valid =
        record {
          registers = start_alike call.block call.instance;
          range = start_range program accepted called.block call.block call.instance call.actuals called.fits;
          memory = refl;
          bytes = memory_holds program.dbs memory valid;
          sizes = (refl, refl);
          faults = blocks_at_start program.dbs memory valid;
          blocks = refl;
          depth = refl;
          units = [];
          wait = tt;
          running = activation_of v.pou.head (formals_given call.block v.pou.head.formals call.actuals);
          activations = refl;
          formals = given;
        }

    start_long : (memory : Areas) → length (own_of (state memory).activations) ≡ v.total
    start_long memory = length-map v.pou.head.locals zero_of ∙ v.many

    -- behind the first block nothing follows
    nothing_follows : (counts : Counting) (free : (i j : ℕ) → counts i j ≡ false → i < j) (side : Side) (n : ℕ)
        → Follows program graph counts side (size_of program) n first alone
        (λ units s. Ended s.memory.areas None) 0
    nothing_follows counts free side n j small units within to after s related none =
        both_end side _ _
        (ap end_of (over_stays j after.memory None)
        ∙ sym (ap (λ (m : Areas). Ended m None) (same_areas (running_on program alone (record first { at = to })) after s related)))

    abbrev graph_from : Counting → Areas → ℕ → ℕ → Out
    graph_from counts memory most units = nodes_do counts graph most v.nodes 0 units (state memory)

    stl_is : (memory : Areas) (n : ℕ) → stl_run program call memory n ≡ ran n (running program (now memory))
    stl_is memory n =
        ap
        (λ o. end_of (steps_on n (running program (record {
          registers = record start { di = instance_called call.block call.instance };
          brackets = [];
          memory = with_areas memory;
          activations = first_activation o call;
        })))) called.named

    graph_is : (counts : Counting) (memory : Areas) (units : ℕ)
        → counted_run counts graph call memory (suc units)
        ≡ through (graph_from counts memory (most_nodes graph (suc units)) units) (λ units s. Ended s.memory.areas None)
    graph_is counts memory units =
        ap (λ o. run_of_graph counts graph o call memory (suc units)) unit_there
        ∙ ap (λ nodes. end_seen (nodes_do counts graph (most_nodes graph (suc units)) nodes 0 units (state memory))) v.graph
        ∙ seen_through (graph_from counts memory (most_nodes graph (suc units)) units)

    simulated : (counts : Counting) (free : (i j : ℕ) → counts i j ≡ false → i < j) (side : Side) (memory : Areas) → IsMemoryOf program.dbs memory
        → (n units most : ℕ) → Begun side (size_of program) n units most 0 0
        → Sees side (ran n (running program (now memory))) (through (graph_from counts memory most units) (λ units s. Ended s.memory.areas None))
    simulated counts free side memory valid n units most begun =
        at_node program graph counts free side (size_of program) blocks_there (callable program accepted) n first alone v 0 v.unit.begins
        (now memory) (state memory) (start_related memory valid) refl (start_long memory) (ACTIVATIONS, refl, accepted.chains called.i)
        units most 0 begun (λ units s. Ended s.memory.areas None) (nothing_follows counts free side n)

    -- each node is counted, and each way that does not lead forward
    free_node : (i j : ℕ) → each_node i j ≡ false → i < j
    free_node i j e = cc

    free_pass : (i j : ℕ) → each_pass i j ≡ false → i < j
    free_pass i j e = by (nat_lt i j) refl e
      where
        by : (b : Bool) → nat_lt i j ≡ b → not b ≡ false → i < j
        by true less e = ltb-true i j less
        by false less e = cc

    nodes_end : (memory : Areas) → IsMemoryOf program.dbs memory → (n : ℕ) (after : Areas) (fault : Option Fault)
        → stl_run program call memory n ≡ Ended after fault → graph_run graph call memory n ≡ Ended after fault
    nodes_end memory valid zero after fault ended = absurd (going (sym (stl_is memory 0) ∙ ended))
      where
        going : Going ≡ Ended after fault → ⊥
        going e = cc
    nodes_end memory valid (suc n) after fault ended =
        graph_is each_node memory n
        ∙ simulated each_node free_node forth memory valid (suc n) n (most_nodes graph (suc n))
        (begun_forth (size_of program) n (longest graph)) after fault (sym (stl_is memory (suc n)) ∙ ended)

    passes_end : (memory : Areas) → IsMemoryOf program.dbs memory → (n : ℕ) (after : Areas) (fault : Option Fault)
        → pass_run graph call memory n ≡ Ended after fault → stl_run program call memory (n * size_of program) ≡ Ended after fault
    passes_end memory valid zero after fault ended = absurd (going (sym (ap (λ o. run_of_graph each_pass graph o call memory 0) unit_there) ∙ ended))
      where
        going : Going ≡ Ended after fault → ⊥
        going e = cc
    passes_end memory valid (suc n) after fault ended =
        stl_is memory (suc n * size_of program)
        ∙ simulated each_pass free_pass back memory valid (suc n * size_of program) n (most_nodes graph (suc n))
        (begun_back (size_of program) n (most_nodes graph (suc n))) after fault (sym (graph_is each_pass memory n) ∙ ended)

    same_runs : SameGraphRuns program.dbs (stl_run program call) (graph_run graph call) (pass_run graph call) (size_of program)
    same_runs =
        record {
          forth = λ memory valid n after fault ended. nodes_end memory valid n after fault ended;
          back = λ memory valid n after fault ended. passes_end memory valid n after fault ended;
        }

  -- an accepted program means what its graph program means
  pub lowered_same : Lowered program graph
  lowered_same =
      record {
        blocks = refl;
        globals = refl;
        units = units_are program accepted units made (in_order program.blocks) units formed
            (all_in_order (BlockCallsRight program) program.blocks accepted.calls) made;
        fits = λ call fits. fits_graph program accepted units made call formed (called_of program call fits);
        fits_back = λ call small fits. fits_program program accepted units made call formed small fits;
        runs = λ call fits.
            let called = called_of program call fits in
            same_runs call called (blocks_there called.i called.block called.there) (formals_there called.i called.block called.there);
      }

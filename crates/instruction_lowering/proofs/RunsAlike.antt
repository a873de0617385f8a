-- What waits while a block runs, and what is claimed of a run from a node, and from an instruction inside it.
use Rattle.std.proofs.Common.{◌≡◌, ℕ, zero, suc, ◌+◌, ◌≤◌, Bool, true, false, List, [], ◌∷◌, ◌++◌, length, Option, Some, refl, sym, ap, ◌∙◌, subst, arith}
use Rattle.std.specs.Prelude.{option_and_then, slice_get}
use Rattle.flow_graph.specs.Graphs.{BeginsAt}
use Rattle.flow_graph.specs.declared.graph.Exit.{Exit}
use Rattle.flow_graph.specs.declared.graph.Node.{Node}
use Rattle.memory_areas.specs.End.{End, Going}
use Rattle.stl_tree.specs.Accepted.{EndsWithin, widths_named}
use Rattle.stl_tree.specs.Instructions.{effect_of}
use Rattle.stl_tree.specs.Now.{Activation, Now}
use Rattle.stl_tree.specs.StlRun.{Standing, after_effect, end_of, instruction, after_return, running, step_by, steps_on}
use Rattle.stl_tree.specs.declared.program.Block.{Block}
use Rattle.stl_tree.specs.declared.program.Instr.{Instr}
use Rattle.stl_tree.specs.declared.program.Op.{Op}
use Rattle.stl_tree.specs.declared.program.Program.{Program}
use Rattle.st_tree.specs.GraphRun.{Counting, counted_if, exit_meaning, graph_calls, nodes_do, unit_begun}
use Rattle.st_tree.specs.Meaning.{Calls, Out, Sem, body_meaning, then_do}
use Rattle.st_tree.specs.State.{State, own_of}
use Rattle.st_tree.specs.declared.graph.GraphProgram.{GraphProgram}
use Rattle.st_tree.specs.declared.graph.StNode.{StNode}
use Rattle.memory_areas.specs.declared.sizes.TheConstants.{ACTIVATIONS}
use Rattle.call_templates.specs.CallLaw.{Entering}
use Rattle.instruction_lowering.proofs.Ends.{Sees, both_end, through}
use Rattle.instruction_lowering.specs.inner.Lowering.{exit_behind, steps_of, used_behind}
use Rattle.instruction_lowering.specs.inner.Templates.{context_after, statements_of}
use Rattle.st_tree.proofs.TwoParts.{in_parts, then_in_parts}
use Rattle.template_parts.specs.Related.{Frames, Related, Waiting}
use Rattle.instruction_lowering.proofs.Bounds.{Begun, Behind, HasNoStep, Side, Within, back, counted_way, forth, free_way, no_unit}
use Rattle.instruction_lowering.specs.declared.statements.LoweringContext.{LoweringContext}
use Rattle.instruction_lowering.proofs.Temporaries.{Keeps}
use Rattle.instruction_lowering.proofs.Spots.{HasBlock, IsLeft, widths_in}

-- what waits for the running block: the blocks that called it, the last one first, and their units, the first one first
pub record Stack : Type 0 where
  pub callers : List Activation
  pub units : List Waiting

-- the frames of a block that runs on a stack
abbrev pub running_on : Program → Stack → Activation → Frames
running_on p stack a =
    record { blocks = a ∷ stack.callers; waiting = stack.units; formals = widths_in (slice_get p.blocks a.block); dbs = p.dbs }

-- no more blocks may be called one after another than may run
abbrev pub IsDeep : Program → Activation → Stack → Type 0
IsDeep p a stack = (most : ℕ) × (length stack.callers + most ≡ ACTIVATIONS) × EndsWithin most p.blocks a.block

-- what can be seen n steps on
abbrev pub ran : ℕ → Standing → End
ran n here = end_of (steps_on n here)

module _ (p : Program) (g : GraphProgram) (counts : Counting) where
  -- what the calls of a node do, where so many nodes follow one another
  abbrev pub calls_within : ℕ → Calls
  calls_within most = graph_calls (λ begun. nodes_do counts g most begun 0) g

  -- the exit of the node of a number, behind which there are so many locals
  abbrev pub leaves : ℕ → List StNode → ℕ → ℕ → Exit → Sem
  leaves most nodes i used exit = exit_meaning g.globals counts (nodes_do counts g most nodes) i (exit_behind used exit)

  -- what is left of a node, and then its exit
  abbrev pub rest_of : ℕ → List StNode → ℕ → Exit → LoweringContext → List Instr → Sem
  rest_of most nodes i exit q is units s =
      then_do (body_meaning g.globals (calls_within most) (steps_of p.blocks q is) units s) (leaves most nodes i (used_behind p.blocks q is) exit)

  -- the statements of an instruction
  abbrev pub here : ℕ → LoweringContext → Op → Sem
  here most q o = body_meaning g.globals (calls_within most) (statements_of p.blocks q o)

  -- an instruction and those behind it, and then the exit
  abbrev pub rest_by : ℕ → List StNode → ℕ → LoweringContext → Op → List Instr → Exit → Sem
  rest_by most nodes i q o is exit units s =
      then_do (body_meaning g.globals (calls_within most) (statements_of p.blocks q o ++ steps_of p.blocks (context_after p.blocks o q) is) units s)
      (leaves most nodes i (used_behind p.blocks (context_after p.blocks o q) is) exit)

  -- its statements are the first
  pub splits : (most : ℕ) (nodes : List StNode) (i : ℕ) (q : LoweringContext) (o : Op) (is : List Instr) (exit : Exit) (units : ℕ) (s : State)
      → rest_by most nodes i q o is exit units s ≡ then_do (here most q o units s) (rest_of most nodes i exit (context_after p.blocks o q) is)
  splits most nodes i q o is exit units s =
      ap (λ (out : Out). then_do out (leaves most nodes i (used_behind p.blocks (context_after p.blocks o q) is) exit))
      (in_parts g.globals (calls_within most) (statements_of p.blocks q o) (steps_of p.blocks (context_after p.blocks o q) is) units s)
      ∙ then_in_parts (here most q o units s) (body_meaning g.globals (calls_within most) (steps_of p.blocks (context_after p.blocks o q) is))
      (leaves most nodes i (used_behind p.blocks (context_after p.blocks o q) is) exit)

  -- what a unit does that a call enters, whose nodes follow one another within so many
  abbrev pub begin_unit : ℕ → Entering
  begin_unit most n = unit_begun (λ begun. nodes_do counts g most begun 0) (slice_get g.pous n)

  module _ (side : Side) (size : ℕ) where
    -- what follows the unit of a running block, k, is what follows the block, for all numbers of steps up to n; what waits
    -- is as it was when the block was called
    abbrev pub Follows : ℕ → Activation → Stack → (ℕ → State → End) → ℕ → Type 0
    Follows n a stack k debt =
        (j : ℕ) → j ≤ n → (units : ℕ) → Behind side size j units debt
        → (at : ℕ) (now : Now) (s : State) → Related (running_on p stack (record a { at = at })) now s
        → now.brackets ≡ [] → Sees side (ran j (after_return p (record a { at = at } ∷ stack.callers) now)) (k units s)

    -- a node begins where its block does
    abbrev pub AtNode : ℕ → Type 0
    AtNode n =
        (a : Activation) (stack : Stack) (u : HasBlock p g size a.block) (i : ℕ) → BeginsAt u.blocks i a.at
        → (now : Now) (s : State) → Related (running_on p stack a) now s → now.brackets ≡ [] → length (own_of s.activations) ≡ u.total
        → IsDeep p a stack
        → (units most debt : ℕ) → Begun side size n units most a.at debt
        → (k : ℕ → State → End) → Follows n a stack k debt
        → Sees side (ran n (running p now)) (through (nodes_do counts g most u.nodes i units s) k)

    -- it goes on at an instruction, or with its exit
    abbrev pub Inside : ℕ → Type 0
    Inside n =
        (a : Activation) (stack : Stack) (u : HasBlock p g size a.block) (i : ℕ) (x : Node) → slice_get u.blocks i ≡ Some x
        → (q : LoweringContext) (is : List Instr) → IsLeft p (widths_named u.block.name u.block.formals) u.block.body u.blocks u.total i x a.at q is
        → (now : Now) (s : State) → Related (running_on p stack a) now s → Keeps u.total q now.brackets s.activations
        → IsDeep p a stack
        → (units most debt : ℕ) → Within side size n units most a.at debt
        → (k : ℕ → State → End) → Follows n a stack k debt
        → Sees side (ran n (running p now)) (through (rest_of most u.nodes i x.exit q is units s) k)

    abbrev pub Both : ℕ → Type 0
    Both n = AtNode n × Inside n

    -- what follows does so for fewer steps
    pub fewer : (n m : ℕ) (a : Activation) (stack : Stack) (k : ℕ → State → End) (debt : ℕ) → n ≤ m → Follows m a stack k debt → Follows n a stack k debt
    fewer n m a stack k debt h follows j small = follows j (omega arith)

    -- where no step is left for a way that is counted
    pub no_more : (n : ℕ) (here : Standing) → ran 0 here ≡ Going → HasNoStep side n → Sees side (ran n here) Going
    no_more n here e h = by side n h
      where
        by : (side : Side) (n : ℕ) → HasNoStep side n → Sees side (ran n here) Going
        by forth zero h = both_end forth _ _ e
        by forth (suc n) h = absurd (omega arith)
        by back n h = λ after f ended. cc

    -- the instruction to come is the one that is here
    module _ (n : ℕ) (a : Activation) (stack : Stack) (u : HasBlock p g size a.block) (now : Now) (s : State)
        (related : Related (running_on p stack a) now s) where
      pub arrives : (i : Instr) → slice_get u.block.body a.at ≡ Some i → (goal : Standing → Type 0)
          → goal (after_effect p now (effect_of i.op now)) → goal (step_by (instruction p now.activations) p now)
      arrives i here goal h =
          subst (λ (o : Option Instr). goal (step_by o p now))
          (sym (ap (instruction p) related.blocks ∙ ap (option_and_then (λ (b : Block). slice_get b.body a.at)) u.there ∙ here)) h

    -- Ways to nodes

    module _ (n : ℕ) (node : AtNode n) (a : Activation) (stack : Stack) (u : HasBlock p g size a.block) (i : ℕ) (deep : IsDeep p a stack) (most debt : ℕ)
        (k : ℕ → State → End) (follows : Follows n a stack k debt) where
      abbrev nodes : ℕ → Sem
      nodes = nodes_do counts g most u.nodes

      -- to the node that begins at a position, where the block is so far on
      pub to_node : (j to at : ℕ) → BeginsAt u.blocks j to → (counts i j ≡ false → at ≤ to) → at ≤ size
          → (now : Now) (s : State) → Related (running_on p stack (record a { at = to })) now s → now.brackets ≡ [] → length (own_of s.activations) ≡ u.total
          → (units : ℕ) → Within side size n units most at debt
          → Sees side (ran n (running p now)) (through (counted_if (counts i j) (nodes j) units s) k)
      to_node j to at begins further small now s related closed total units within = by (counts i j) units further within
        where
          by : (counted : Bool) (units : ℕ) → (counted ≡ false → at ≤ to) → Within side size n units most at debt
              → Sees side (ran n (running p now)) (through (counted_if counted (nodes j) units s) k)
          by true zero further within = no_more n (running p now) refl (no_unit side size n most at debt within)
          by true (suc units) further within =
              node (record a { at = to }) stack u j begins now s related closed total deep units most debt
              (counted_way side size n units most at to debt small within) k follows
          by false units further within =
              node (record a { at = to }) stack u j begins now s related closed total deep units most debt
              (free_way side size n units most at to debt (further refl) within) k follows

-- The graph program of an accepted program is plain.
use Rattle.std.proofs.Common.{◌≡◌, ◌≢◌, ℕ, zero, suc, ◌+◌, ◌-◌, ◌*◌, ◌^◌, ◌<◌, ◌≤◌, ◌==◌, true, false, List, [], ◌∷◌, ◌++◌, length, map, drop, Option, Some, None, refl, sym, ap, subst, ◌∙◌, arith}
use Rattle.std.specs.Prelude.{All, slice_get}
use Rattle.std.proofs.lemmas.Bool.{eqb-true}
use Rattle.std.proofs.lemmas.List.{length-map}
use Rattle.std.proofs.lemmas.List.Elements.{All-cons, All-head, All-nil, All-tail}
use Rattle.std.proofs.lemmas.Option.{slice_get_within}
use Rattle.flow_graph.specs.Graphs.{BeginsAt, IsGraphOf, extent_of}
use Rattle.flow_graph.specs.declared.graph.Exit.{Exit}
use Rattle.flow_graph.specs.declared.graph.Graph.{Graph}
use Rattle.flow_graph.specs.declared.graph.Node.{Node}
use Rattle.flow_laws.specs.Ways.{Goes, GoesBy, HasFrom}
use Rattle.memory_areas.specs.Areas.{AreBlocks}
use Rattle.call_templates.specs.Calls.{end_word_of}
use Rattle.st_tree.specs.BodyParts.{calls_in}
use Rattle.graph_rules.specs.Plain.{AreSteps, IsGivenOn, IsOnlyEnd, IsPlainNode, IsPlainUnit, node_statements, test_of}
use Rattle.graph_rules.specs.Runs.{AreOfRun, IsWritten, bodies_in, written_by}
use Rattle.st_tree.specs.Proper.{IsProperUnit}
use Rattle.st_tree.specs.WellTyped.{Head, UnitScope, keys_of, type_inside, unit_scope_of}
use Rattle.st_tree.specs.declared.expr.StType.{StType}
use Rattle.st_tree.specs.declared.expr.Var.{Var}
use Rattle.st_tree.specs.declared.graph.GraphPou.{GraphPou}
use Rattle.st_tree.specs.declared.graph.StNode.{StNode}
use Rattle.st_tree.specs.declared.program.Local.{Local}
use Rattle.st_tree.specs.declared.program.Pou.{Pou}
use Rattle.instruction_lowering.proofs.Bodies.{CallsSeen, HasBounds, body_bounds, actuals_in, guards_in, low_behind, tests_in}
use Rattle.instruction_lowering.proofs.FormalNames.{no_program_formals, unit_formal_typed, unit_formals_apart, unit_formals_few, unit_formals_good}
use Rattle.instruction_lowering.proofs.Names.{numbered}
use Rattle.instruction_lowering.proofs.NodeBounds.{IsTyped, few_tests, leads_inside, many, sure_test, test_late, test_plain, test_typed, test_written, tests_locals}
use Rattle.instruction_lowering.proofs.Nodes.{IsMade, IsShaped, as_many_nodes, each_of_part, has_nodes, last_block, made_of, own_types, past_all, shape_of}
use Rattle.instruction_lowering.proofs.PlainSteps.{ArePlainSteps, IsUnitOf, steps_in_parts, without_calls}
use Rattle.instruction_lowering.proofs.ProperNames.{has_name, names_unit}
use Rattle.instruction_lowering.proofs.SpotLaws.{used_behind_all}
use Rattle.instruction_lowering.proofs.TemporaryNames.{are_named, locals_apart, proper_locals, so_many, typed_local}
use Rattle.instruction_lowering.specs.Lowered.{IsRead}
use Rattle.instruction_lowering.specs.UnitNames.{unit_formals}
use Rattle.instruction_lowering.specs.inner.Temporaries.{temporaries, types_in}
use Rattle.instruction_lowering.specs.inner.Lowering.{IsFew, exit_behind, node_of, nodes_of, steps_of, unit_of, used_behind}
use Rattle.instruction_lowering.specs.inner.Templates.{context_after, context_from, statements_of}
use Rattle.stl_tree.specs.Accepted.{BlockCallsRight, CallsRight, IsAcceptedBlock, IsEnded, Widths, widths_named}
use Rattle.stl_tree.specs.Blocks.{AreBlocksFrom, instructions_of}
use Rattle.stl_tree.specs.declared.program.Block.{Block}
use Rattle.stl_tree.specs.declared.program.Instr.{Instr}
use Rattle.stl_tree.specs.declared.program.Op.{Op}
use Rattle.stl_tree.specs.declared.program.Op.TheVariants as op
use Rattle.stl_tree.specs.declared.program.Program.{Program}
use Rattle.template_parts.proofs.Typing.{left_typed, no_statement, right_typed}
use Rattle.template_parts.specs.Templates.{AreThere, AreTyped, HasFormals}

-- Units

abbrev pub text_of : GraphPou → Pou
text_of u = record u.head { body = node_statements u.graph.nodes }

-- the nodes, one after another, are plain where each is
plain_nodes : (Q : ℕ → Type 0) (sight : UnitScope) (nodes : List StNode)
    → ((i : ℕ) (node : StNode) → slice_get nodes i ≡ Some node → ArePlainSteps Q sight (node.steps ++ test_of node.exit))
    → ArePlainSteps Q sight (node_statements nodes)
plain_nodes Q sight [] each = without_calls Q sight [] (no_statement sight)
plain_nodes Q sight (node ∷ nodes) each =
    steps_in_parts Q sight (node.steps ++ test_of node.exit) (node_statements nodes) (each 0 node refl)
    (plain_nodes Q sight nodes (λ i x e. each (suc i) x e))

pub both_some : (m n : StNode) → Some m ≡ Some n → m ≡ n
both_some m n e = cc

is_end : (body : List Instr) (at : ℕ) (y : Instr) → IsEnded body → slice_get body at ≡ Some y → at + 1 ≡ length body → y.op ≡ op.BlockEnd
is_end [] at y ended there last = elim ended [ ]
is_end (x ∷ []) zero y ended there last = let same : x ≡ y = cc in ap (λ (i : Instr). i.op) (sym same) ∙ ended
is_end (x ∷ []) (suc at) y ended there last = cc
is_end (x ∷ z ∷ rest) zero y ended there last = absurd (omega arith)
is_end (x ∷ z ∷ rest) (suc at) y ended there last = is_end (z ∷ rest) at y ended there (omega arith)

none_there : (from : ℕ) → AreThere [] from from
none_there from i above below = absurd (omega (arith, above, below))

module _ (program : Program) (block : Block) (h : IsAcceptedBlock block) (right : BlockCallsRight program block)
    (graph : Graph) (is_graph : IsGraphOf block.body graph) where
  abbrev pub widths : Widths
  widths = widths_named block.name block.formals

  abbrev pub types : List StType
  types = types_in program.blocks block.body

  abbrev pub formals : List Local
  formals = unit_formals block.name block.formals

  abbrev pub nodes : List StNode
  nodes = nodes_of program.blocks block.body graph.nodes

  abbrev pub sight : List Head → UnitScope
  sight heads = unit_scope_of [] heads (text_of (unit_of program.blocks block graph))

  own_typed : (heads : List Head) → AreTyped (sight heads) 0 types
  own_typed heads k ty e =
      let at : 0 + k ≡ k = omega arith in
      ap (λ (i : ℕ). type_inside (slice_get (temporaries (keys_of formals) 0 types) i)) at ∙ typed_local (keys_of formals) 0 types k ty e

  formals_typed : (heads : List Head) → HasFormals (sight heads) widths
  formals_typed heads k w e = unit_formal_typed block.name block.formals k w e

  -- a block of the body, and its node
  module _ (i : ℕ) (x : Node) (there : slice_get graph.nodes i ≡ Some x) where
    abbrev pub is : List Instr
    is = instructions_of block.body (extent_of x)

    pub node_made : IsMade program widths block.body graph h.jumps is_graph graph.nodes (length block.body) 0 0 i x types
    node_made = made_of program widths block.body graph h.jumps is_graph h.operands h.brackets h.ends right i x there

    pub shape : IsShaped program widths block.body graph.nodes i x
    shape = shape_of program widths block.body graph h.jumps is_graph h.operands h.brackets h.ends right i x there

    abbrev pub from : ℕ
    from = node_made.from

    pub used : used_behind program.blocks (context_from from) is ≡ from + length (types_in program.blocks is)
    used = used_behind_all program.blocks is (context_from from)

    abbrev pub last : ℕ
    last = used_behind program.blocks (context_from from) is - 1

    abbrev pub node_here : StNode
    node_here = node_of program.blocks (context_from from) is x.exit (x.first + 1 == length block.body)

    only_end_here : (x.first + 1 == length block.body) ≡ true → IsOnlyEnd (length graph.nodes) i node_here
    only_end_here one =
        let end : x.first + 1 ≡ length block.body = eqb-true (x.first + 1) (length block.body) one in
        by is (omega (arith, shape.long, shape.some, shape.within)) shape.has shape.goes end
      where
        within : i < length graph.nodes
        within = slice_get_within graph.nodes i x there

        by : (is : List Instr) → length is ≡ 1 → HasFrom block.body x.first is → Goes graph.nodes i x.first is x.exit → x.first + 1 ≡ length block.body
            → IsOnlyEnd (length graph.nodes) i (node_of program.blocks (context_from from) is x.exit (x.first + 1 == length block.body))
        by [] long has goes end = cc
        by (y ∷ z ∷ rest) long has goes end = absurd (omega arith)
        by (y ∷ []) long has goes end =
            let same : x.first + 0 ≡ x.first = omega arith in
            let ends : y.op ≡ op.BlockEnd = is_end block.body x.first y h.ends (ap (slice_get block.body) (sym same) ∙ has 0 y refl) end in
            let way = subst (λ (o : Op). GoesBy graph.nodes i x.first o [] x.exit (Goes graph.nodes i (x.first + 1) [] x.exit)) ends goes in
            let below : i < length graph.nodes = within in
            let most : length graph.nodes ≤ suc i
            = last_block program widths block.body graph h.jumps is_graph h.operands h.brackets h.ends right i x there
            (omega (arith, shape.some, shape.within)) in
            subst
            (λ (o : Op). IsOnlyEnd (length graph.nodes) i
            (record {
              steps = statements_of program.blocks (context_from from) o ++ [];
              exit = exit_behind (context_after program.blocks o (context_from from)).used x.exit;
              only_end = x.first + 1 == length block.body;
            }))
            (sym ends)
            (subst
            (λ (e : Exit). IsOnlyEnd (length graph.nodes) i
            (record {
              steps = end_word_of ++ [];
              exit = exit_behind (context_after program.blocks op.BlockEnd (context_from from)).used e;
              only_end = x.first + 1 == length block.body;
            }))
            (sym way.exit)
            (record { last = omega arith; exit = refl; few = omega arith; settings = tt }))

  pub as_many : length nodes ≡ length graph.nodes
  as_many = as_many_nodes program widths block.body graph h.jumps is_graph graph.nodes (length block.body) 0 block.body

  -- what holds of the node of each block holds of each node
  by_block : (P : ℕ → StNode → Type 0) → ((i : ℕ) (x : Node) (there : slice_get graph.nodes i ≡ Some x) → P i (node_here i x there))
      → (i : ℕ) (node : StNode) → slice_get nodes i ≡ Some node → P i node
  by_block P each i node e = by (slice_get graph.nodes i) refl
    where
      by : (o : Option Node) → slice_get graph.nodes i ≡ o → P i node
      by None f =
          let past : length graph.nodes ≤ i = past_all graph.nodes i f in
          let within : i < length nodes = slice_get_within nodes i node e in
          absurd (omega (arith, as_many))
      by (Some x) f =
          let there : slice_get nodes i ≡ Some (node_here i x f) = (node_made i x f).node in
          let same : node_here i x f ≡ node = both_some (node_here i x f) node (sym there ∙ e) in
          subst (P i) same (each i x f)

  -- in a unit that sees these heads, with the calls of its block
  module _ (valid : AreBlocks program.dbs) (Q : ℕ → Type 0) (heads : List Head)
      (seen : All (λ (i : Instr). CallsSeen Q program.dbs program.blocks (sight heads) widths i.op) block.body) where
    module _ (i : ℕ) (x : Node) (there : slice_get graph.nodes i ≡ Some x) where
      node_typed : AreTyped (sight heads) (from i x there) (types_in program.blocks (is i x there))
      node_typed =
          left_typed (sight heads) (from i x there) (types_in program.blocks (is i x there))
          (types_in program.blocks (drop (x.past - x.first) (drop x.first block.body)))
          (subst (AreTyped (sight heads) (from i x there))
          (own_types program widths block.body graph h.jumps is_graph h.operands h.brackets h.ends right x)
          (right_typed (sight heads) 0 (from i x there) (node_made i x there).before (types_in program.blocks (drop x.first block.body))
          (omega (arith, (node_made i x there).counts))
          (subst (AreTyped (sight heads) 0) (node_made i x there).types (own_typed heads))))

      pub bounds : HasBounds (IsRead (is i x there)) Q (sight heads) (from i x there)
          (low_behind program.blocks (context_from (from i x there)) (is i x there) (from i x there)) (from i x there)
          (length (types_in program.blocks (is i x there))) (length (is i x there)) (tests_in (is i x there)) (actuals_in (is i x there))
          (guards_in (is i x there)) (steps_of program.blocks (context_from (from i x there)) (is i x there))
      bounds =
          body_bounds Q (sight heads) program.dbs valid program.blocks widths (formals_typed heads) (is i x there) (context_from (from i x there))
          (from i x there) (omega arith) (shape i x there).operands
          (each_of_part (λ (y : Instr). CallsSeen Q program.dbs program.blocks (sight heads) widths y.op) block.body x.first (x.past - x.first) seen)
          node_typed (shape i x there).closed tt

      plain_here : ArePlainSteps Q (sight heads) ((node_here i x there).steps ++ test_of (node_here i x there).exit)
      plain_here =
          steps_in_parts Q (sight heads) (node_here i x there).steps (test_of (node_here i x there).exit) bounds.plain
          (without_calls Q (sight heads) (test_of (node_here i x there).exit)
          (test_plain graph.nodes i widths program.blocks (sight heads) (last i x there) x.exit
          (subst (λ (n : ℕ). IsTyped graph.nodes i widths program.blocks (sight heads) (n - 1) x.exit) (sym (used i x there))
          (test_typed graph.nodes i widths program.blocks (sight heads) (is i x there) x.first (from i x there) x.exit node_typed (shape i x there).goes))))

      -- the local that is tested is written
      last_written : 1 ≤ many x.exit → IsWritten (written_by (node_here i x there).steps) (last i x there)
      last_written some =
          let late : low_behind program.blocks (context_from (from i x there)) (is i x there) (from i x there)
          < used_behind program.blocks (context_from (from i x there)) (is i x there)
          = test_late graph.nodes i widths program.blocks (is i x there) (context_from (from i x there)) (from i x there) x.first x.exit
          (omega arith) (shape i x there).goes some in
          bounds.more [] (none_there (from i x there)) (last i x there) (omega arith) (omega (arith, used i x there))

      pub plain_node : IsPlainNode (length graph.nodes) i (node_here i x there)
      plain_node =
          record {
            steps = bounds.steps;
            runs = record { own = bounds.run [] (none_there (from i x there)); inner = bounds.inner };
            ending = test_written (written_by (node_here i x there).steps) (last i x there) x.exit last_written;
            exit = leads_inside graph.nodes i widths (last i x there) (is i x there) x.first x.exit (shape i x there).operands (shape i x there).goes;
            test = sure_test (last i x there) x.exit;
            only_end = only_end_here i x there;
          }

    -- the text of the nodes
    pub plain_body : ArePlainSteps Q (sight heads) (node_statements nodes)
    unfolding node_made
    plain_body =
        plain_nodes Q (sight heads) nodes
        (by_block (λ i node. ArePlainSteps Q (sight heads) (node.steps ++ test_of node.exit)) (λ i x there. plain_here i x there))

    pub proper_unit : IsFew program.blocks block → IsProperUnit [] heads (text_of (unit_of program.blocks block graph))
    proper_unit few =
        let small : 0 + 65 * length types < 2 ^ 40 = omega (arith, few) in
        record {
          name = has_name block.name (numbered block.name h.number);
          free = names_unit block.name (numbered block.name h.number);
          program = no_program_formals block.name block.formals;
          formals = unit_formals_good block.formals h.few_formals block.name;
          locals = proper_locals (keys_of formals) 0 types (unit_formals_few block.formals h.few_formals block.name) small;
          apart = locals_apart (keys_of formals) (keys_of formals) 0 types (unit_formals_few block.formals h.few_formals block.name) small
              (unit_formals_apart block.formals h.few_formals block.name) (λ m above less new. new);
          typed = plain_body.typed;
          nesting = plain_body.low;
        }

    given_on : (calls : List (ℕ × List Var)) → All (IsUnitOf Q) calls → All (λ (call : ℕ × List Var). All IsGivenOn call.1) calls
    given_on [] all = All-nil (λ (call : ℕ × List Var). All IsGivenOn call.1)
    given_on (call ∷ calls) all =
        let one : IsUnitOf Q call = All-head (IsUnitOf Q) call calls all in
        All-cons (λ (call : ℕ × List Var). All IsGivenOn call.1) call calls one.0 (given_on calls (All-tail (IsUnitOf Q) call calls all))

    pub plain_unit : IsPlainUnit (unit_of program.blocks block graph)
    plain_unit =
        let short : length graph.nodes ≤ 32769 = blocks_few in
        record {
          body = refl;
          some = λ e. not_empty e;
          few = omega (arith, as_many);
          nodes = by_block (λ i node. IsPlainNode (length nodes) i node)
              (λ i x there. subst (λ (n : ℕ). IsPlainNode n i (node_here i x there)) (sym as_many) (plain_node i x there));
          names = are_named (keys_of formals) 0 types;
          low = plain_body.high;
          divisors = plain_body.divisors;
          calls = given_on (calls_in (node_statements nodes)) plain_body.calls;
        }
      where
        few_blocks : (rest : List Node) (at : ℕ) → AreBlocksFrom block.body at (map extent_of rest) → at + length rest ≤ length block.body
        few_blocks [] at are = omega (arith, are)
        few_blocks (y ∷ rest) at are =
            let some : at < y.past = are.0.some in
            let others : y.past + length rest ≤ length block.body = few_blocks rest y.past are.1 in
            omega arith

        blocks_few : length graph.nodes ≤ 32769
        blocks_few = let all : 0 + length graph.nodes ≤ length block.body = few_blocks graph.nodes 0 is_graph.nodes in let few = h.few in omega arith

        begins : BeginsAt graph.nodes 0 0
        begins = (has_nodes program widths block.body graph h.jumps is_graph h.operands h.brackets h.ends right).begins

        not_empty : nodes ≡ [] → ⊥
        not_empty e =
            let none : length nodes ≡ 0 = ap length e in
            let within : 0 < length graph.nodes = slice_get_within graph.nodes 0 begins.0 begins.1 in
            absurd (omega (arith, as_many))

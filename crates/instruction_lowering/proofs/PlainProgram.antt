-- The graph program of an accepted program is plain: its units see one another, and call no longer chains than the blocks.
use Rattle.std.proofs.Common.{◌≡◌, ◌≢◌, ℕ, zero, suc, ◌+◌, ◌≤◌, ◌==◌, Bool, true, false, not, if◌then◌else◌, List, [], ◌∷◌, ◌++◌, length, map, Option, Some, None, refl, sym, ap, subst, ◌∙◌, arith}
use Rattle.std.specs.Prelude.{All, option_map, slice_get}
use Rattle.std.specs.List.{flat_map}
use Rattle.std.proofs.lemmas.List.Elements.{All-cons, All-head, All-nil, All-tail}
use Rattle.std.proofs.lemmas.Option.{slice_get-map}
use Rattle.call_templates.specs.CallLaw.{IsCallOf, IsUnitCalled, widths_inside}
use Rattle.flow_graph.specs.declared.graph.Graph.{Graph}
use Rattle.graph_rules.specs.Plain.{IsPlainUnit, Plain, listed_text, node_statements}
use Rattle.instruction_lowering.proofs.AcceptedCalls.{callable}
use Rattle.instruction_lowering.proofs.Bodies.{CallsSeen}
use Rattle.instruction_lowering.proofs.CallFacts.{IsCallable, all_left, all_right, called_position}
use Rattle.instruction_lowering.proofs.DistinctBlocks.{all_differ, all_in_order, units_apart}
use Rattle.instruction_lowering.proofs.FormalNames.{new_unit, no_temporary, unit_formal_types, unit_formals_good}
use Rattle.instruction_lowering.proofs.Names.{numbered}
use Rattle.instruction_lowering.proofs.NewNames.{new_in_parts}
use Rattle.instruction_lowering.proofs.PlainGraph.{plain_body, plain_unit, proper_unit, text_of}
use Rattle.instruction_lowering.proofs.PlainSteps.{IsUnitOf}
use Rattle.instruction_lowering.proofs.TemporaryNames.{new_to_temporaries}
use Rattle.instruction_lowering.proofs.UnitOrder.{AllDiffer, ascends, ordered_there, there_before, unit_stands}
use Rattle.instruction_lowering.specs.UnitNames.{in_order, unit_formals, unit_position}
use Rattle.instruction_lowering.specs.inner.Lowering.{AreFew, AreMadeOf, IsMadeOf, graph_program_with, unit_of}
use Rattle.instruction_lowering.specs.inner.Temporaries.{formals_called, temporaries, types_in}
use Rattle.instruction_lowering.specs.inner.Templates.{unit_called}
use Rattle.memory_areas.specs.declared.sizes.TheConstants.{ACTIVATIONS}
use Rattle.s7_base.specs.Numbers.{greatest}
use Rattle.st_tree.proofs.FittingCalls.{at_position}
use Rattle.st_tree.specs.BodyParts.{calls_in}
use Rattle.st_tree.specs.Chains.{called_in, chain_of, chain_to, unit_chain}
use Rattle.st_tree.specs.Naming.{are_apart, key_of}
use Rattle.st_tree.specs.Proper.{IsDataBlock, IsGlobal, IsProperUnit, Proper}
use Rattle.st_tree.specs.StRun.{called_name, is_program}
use Rattle.st_tree.specs.WellTyped.{Head, UnitScope, head_of, keys_of, unit_scope_of}
use Rattle.st_tree.specs.declared.expr.Var.{Var}
use Rattle.st_tree.specs.declared.graph.GraphPou.{GraphPou}
use Rattle.st_tree.specs.declared.program.Pou.{Pou}
use Rattle.st_tree.specs.declared.program.StProgram.{StProgram}
use Rattle.stl_tree.specs.Accepted.{AreActuals, BlockCallsRight, CallsRight, EndsWithin, IsAccepted, IsAcceptedBlock, Widths, called_by, widths_named}
use Rattle.memory_areas.specs.declared.call.BlockName.{BlockName}
use Rattle.memory_areas.specs.declared.call.BlockName.TheVariants as name
use Rattle.stl_tree.specs.Calls.{formals_of}
use Rattle.stl_tree.specs.declared.program.Block.{Block}
use Rattle.stl_tree.specs.declared.program.BlockCall.{BlockCall}
use Rattle.stl_tree.specs.declared.program.Formal.{Formal}
use Rattle.stl_tree.specs.declared.program.Instr.{Instr}
use Rattle.stl_tree.specs.declared.program.Op.{Op}
use Rattle.stl_tree.specs.declared.program.Op.TheVariants as op
use Rattle.stl_tree.specs.declared.program.Program.{Program}

-- the unit that was made of the block at a position
pub record IsMadeAt (program : List Block) (units : List GraphPou) (j : ℕ) (b : Block) : Type 0 where
  pub unit : GraphPou
  pub stands : slice_get units j ≡ Some unit
  pub made : IsMadeOf program b unit

pub made_at : (program blocks : List Block) (units : List GraphPou) (j : ℕ) (b : Block) → AreMadeOf program blocks units → slice_get blocks j ≡ Some b
    → IsMadeAt program units j b
made_at program [] units j b made e = cc
made_at program (x ∷ blocks) [] j b made e = elim made [ ]
made_at program (x ∷ blocks) (u ∷ units) zero b made e =
    let same : x ≡ b = cc in record { unit = u; stands = refl; made = subst (λ (y : Block). IsMadeOf program y u) same made.0 }
made_at program (x ∷ blocks) (u ∷ units) (suc j) b made e =
    let found = made_at program blocks units j b made.1 e in record { unit = found.unit; stands = found.stands; made = found.made }

-- and the block of a unit
pub block_of_unit : (program blocks : List Block) (units : List GraphPou) (j : ℕ) (u : GraphPou) → AreMadeOf program blocks units → slice_get units j ≡ Some u
    → (b : Block) × (slice_get blocks j ≡ Some b)
block_of_unit program [] [] j u made e = cc
block_of_unit program [] (x ∷ units) j u made e = elim made [ ]
block_of_unit program (b ∷ blocks) [] j u made e = cc
block_of_unit program (b ∷ blocks) (x ∷ units) zero u made e = (b, refl)
block_of_unit program (b ∷ blocks) (x ∷ units) (suc j) u made e = block_of_unit program blocks units j u made.1 e

-- a block that is given nothing has no formals
no_formals : (widths : Widths) (has_instance : Bool) (fs : List Formal) → AreActuals widths has_instance fs [] → fs ≡ []
no_formals widths has_instance [] h = refl
no_formals widths has_instance (f ∷ fs) h = elim h [ ]

within_greatest : (f : ℕ → ℕ) (k : ℕ) (calls : List (ℕ × List Var)) → All (IsUnitOf (λ (n : ℕ). f n ≤ k)) calls
    → greatest (map f (map (λ (call : ℕ × List Var). call.0) calls)) ≤ k
within_greatest f k [] all = omega arith
within_greatest f k (call ∷ calls) all =
    let one : IsUnitOf (λ (n : ℕ). f n ≤ k) call = All-head (IsUnitOf (λ (n : ℕ). f n ≤ k)) call calls all in
    let first : f call.0 ≤ k = one.1 in
    let others : greatest (map f (map (λ (call : ℕ × List Var). call.0) calls)) ≤ k =
    within_greatest f k calls (All-tail (IsUnitOf (λ (n : ℕ). f n ≤ k)) call calls all) in
    omega arith

-- anything is said of each
abbrev pub Anything : ℕ → Type 0
Anything n = Unit {0}

each_anything : (ns : List ℕ) → All Anything ns
each_anything [] = All-nil Anything
each_anything (n ∷ ns) = All-cons Anything n ns tt (each_anything ns)

module _ (program : Program) (accepted : IsAccepted program) (units : List GraphPou) (made : AreMadeOf program.blocks (in_order program.blocks) units) where
  pub differ : AllDiffer program.blocks
  differ = all_differ program.blocks accepted.blocks accepted.names

  -- the unit of the block at a position
  pub unit_of_block : (m : ℕ) (b : Block) → slice_get program.blocks m ≡ Some b → IsMadeAt program.blocks units (unit_position program.blocks b.name) b
  unit_of_block m b there =
      made_at program.blocks (in_order program.blocks) units (unit_position program.blocks b.name) b made
      (unit_stands program.blocks m b differ there)

  abbrev tree : StProgram
  tree = listed_text (graph_program_with program units)

  abbrev pub heads : List Head
  heads = map head_of (map text_of units)

  -- Calls

  -- what the unit of a block sees
  abbrev pub scope : Block → Graph → UnitScope
  scope b graph = unit_scope_of [] heads (text_of (unit_of program.blocks b graph))

  -- it sees the unit of each function and function block
  sees : (b : Block) → IsAcceptedBlock b → (graph : Graph) (m : ℕ) (called : Block) → slice_get program.blocks m ≡ Some called
      → is_program called.name ≡ false → IsUnitCalled (scope b graph) (unit_position program.blocks called.name) (widths_named called.name called.formals)
  sees b h graph m called there function =
      let at = unit_of_block m called there in
      let own : IsAcceptedBlock called = at_position IsAcceptedBlock program.blocks m called accepted.blocks there in
      let n : ℕ = unit_position program.blocks called.name in
      record {
        head = record { program = is_program called.name; name = called_name called.name; formals = unit_formals called.name called.formals };
        there = slice_get-map head_of (map text_of units) n ∙ ap (option_map head_of) (slice_get-map text_of units n ∙ ap (option_map text_of) at.stands)
            ∙ ap (λ (u : GraphPou). Some (head_of (text_of u))) at.made.unit;
        function = function;
        seen = new_in_parts (key_of (called_name called.name)) (keys_of (unit_formals b.name b.formals))
            (keys_of (temporaries (keys_of (unit_formals b.name b.formals)) 0 (types_in program.blocks b.body)))
            (new_unit called.name (numbered called.name own.number) function (unit_formals b.name b.formals) (unit_formals_good b.formals h.few_formals b.name))
            (new_to_temporaries (key_of (called_name called.name)) (no_temporary called.name function) (keys_of (unit_formals b.name b.formals)) 0
            (types_in program.blocks b.body));
        formals = unit_formal_types called.name called.formals;
      }

  module _ (Q P : ℕ → Type 0) (has : (m : ℕ) (b : Block) → P m → slice_get program.blocks m ≡ Some b → Q (unit_position program.blocks b.name))
      (b : Block) (h : IsAcceptedBlock b) (graph : Graph) where
    abbrev IsSeen : Op → Type 0
    IsSeen o = CallsSeen Q program.dbs program.blocks (scope b graph) (widths_named b.name b.formals) o

    -- it sees what its instructions call
    sees_call : (o : Op) → CallsRight program (widths_named b.name b.formals) o → All P (called_by o) → IsSeen o
    sees_call (op.Call c) right all =
        let widths : Widths = widths_named b.name b.formals in
        let may : IsCallable program widths c = callable program accepted widths c right in
        let formals : formals_called program.blocks c ≡ may.block.formals = ap formals_of may.there in
        let position = called_position program widths c may in
        record {
          right = subst (λ (fs : List Formal). IsCallOf program.dbs widths fs c) (sym formals) may.right;
          unit = subst (λ (n : ℕ). IsUnitCalled (scope b graph) n (widths_inside c (formals_called program.blocks c))) (sym position)
              (subst (IsUnitCalled (scope b graph) (unit_position program.blocks may.block.name)) (sym (ap (widths_inside c) formals ∙ may.inside))
              (sees b h graph c.block may.block may.there may.function));
          has = subst Q (sym position) (has c.block may.block (All-head P c.block [] all) may.there);
        }
    sees_call (op.CallIf c) right all =
        let may : IsCallable program [] c = callable program accepted [] c right.0 in
        let position = called_position program [] c may in
        let none : may.block.formals ≡ [] =
        no_formals [] (not (c.instance == 0)) may.block.formals
        (subst (AreActuals [] (not (c.instance == 0)) may.block.formals) right.2 may.right.actuals) in
        record {
          instance = right.1;
          actuals = right.2;
          unit = subst (λ (n : ℕ). IsUnitCalled (scope b graph) n []) (sym position)
              (subst (IsUnitCalled (scope b graph) (unit_position program.blocks may.block.name))
              (ap (widths_named may.block.name) none ∙ nothing may.block.name)
              (sees b h graph c.block may.block may.there may.function));
          has = subst Q (sym position) (has c.block may.block (All-head P c.block [] all) may.there);
        }
      where
        nothing : (n : BlockName) → widths_named n [] ≡ []
        nothing (name.Ob n) = refl
        nothing (name.Fc n) = refl
        nothing (name.Fb n) = refl
    sees_call o right all = tt

    abbrev IsRight : Instr → Type 0
    IsRight i = CallsRight program (widths_named b.name b.formals) i.op

    abbrev IsSeenBy : Instr → Type 0
    IsSeenBy i = IsSeen i.op

    sees_calls : (is : List Instr) → All IsRight is → All P (flat_map (λ (i : Instr). called_by i.op) is) → All IsSeenBy is
    sees_calls [] right all = All-nil IsSeenBy
    sees_calls (i ∷ is) right all =
        All-cons IsSeenBy i is
        (sees_call i.op (All-head IsRight i is right) (all_left P (called_by i.op) (flat_map (λ (i : Instr). called_by i.op) is) all))
        (sees_calls is (All-tail IsRight i is right) (all_right P (called_by i.op) (flat_map (λ (i : Instr). called_by i.op) is) all))

  -- Units

  pub seen_at_all : (b : Block) (h : IsAcceptedBlock b) (graph : Graph) → BlockCallsRight program b
      → All (λ (i : Instr). CallsSeen Anything program.dbs program.blocks (scope b graph) (widths_named b.name b.formals) i.op) b.body
  seen_at_all b h graph right =
      sees_calls Anything Anything (λ m called p there. tt) b h graph b.body right (each_anything (flat_map (λ (i : Instr). called_by i.op) b.body))

  proper_units : (blocks : List Block) (us : List GraphPou) → All IsAcceptedBlock blocks → All (BlockCallsRight program) blocks
      → AreFew program.blocks blocks → AreMadeOf program.blocks blocks us → All (IsProperUnit [] heads) (map text_of us)
  proper_units [] [] h right few made = All-nil (IsProperUnit [] heads)
  proper_units [] (u ∷ us) h right few made = elim made [ ]
  proper_units (b ∷ rest) [] h right few made = elim made [ ]
  proper_units (b ∷ rest) (u ∷ us) h right few made =
      let own : IsAcceptedBlock b = All-head IsAcceptedBlock b rest h in
      let calls : BlockCallsRight program b = All-head (BlockCallsRight program) b rest right in
      All-cons (IsProperUnit [] heads) (text_of u) (map text_of us)
      (subst (λ (u : GraphPou). IsProperUnit [] heads (text_of u)) (sym made.0.unit)
      (proper_unit program b own calls made.0.graph made.0.is_graph accepted.dbs Anything heads (seen_at_all b own made.0.graph calls) few.0))
      (proper_units rest us (All-tail IsAcceptedBlock b rest h) (All-tail (BlockCallsRight program) b rest right) few.1 made.1)

  plain_units : (blocks : List Block) (us : List GraphPou) → All IsAcceptedBlock blocks → All (BlockCallsRight program) blocks
      → AreMadeOf program.blocks blocks us → All IsPlainUnit us
  plain_units [] [] h right made = All-nil IsPlainUnit
  plain_units [] (u ∷ us) h right made = elim made [ ]
  plain_units (b ∷ rest) [] h right made = elim made [ ]
  plain_units (b ∷ rest) (u ∷ us) h right made =
      let own : IsAcceptedBlock b = All-head IsAcceptedBlock b rest h in
      let calls : BlockCallsRight program b = All-head (BlockCallsRight program) b rest right in
      All-cons IsPlainUnit u us
      (subst IsPlainUnit (sym made.0.unit)
      (plain_unit program b own calls made.0.graph made.0.is_graph accepted.dbs Anything heads (seen_at_all b own made.0.graph calls)))
      (plain_units rest us (All-tail IsAcceptedBlock b rest h) (All-tail (BlockCallsRight program) b rest right) made.1)

  -- Chains

  -- a chain of units is one of their blocks
  chain_within : (k most n m : ℕ) (b : Block) (u : GraphPou) → slice_get program.blocks m ≡ Some b → slice_get units n ≡ Some u
      → IsMadeOf program.blocks b u → EndsWithin k program.blocks m → chain_to most tree n ≤ k
  chain_within zero most n m b u there stands is_made ends = elim ends [ ]
  chain_within (suc k) zero n m b u there stands is_made ends = omega arith
  chain_within (suc k) (suc most) n m b u there stands is_made ends =
      let own : IsAcceptedBlock b = at_position IsAcceptedBlock program.blocks m b accepted.blocks there in
      let right : BlockCallsRight program b = at_position (BlockCallsRight program) program.blocks m b accepted.calls there in
      let seen =
      sees_calls (λ (n : ℕ). chain_to most tree n ≤ k) (EndsWithin k program.blocks)
      (λ l called within at.
      let its = unit_of_block l called at in
      chain_within k most (unit_position program.blocks called.name) l called its.unit at its.stands its.made within)
      b own is_made.graph b.body right (ends b there) in
      let body =
      plain_body program b own right is_made.graph is_made.is_graph accepted.dbs (λ (n : ℕ). chain_to most tree n ≤ k) heads seen in
      let text : Pou = text_of (unit_of program.blocks b is_made.graph) in
      let found : slice_get tree.pous n ≡ Some text =
      slice_get-map text_of units n ∙ ap (option_map text_of) stands ∙ ap (λ (v : GraphPou). Some (text_of v)) is_made.unit in
      let one : chain_to (suc most) tree n ≡ suc (greatest (map (chain_to most tree) (called_in text.body))) =
      ap (unit_chain (chain_to most tree) most) found in
      let within : greatest (map (chain_to most tree) (called_in text.body)) ≤ k =
      within_greatest (chain_to most tree) k (calls_in text.body) body.calls in
      omega arith

  short : (n : ℕ) (text : Pou) → slice_get tree.pous n ≡ Some text → chain_of tree n ≤ ACTIVATIONS
  short n text e = by (slice_get units n) refl
    where
      by : (o : Option GraphPou) → slice_get units n ≡ o → chain_of tree n ≤ ACTIVATIONS
      by None f = absurd (nothing (sym (slice_get-map text_of units n ∙ ap (option_map text_of) f) ∙ e))
        where
          nothing : None ≡ Some text → ⊥
          nothing g = cc
      by (Some u) f =
          let block = block_of_unit program.blocks (in_order program.blocks) units n u made f in
          let at = there_before program.blocks n block.0 block.1 in
          let its = made_at program.blocks (in_order program.blocks) units n block.0 made block.1 in
          chain_within ACTIVATIONS (suc ACTIVATIONS) n at.0 block.0 its.unit at.1 its.stands its.made (accepted.chains at.0)

  -- The whole

  keys_are : (blocks : List Block) (us : List GraphPou) → AreMadeOf program.blocks blocks us
      → map (λ (u : Pou). key_of u.name) (map text_of us) ≡ map (λ (b : Block). key_of (called_name b.name)) blocks
  keys_are [] [] made = refl
  keys_are [] (u ∷ us) made = elim made [ ]
  keys_are (b ∷ rest) [] made = elim made [ ]
  keys_are (b ∷ rest) (u ∷ us) made =
      ap (λ (u : GraphPou). key_of u.head.name ∷ map (λ (u : Pou). key_of u.name) (map text_of us)) made.0.unit
      ∙ ap (λ ks. key_of (called_name b.name) ∷ ks) (keys_are rest us made.1)

  some_unit : (blocks : List Block) (us : List GraphPou) → (b : Block) × (n : ℕ) × (slice_get blocks n ≡ Some b) → AreMadeOf program.blocks blocks us
      → map text_of us ≢ []
  some_unit [] us there made e = absurd (nothing there.0 there.1 there.2)
    where
      nothing : (b : Block) (n : ℕ) → slice_get [] n ≡ Some b → ⊥
      nothing b n f = cc
  some_unit (b ∷ rest) [] there made e = elim made [ ]
  some_unit (b ∷ rest) (u ∷ us) there made e = cc

  first_block : (blocks : List Block) → blocks ≢ [] → (b : Block) × (n : ℕ) × (slice_get (in_order blocks) n ≡ Some b)
  first_block [] h = absurd (h refl)
  first_block (b ∷ rest) h = let there = ordered_there (b ∷ rest) 0 b refl in (b, there.0, there.1)

  pub plain_graph : All IsDataBlock program.dbs → AreFew program.blocks (in_order program.blocks) → Plain (graph_program_with program units)
  plain_graph bytes few =
      let blocks : List Block = in_order program.blocks in
      let all : All IsAcceptedBlock blocks = all_in_order IsAcceptedBlock program.blocks accepted.blocks in
      let right : All (BlockCallsRight program) blocks = all_in_order (BlockCallsRight program) program.blocks accepted.calls in
      record {
        text = record {
          blocks = accepted.dbs;
          bytes = bytes;
          globals = All-nil IsGlobal;
          apart = ap are_apart (keys_are blocks units made) ∙ units_apart blocks all (ascends program.blocks differ);
          some = some_unit blocks units (first_block program.blocks accepted.some) made;
          units = proper_units blocks units all right few made;
          chains = short;
        };
        globals = refl;
        units = plain_units blocks units all right made;
      }

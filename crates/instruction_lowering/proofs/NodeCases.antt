-- Nodes of bodies that are written out.
use Rattle.std.proofs.Common.{◌≡◌, true, false, List, [], ◌∷◌, ◌++◌, refl}
use Rattle.bit_templates.specs.Bits.{rlo_set}
use Rattle.call_templates.specs.Calls.{end_word_of}
use Rattle.flow_graph.specs.declared.graph.Exit.TheVariants as way
use Rattle.flow_graph.specs.declared.graph.Node.{Node}
use Rattle.instruction_lowering.specs.inner.Lowering.{nodes_of}
use Rattle.jump_templates.specs.Jumps.{low_byte_of}
use Rattle.s7_base.specs.declared.register.Reg.TheVariants as reg
use Rattle.st_tree.specs.declared.graph.StExit.TheVariants as exit
use Rattle.stl_tree.specs.declared.program.Instr.{Instr}
use Rattle.stl_tree.specs.declared.program.JumpTest.TheVariants as jump
use Rattle.stl_tree.specs.declared.program.Op.{Op}
use Rattle.stl_tree.specs.declared.program.Op.TheVariants as op
use Rattle.template_parts.specs.Builders.{local_of, read_of, set_local_of}

abbrev instr : Op → Instr
instr o = record { line = record { 0 = 1 }; op = o }

-- SET; JC a; BEU; a: and the end word
abbrev leaving : List Instr
leaving = instr op.SetRlo ∷ instr (op.Jump (jump.Rlo true) 3) ∷ instr op.BlockEnd ∷ instr op.BlockEnd ∷ []

abbrev leaving_blocks : List Node
leaving_blocks =
    record { first = 0; past = 2; exit = way.Branch 2 } ∷ record { first = 2; past = 3; exit = way.End } ∷ record { first = 3; past = 4; exit = way.End } ∷ []

-- the test is kept before RLO is set; BEU alone is no end word
leaving_nodes : nodes_of [] leaving leaving_blocks
    ≡ record { steps = rlo_set true ++ set_local_of 0 (read_of reg.Rlo) ∷ rlo_set true; exit = exit.Branch (local_of 0) 2; only_end = false }
    ∷ record { steps = end_word_of; exit = exit.End; only_end = false }
    ∷ record { steps = end_word_of; exit = exit.End; only_end = true } ∷ []
leaving_nodes = refl

-- JL a; JU b; a: JU b; b: and the end word
abbrev listing : List Instr
listing =
    instr (op.JumpList 1 2) ∷ instr (op.Jump jump.Always 3) ∷ instr (op.Jump jump.Always 3) ∷ instr op.BlockEnd ∷ []

abbrev listing_blocks : List Node
listing_blocks =
    record { first = 0; past = 2; exit = way.Table (2 ∷ []) 1 }
    ∷ record { first = 2; past = 3; exit = way.Jump 2 } ∷ record { first = 3; past = 4; exit = way.End }
    ∷ []

listing_nodes : nodes_of [] listing listing_blocks
    ≡ record { steps = set_local_of 0 low_byte_of ∷ []; exit = exit.Table (local_of 0) (2 ∷ []) 1; only_end = false }
    ∷ record { steps = []; exit = exit.Jump 2; only_end = false }
    ∷ record { steps = end_word_of; exit = exit.End; only_end = true } ∷ []
listing_nodes = refl

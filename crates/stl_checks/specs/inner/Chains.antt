-- The calls of the blocks of a program, and the rules that their chains break.
use Rattle.std.specs.Prelude.{List, [], ◌∷◌, map, Option, Some, None, Result, Ok, Err}
use Rattle.std.specs.List.{flat_map}
use Rattle.call_chains.specs.Chain.{Graph}
use Rattle.call_chains.specs.declared.call.Call.{Call}
use Rattle.s7_base.specs.Broken.{first_of_all}
use Rattle.s7_base.specs.declared.reason.Line.{Line}
use Rattle.s7_base.specs.declared.reason.Rejection.{Rejection}
use Rattle.s7_base.specs.declared.reason.Rejection.TheVariants.{Refused}
use Rattle.s7_base.specs.declared.rule_break.Break.{Break}
use Rattle.stl_rules.specs.Stages.{chain_breaks}
use Rattle.stl_tree.specs.declared.program.Block.{Block}
use Rattle.stl_tree.specs.declared.program.Instr.{Instr}
use Rattle.stl_tree.specs.declared.program.Op.{Op}
use Rattle.stl_tree.specs.declared.program.Op.TheVariants as op
use Rattle.stl_tree.specs.declared.program.Program.{Program}

-- the calls of an operation on a line
abbrev pub calls_by : Line → Op → List Call
calls_by line (op.Call c) = record { callee = c.block; line = line } ∷ []
calls_by line (op.CallIf c) = record { callee = c.block; line = line } ∷ []
calls_by line other = []

abbrev pub calls_of_body : List Instr → List Call
calls_of_body body = flat_map (λ (i : Instr). calls_by i.line i.op) body

-- the calls of each block
abbrev pub graph_of : List Block → Graph
graph_of blocks = map (λ (b : Block). calls_of_body b.body) blocks

-- the lines of the headings
abbrev pub headings_of : List Block → List Line
headings_of blocks = map (λ (b : Block). b.line) blocks

-- the first rule that chains of calls break
abbrev pub first_in_chain : List Block → Option Break
first_in_chain blocks = first_of_all (chain_breaks (graph_of blocks) (headings_of blocks))

-- a program, or the first rule that the chain of its calls breaks
abbrev pub program_if : Program → Option Break → Result Program Rejection
program_if program None = Ok program
program_if program (Some first) = Err (Refused first.line first.rule)

abbrev pub program_by_chain : Program → Result Program Rejection
program_by_chain program = program_if program (first_in_chain program.blocks)

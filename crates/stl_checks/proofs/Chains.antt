-- The calls of a program are those of its raw program, and the first rule that their chains break.
use Rattle.std.proofs.Common.{◌≡◌, List, [], ◌∷◌, ◌++◌, map, refl, sym, ap, ◌∙◌}
use Rattle.std.specs.List.{flat_map}
use Rattle.std.proofs.lemmas.Grind.{flat_map-append}
use Rattle.std.proofs.lemmas.List.{append-nil}
use Rattle.std.proofs.lemmas.List.Concat.{flat_map-cons}
use Rattle.stl_checks.specs.inner.Chains.{calls_by, calls_of_body, graph_of, headings_of}
use Rattle.stl_rules.specs.Programs.{block_of, instr_of, instrs_of, op_of, or_any, program_of, with_list}
use Rattle.stl_rules.specs.Raw.{OperandScope}
use Rattle.stl_rules.specs.Stages.{call_graph, calls_in, calls_of, chain, chain_breaks}
use Rattle.stl_tree.specs.declared.program.Instr.{Instr}
use Rattle.stl_tree.specs.declared.program.Op.{Op}
use Rattle.stl_tree.specs.declared.program.Op.TheVariants as op
use Rattle.stl_tree.specs.declared.raw.RawBlock.{RawBlock}
use Rattle.stl_tree.specs.declared.raw.RawInstr.{RawInstr}
use Rattle.stl_tree.specs.declared.raw.RawProgram.{RawProgram}

-- Calls

by_op : (raw : RawInstr) (rest : List RawInstr) (o : Op) → calls_by raw.line (with_list rest o) ≡ calls_of raw o
by_op raw rest (op.JumpList count to) = refl
by_op raw rest other = refl

of_instrs : (scope : OperandScope) (raws : List RawInstr)
    → calls_of_body (instrs_of scope raws) ≡ flat_map (λ (i : RawInstr). calls_of i (or_any (op_of scope i.op))) raws
of_instrs scope [] = refl
of_instrs scope (raw ∷ rest) =
    flat_map-cons (λ (i : Instr). calls_by i.line i.op) (instr_of scope raw rest) (instrs_of scope rest)
    ∙ ap (λ calls. calls ++ calls_of_body (instrs_of scope rest)) (by_op raw rest (or_any (op_of scope raw.op)))
    ∙ ap (λ calls. calls_of raw (or_any (op_of scope raw.op)) ++ calls) (of_instrs scope rest)
    ∙ sym (flat_map-cons (λ (i : RawInstr). calls_of i (or_any (op_of scope i.op))) raw rest)

of_block : (text : RawProgram) (raw : RawBlock) → calls_of_body (block_of text raw).body ≡ calls_in text raw
of_block text raw =
    let scope : OperandScope = record { text = text; block = raw } in
    let last : Instr = record { line = raw.end_line; op = op.BlockEnd } in
    flat_map-append (λ (i : Instr). calls_by i.line i.op) (instrs_of scope raw.body) (last ∷ [])
    ∙ ap (λ calls. calls_of_body (instrs_of scope raw.body) ++ calls) (flat_map-cons (λ (i : Instr). calls_by i.line i.op) last [])
    ∙ append-nil (calls_of_body (instrs_of scope raw.body))
    ∙ of_instrs scope raw.body

of_blocks : (text : RawProgram) (raws : List RawBlock) → graph_of (map (block_of text) raws) ≡ map (calls_in text) raws
of_blocks text [] = refl
of_blocks text (raw ∷ raws) =
    ap (λ calls. calls ∷ graph_of (map (block_of text) raws)) (of_block text raw)
    ∙ ap (λ graph. calls_in text raw ∷ graph) (of_blocks text raws)

headings : (text : RawProgram) (raws : List RawBlock) → headings_of (map (block_of text) raws) ≡ map (λ (b : RawBlock). b.line) raws
headings text [] = refl
headings text (raw ∷ raws) = ap (λ lines. raw.line ∷ lines) (headings text raws)

-- the chain stage is judged by the program
pub of_program : (raw : RawProgram) → chain_breaks (graph_of (program_of raw).blocks) (headings_of (program_of raw).blocks) ≡ chain raw
of_program raw =
    ap (λ graph. chain_breaks graph (headings_of (program_of raw).blocks)) (of_blocks raw raw.blocks)
    ∙ ap (chain_breaks (call_graph raw)) (headings raw raw.blocks)

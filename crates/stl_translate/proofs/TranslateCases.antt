-- The text of some small programs without jumps, by computation: the steps of the one node of each unit.
use Rattle.std.proofs.Common.{ap}
use Rattle.std.specs.Prelude.{◌≡◌, ℕ, List, [], ◌∷◌, ◌++◌, length, map, codes}
use Rattle.std.specs.Fmt.{digits}
use Rattle.s7_base.specs.declared.check.Check.TheVariants as check
use Rattle.memory_areas.specs.declared.place.AreaName.TheVariants as area
use Rattle.memory_areas.specs.declared.call.BlockName.{BlockName}
use Rattle.memory_areas.specs.declared.call.BlockName.TheVariants as name
use Rattle.stl_tree.specs.declared.program.Operand.{Operand}
use Rattle.stl_tree.specs.declared.program.Operand.TheVariants as operand
use Rattle.stl_tree.specs.declared.program.BitArg.TheVariants as arg
use Rattle.stl_tree.specs.declared.program.Op.{Op}
use Rattle.stl_tree.specs.declared.program.Op.TheVariants as op
use Rattle.stl_tree.specs.declared.program.Instr.{Instr}
use Rattle.stl_tree.specs.declared.program.Block.{Block}
use Rattle.st_tree.specs.Spelling as spelling_of
use Rattle.st_tree.specs.Spelling.{ArmText, CaseText, Text, line, literal_text, local_text, spelling, statement_step, statement_text, unit_text}
use Rattle.st_tree.specs.Typing.{Names}
use Rattle.st_tree.specs.declared.expr.Var.{Var}
use Rattle.st_tree.specs.declared.program.Stmt.TheOpen as S
use Rattle.st_tree.specs.declared.program.Stmt.TheVariants as stmt
use Rattle.st_tree.proofs.Equations.{canon_equations, fold_stmt, text_assign}
use Rattle.flow_graph.specs.declared.graph.Exit.TheVariants as exit
use Rattle.flow_graph.specs.declared.graph.Graph.{Graph}
use Rattle.instruction_lowering.specs.inner.Lowering.{graph_program_with, unit_of}
use Rattle.graph_rules.specs.Plain.{listed_text}

abbrev instr_of : Op → Instr
instr_of o = record { line = record { 0 = 3 }; op = o }

-- a block with these instructions before its end word
abbrev block_of : BlockName → List Op → Block
block_of n ops = record { name = n; line = record { 0 = 1 }; formals = []; body = map instr_of (ops ++ op.BlockEnd ∷ []) }

-- the graph of a body without jumps, which is one block
abbrev one_block : Block → Graph
one_block b = record { nodes = record { first = 0; past = length b.body; exit = exit.End } ∷ []; cuts = 0 ∷ [] }

abbrev text_of : List Block → List ℕ
text_of blocks =
    spelling (listed_text (graph_program_with (record { dbs = []; instances = []; blocks = blocks; symbols = [] })
    (map (λ (b : Block). unit_of blocks b (one_block b)) blocks)))

abbrev input : ℕ → Operand
input bit = operand.Direct area.I 0 bit

series_of_two : text_of (block_of (name.Ob 1)
    (op.Check check.A (arg.At (input 0)) ∷ op.Check check.A (arg.At (input 1)) ∷ op.Assign (operand.Direct area.Q 4 0) ∷ []) ∷ [])
    ≡ codes "PROGRAM OB1\n"
    ++ codes "    RLO := (RLO OR NOT NFC) AND %IX0.0 OR ORB;\n    NFC := TRUE;\n"
    ++ codes "    RLO := (RLO OR NOT NFC) AND %IX0.1 OR ORB;\n    NFC := TRUE;\n"
    ++ codes "    %QX4.0 := RLO;\n    ORB := FALSE;\n    NFC := FALSE;\n"
    ++ codes "    ORB := FALSE;\n    NFC := FALSE;\n    OS := FALSE;\nEND_PROGRAM\n"
unfolding digits unit_text line literal_text
series_of_two = simp (text_assign, canon_equations)

negated_series : text_of (block_of (name.Fc 10) (op.Check check.An (arg.At (input 0)) ∷ []) ∷ [])
    ≡ codes "FUNCTION FC10\n    RLO := (RLO OR NOT NFC) AND NOT %IX0.0 OR ORB;\n    NFC := TRUE;\n"
    ++ codes "    ORB := FALSE;\n    NFC := FALSE;\n    OS := FALSE;\nEND_FUNCTION\n"
unfolding digits unit_text line literal_text
negated_series = simp (text_assign, canon_equations)

parallel : text_of (block_of (name.Fb 1) (op.Check check.O (arg.At (input 0)) ∷ []) ∷ [])
    ≡ codes "FUNCTION FB1\n    RLO := RLO AND NFC OR %IX0.0;\n    ORB := FALSE;\n    NFC := TRUE;\n"
    ++ codes "    ORB := FALSE;\n    NFC := FALSE;\n    OS := FALSE;\nEND_FUNCTION\n"
unfolding digits unit_text line literal_text
parallel = simp (text_assign, canon_equations)

negated_parallel : text_of (block_of (name.Ob 65535) (op.Check check.On (arg.At (operand.Direct area.M 8191 7)) ∷ []) ∷ [])
    ≡ codes "PROGRAM OB65535\n    RLO := RLO AND NFC OR NOT %MX8191.7;\n    ORB := FALSE;\n    NFC := TRUE;\n"
    ++ codes "    ORB := FALSE;\n    NFC := FALSE;\n    OS := FALSE;\nEND_PROGRAM\n"
unfolding digits unit_text line literal_text
negated_parallel = simp (text_assign, canon_equations)

exclusive : text_of (block_of (name.Ob 1) (op.Check check.X (arg.At (input 0)) ∷ op.Check check.Xn (arg.At (input 1)) ∷ []) ∷ [])
    ≡ codes "PROGRAM OB1\n"
    ++ codes "    RLO := RLO AND NFC XOR %IX0.0;\n    ORB := FALSE;\n    NFC := TRUE;\n"
    ++ codes "    RLO := RLO AND NFC XOR NOT %IX0.1;\n    ORB := FALSE;\n    NFC := TRUE;\n"
    ++ codes "    ORB := FALSE;\n    NFC := FALSE;\n    OS := FALSE;\nEND_PROGRAM\n"
unfolding digits unit_text line literal_text
exclusive = simp (text_assign, canon_equations)

-- nothing stands behind the first end word of a body
two_blocks : text_of (block_of (name.Ob 1) [] ∷ block_of (name.Ob 35) [] ∷ [])
    ≡ codes "PROGRAM OB1\n    ORB := FALSE;\n    NFC := FALSE;\n    OS := FALSE;\nEND_PROGRAM\n"
    ++ codes "PROGRAM OB35\n    ORB := FALSE;\n    NFC := FALSE;\n    OS := FALSE;\nEND_PROGRAM\n"
unfolding digits unit_text line literal_text
two_blocks = simp (text_assign, canon_equations)

-- the text of a call
text_invoke : (names : Names) (level unit : ℕ) (vars : List Var) → statement_text names (stmt.Invoke unit vars) level
    ≡ statement_step names (S.Invoke unit vars) level
text_invoke names level unit vars =
    ap (λ (f : Text). f level)
    (fold_stmt Text ArmText CaseText (statement_step names) (spelling_of.arm_step names) spelling_of.case_step (S.Invoke unit vars)
    (stmt.rolls-Invoke unit vars))

-- a function without formals is called between saving and putting back
call_of_a_function : text_of (block_of (name.Fc 10) [] ∷ block_of (name.Ob 1)
    (op.Call (record { block = 0; instance = 0; actuals = [] }) ∷ []) ∷ [])
    ≡ codes "FUNCTION FC10\n    ORB := FALSE;\n    NFC := FALSE;\n    OS := FALSE;\nEND_FUNCTION\n"
    ++ codes "PROGRAM OB1\n    VAR_TEMP\n        T1 : WORD;\n        T2 : WORD;\n    END_VAR\n    T1 := DBNO;\n    T2 := DINO;\n"
    ++ codes "    ORB := FALSE;\n    NFC := FALSE;\n    OS := FALSE;\n    FC10();\n    DBNO := T1;\n    DINO := T2;\n"
    ++ codes "    ORB := FALSE;\n    NFC := FALSE;\n    OS := FALSE;\nEND_PROGRAM\n"
unfolding digits unit_text line literal_text local_text
call_of_a_function = simp (text_invoke, text_assign, canon_equations)

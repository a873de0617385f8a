-- Calls, held against worked rows by computing what is judged of raw programs.
use Rattle.std.proofs.Common.{◌≡◌, refl, sym, ap, ◌∙◌, List, [], ◌∷◌, ◌++◌, ℕ, Some, None, Option, Ok, Result, Err}
use Rattle.std.specs.Prelude.{codes, map, replicate}
use Rattle.memory_areas.specs.declared.call.BlockName.{BlockName}
use Rattle.memory_areas.specs.declared.call.BlockName.TheVariants.{Fb, Fc, Ob}
use Rattle.memory_areas.specs.declared.data_block.DataBlock.{DataBlock}
use Rattle.memory_areas.specs.declared.place.AreaName.TheVariants as area
use Rattle.s7_base.specs.declared.reason.Line.{Line}
use Rattle.s7_base.specs.declared.reason.Reason.{Reason}
use Rattle.s7_base.specs.declared.reason.Reason.TheVariants.{BadOperand, CallCycle, CallTooDeep, DuplicateName, UnknownBlock, UnknownName}
use Rattle.s7_base.specs.declared.reason.Rejection.{Rejection}
use Rattle.s7_base.specs.declared.word.Width.{Width}
use Rattle.s7_base.specs.declared.word.Width.TheVariants as width
use Rattle.stl_statement_grammar.specs.Constants.{constant, plain}
use Rattle.stl_statement_grammar.specs.Mnemonics.{mnemonic_named}
use Rattle.stl_rules.specs.Calls.{call_of}
use Rattle.stl_rules.specs.DeclarationRules.{scope_breaks}
use Rattle.stl_rules.specs.Labels.{label_of}
use Rattle.stl_rules.specs.Programs.{op_of}
use Rattle.stl_rules.specs.Raw.{resolved_operand}
use Rattle.stl_rules.specs.TooLarge.{first_large}
use Rattle.stl_rules.specs.Verdict.{checked_program}
use Rattle.stl_tree.specs.declared.program.Actual.{Actual}
use Rattle.stl_tree.specs.declared.program.Actual.TheVariants as actual
use Rattle.stl_tree.specs.declared.program.Block.{Block}
use Rattle.stl_tree.specs.declared.program.Formal.{Formal}
use Rattle.stl_tree.specs.declared.program.Instance.{Instance}
use Rattle.stl_tree.specs.declared.program.Mode.TheVariants as mode
use Rattle.stl_tree.specs.declared.program.Op.{Op}
use Rattle.stl_tree.specs.declared.program.Op.TheVariants as op
use Rattle.stl_tree.specs.declared.program.Operand.TheVariants.{Direct}
use Rattle.stl_tree.specs.declared.program.Program.{Program}
use Rattle.stl_tree.specs.declared.raw.BlockKind.{BlockKind}
use Rattle.stl_tree.specs.declared.raw.BlockKind.TheVariants as block
use Rattle.stl_tree.specs.declared.raw.Declaration.{Declaration}
use Rattle.stl_tree.specs.declared.raw.ElemType.{ElemType}
use Rattle.stl_tree.specs.declared.raw.ElemType.TheVariants as elem
use Rattle.stl_tree.specs.declared.raw.Constant.{Constant}
use Rattle.stl_tree.specs.declared.raw.PathStep.{PathStep}
use Rattle.stl_tree.specs.declared.raw.PathStep.TheVariants as step
use Rattle.stl_tree.specs.declared.raw.RawActual.{RawActual, out-roll-RawActual, roll-RawActual}
use Rattle.stl_tree.specs.declared.raw.RawBlock.{RawBlock}
use Rattle.stl_tree.specs.declared.raw.RawCall.{RawCall, out-roll-RawCall, roll-RawCall}
use Rattle.stl_tree.specs.declared.raw.RawData.{RawData}
use Rattle.stl_tree.specs.declared.raw.RawDataKind.TheVariants as data_kind
use Rattle.stl_tree.specs.declared.raw.RawInitial.{RawInitial}
use Rattle.stl_tree.specs.declared.raw.RawInstr.{RawInstr}
use Rattle.stl_tree.specs.declared.raw.RawName.{RawName}
use Rattle.stl_tree.specs.declared.raw.RawName.TheVariants.{Number}
use Rattle.stl_tree.specs.declared.raw.RawOperand.{RawOperand, out-RawOperand, out-roll-RawOperand}
use Rattle.stl_tree.specs.declared.raw.RawOperand.TheOpen as layer
use Rattle.stl_tree.specs.declared.raw.RawOperand.TheVariants as operand
use Rattle.stl_tree.specs.declared.raw.RawPlace.{RawPlace}
use Rattle.stl_tree.specs.declared.raw.RawProgram.{RawProgram}
use Rattle.stl_rules.proofs.Equations.{bits_equations, elementary_equations, extent_equations, inside_equations, rule_equations}
use Rattle.stl_rules.proofs.LayoutCases.{declared, of}
use Rattle.stl_rules.proofs.NameCases.{instr, ob, on_line, place}
use Rattle.stl_rules.proofs.VerdictCases.{on_line_3, refused}

-- Operands, opened

of_call : (c : RawCall) → out-RawOperand (operand.Call c) ≡ layer.Call c
of_call c = ap out-RawOperand (sym (operand.rolls-Call c)) ∙ out-roll-RawOperand (layer.Call c)

of_place : (p : RawPlace) → out-RawOperand (operand.At p) ≡ layer.At p
of_place p = ap out-RawOperand (sym (operand.rolls-At p)) ∙ out-roll-RawOperand (layer.At p)

of_name : (name : List ℕ) → out-RawOperand (operand.Named name) ≡ layer.Named name
of_name name = ap out-RawOperand (sym (operand.rolls-Named name)) ∙ out-roll-RawOperand (layer.Named name)

of_constant : (c : Constant) → out-RawOperand (operand.Constant c) ≡ layer.Constant c
of_constant c = ap out-RawOperand (sym (operand.rolls-Constant c)) ∙ out-roll-RawOperand (layer.Constant c)

of_path : (path : List PathStep) → out-RawOperand (operand.Local path) ≡ layer.Local path
of_path path = ap out-RawOperand (sym (operand.rolls-Local path)) ∙ out-roll-RawOperand (layer.Local path)

ruleset operand_equations = (of_call, of_place, of_name, of_constant, of_path, out-roll-RawCall, out-roll-RawActual)

-- Raw programs

-- a call by CALL on line 3
abbrev called : BlockKind → ℕ → Option RawName → List RawActual → RawInstr
called kind n db actuals =
    instr (codes "CALL") (operand.Call (roll-RawCall (record { kind = kind; block = Number n; db = db; actuals = actuals })))

abbrev function : ℕ → List RawActual → RawInstr
function n actuals = called block.Fc n None actuals

abbrev with_instance : ℕ → ℕ → List RawActual → RawInstr
with_instance n db actuals = called block.Fb n (Some (Number db)) actuals

-- UC on line 3
abbrev alone : ℕ → RawInstr
alone n =
    instr (codes "UC") (operand.Call (roll-RawCall (record { kind = block.Fc; block = Number n; db = None; actuals = [] })))

abbrev give : List ℕ → RawOperand → RawActual
give formal value = roll-RawActual (record { formal = formal; line = on_line 3; value = value })

abbrev marker : ℕ → RawOperand
marker n = operand.At (place area.M width.Bit n 0)

-- a block on a line with inputs, outputs, temporaries and a body
abbrev code : BlockKind → ℕ → ℕ → Option ElemType → List Declaration → List Declaration → List Declaration → List RawInstr → RawBlock
code kind line n result inputs outputs temps body =
    record {
      kind = kind;
      name = Number n;
      line = on_line line;
      result = result;
      inputs = inputs;
      outputs = outputs;
      in_outs = [];
      statics = [];
      temps = temps;
      body = body;
      end_line = on_line 40;
    }

-- FC 10 on line 11 with the input a : BOOL on line 12 and the output b : BOOL on line 13
abbrev fc_10 : RawBlock
fc_10 = code block.Fc 11 10 None (declared (codes "a") 12 (of elem.Bool) ∷ []) (declared (codes "b") 13 (of elem.Bool) ∷ []) [] []

-- FC 1 on line 11 without formals, with a body
abbrev fc_1 : List RawInstr → RawBlock
fc_1 body = code block.Fc 11 1 None [] [] [] body

-- FB 1 on line 21 with the input a : INT on line 22
abbrev fb_1 : RawBlock
fb_1 = code block.Fb 21 1 None (declared (codes "a") 22 (of elem.Int) ∷ []) [] [] []

-- DB 5 on line 31 as an instance of FB 1
abbrev db_5 : List RawInitial → RawData
db_5 values = record { name = Number 5; line = on_line 31; kind = data_kind.Instance (Number 1); initial = values }

-- OB 1 on line 1 with one instruction on line 3, above other blocks
abbrev above : List RawData → List RawBlock → RawInstr → RawProgram
above dbs blocks i = record { symbols = []; dbs = dbs; blocks = ob 1 (Number 1) [] (i ∷ []) ∷ blocks }

-- Blocks

no_function : checked_program (above [] [] (function 1 [])) ≡ refused 3 UnknownBlock
unfolding checked_program mnemonic_named op_of resolved_operand label_of scope_breaks first_large
no_function = simp operand_equations

-- of both the lesser number is named
function_65536 : checked_program (above [] [] (function 65536 [])) ≡ refused 3 UnknownBlock
unfolding checked_program mnemonic_named op_of resolved_operand label_of scope_breaks first_large
function_65536 = simp operand_equations

-- what is given to a block that is not found is looked up all the same
no_function_and_no_symbol : checked_program (above [] [] (function 1 (give (codes "x") (operand.Named (codes "y")) ∷ []))) ≡ refused 3 UnknownName
unfolding checked_program mnemonic_named op_of resolved_operand label_of scope_breaks first_large
no_function_and_no_symbol = simp operand_equations

plain_call : checked_program (above [] (fc_1 [] ∷ []) (alone 1))
    ≡ Ok (record {
      dbs = [];
      instances = [];
      blocks =
          record {
            name = Ob 1;
            line = on_line 1;
            formals = [];
            body = on_line_3 (op.Call (record { block = 1; instance = 0; actuals = [] })) ∷ record { line = on_line 4; op = op.BlockEnd } ∷ [];
          }
          ∷ record { name = Fc 1; line = on_line 11; formals = []; body = record { line = on_line 40; op = op.BlockEnd } ∷ [] } ∷ [];
      symbols = [];
    })
unfolding checked_program mnemonic_named op_of resolved_operand label_of scope_breaks first_large
plain_call = simp operand_equations

-- Cycles

itself : checked_program (above [] (fc_1 (function 1 [] ∷ []) ∷ []) (function 1 [])) ≡ refused 3 CallCycle
unfolding checked_program mnemonic_named op_of resolved_operand label_of scope_breaks first_large
itself = simp operand_equations

-- Actuals

all_given : checked_program (above [] (fc_10 ∷ []) (function 10 (give (codes "A") (marker 0) ∷ give (codes "b") (marker 0) ∷ [])))
    ≡ Ok (record {
      dbs = [];
      instances = [];
      blocks =
          record {
            name = Ob 1;
            line = on_line 1;
            formals = [];
            body =
                on_line_3 (op.Call (record { block = 1; instance = 0; actuals = actual.At (Direct area.M 0 0) ∷ actual.At (Direct area.M 0 0) ∷ [] }))
                ∷ record { line = on_line 4; op = op.BlockEnd } ∷ [];
          }
          ∷ record {
            name = Fc 10;
            line = on_line 11;
            formals =
                record { name = codes "a"; mode = mode.Input; width = width.Bit; byte = 0; bit = 0 }
                ∷ record { name = codes "b"; mode = mode.Output; width = width.Bit; byte = 0; bit = 0 } ∷ [];
            body = record { line = on_line 40; op = op.BlockEnd } ∷ [];
          } ∷ [];
      symbols = [];
    })
unfolding checked_program mnemonic_named op_of resolved_operand label_of first_large
all_given = simp (operand_equations, elementary_equations, extent_equations, rule_equations, inside_equations)

one_missing : checked_program (above [] (fc_10 ∷ []) (function 10 (give (codes "a") (marker 0) ∷ []))) ≡ refused 3 BadOperand
unfolding checked_program mnemonic_named op_of resolved_operand label_of first_large
one_missing = simp (operand_equations, elementary_equations, extent_equations, rule_equations, inside_equations)

-- UC asks for a function without formals
alone_with_formals : checked_program (above [] (fc_10 ∷ []) (alone 10)) ≡ refused 3 BadOperand
unfolding checked_program mnemonic_named op_of resolved_operand label_of first_large
alone_with_formals = simp (operand_equations, elementary_equations, extent_equations, rule_equations, inside_equations)

constant_for_output :
    checked_program (above [] (fc_10 ∷ []) (function 10 (give (codes "a") (marker 0) ∷ give (codes "b") (operand.Constant (constant width.Bit 1)) ∷ [])))
    ≡ refused 3 BadOperand
unfolding checked_program mnemonic_named op_of resolved_operand label_of first_large
constant_for_output = simp (operand_equations, elementary_equations, extent_equations, rule_equations, inside_equations)

no_such_formal :
    checked_program (above [] (fc_10 ∷ []) (function 10 (give (codes "a") (marker 0) ∷ give (codes "c") (marker 0) ∷ []))) ≡ refused 3 UnknownName
unfolding checked_program mnemonic_named op_of resolved_operand label_of first_large
no_such_formal = simp (operand_equations, elementary_equations, extent_equations, rule_equations, inside_equations)

twice_given :
    checked_program
    (above [] (fc_10 ∷ []) (function 10 (give (codes "a") (marker 0) ∷ give (codes "b") (marker 0) ∷ give (codes "A") (marker 0) ∷ [])))
    ≡ refused 3 DuplicateName
unfolding checked_program mnemonic_named op_of resolved_operand label_of first_large
twice_given = simp (operand_equations, elementary_equations, extent_equations, rule_equations, inside_equations)

-- Formals

-- a formal of a function is a formal by its position
formal_read : checked_program
    (record {
      symbols = [];
      dbs = [];
      blocks =
          code block.Fc 11 10 None (declared (codes "a") 12 (of elem.Bool) ∷ []) (declared (codes "b") 13 (of elem.Bool) ∷ []) []
          (instr (codes "=") (operand.Local (step.Name (codes "B") ∷ [])) ∷ instr (codes "A") (operand.Local (step.Name (codes "c") ∷ [])) ∷ []) ∷ [];
    })
    ≡ refused 3 UnknownName
unfolding checked_program mnemonic_named op_of resolved_operand label_of first_large
formal_read = simp (operand_equations, elementary_equations, extent_equations, rule_equations, inside_equations)

-- RET_VAL stands behind the outputs, so another one among them is refused at the heading
second_result : checked_program
    (record {
      symbols = [];
      dbs = [];
      blocks =
          code block.Fc 11 10 (Some elem.Int) [] (declared (codes "ret_val") 13 (of elem.Bool) ∷ []) [] [] ∷ [];
    })
    ≡ refused 11 DuplicateName
unfolding checked_program mnemonic_named op_of resolved_operand label_of first_large
second_result = simp (operand_equations, elementary_equations, extent_equations, rule_equations, inside_equations)

temporary_result : checked_program
    (record {
      symbols = [];
      dbs = [];
      blocks =
          code block.Fc 11 10 (Some elem.Int) [] [] (declared (codes "ret_val") 13 (of elem.Bool) ∷ []) [] ∷ [];
    })
    ≡ refused 13 DuplicateName
unfolding checked_program mnemonic_named op_of resolved_operand label_of first_large
temporary_result = simp (operand_equations, elementary_equations, extent_equations, rule_equations, inside_equations)

-- Instances

instance_called : checked_program (above (db_5 [] ∷ []) (fb_1 ∷ []) (with_instance 1 5 []))
    ≡ Ok (record {
      dbs = record { number = 5; bytes = 0 ∷ 0 ∷ [] } ∷ [];
      instances = record { db = 5; fb = 1 } ∷ [];
      blocks =
          record {
            name = Ob 1;
            line = on_line 1;
            formals = [];
            body =
                on_line_3 (op.Call (record { block = 1; instance = 5; actuals = actual.Missing ∷ [] }))
                ∷ record { line = on_line 4; op = op.BlockEnd } ∷ [];
          }
          ∷ record {
            name = Fb 1;
            line = on_line 21;
            formals = record { name = codes "a"; mode = mode.Input; width = width.Word; byte = 0; bit = 0 } ∷ [];
            body = record { line = on_line 40; op = op.BlockEnd } ∷ [];
          } ∷ [];
      symbols = [];
    })
unfolding checked_program mnemonic_named op_of resolved_operand label_of first_large
instance_called = simp (operand_equations, elementary_equations, extent_equations, rule_equations, inside_equations, bits_equations)

no_instance : checked_program (above [] (fb_1 ∷ []) (with_instance 1 5 [])) ≡ refused 3 UnknownBlock
unfolding checked_program mnemonic_named op_of resolved_operand label_of first_large
no_instance = simp (operand_equations, elementary_equations, extent_equations, rule_equations, inside_equations)

other_instance : checked_program (above (db_5 [] ∷ []) (fb_1 ∷ code block.Fb 21 2 None [] [] [] [] ∷ []) (with_instance 2 5 [])) ≡ refused 3 BadOperand
unfolding checked_program mnemonic_named op_of resolved_operand label_of first_large
other_instance = simp (operand_equations, elementary_equations, extent_equations, rule_equations, inside_equations)

-- an instance of no function block
of_nothing : checked_program (record { symbols = []; dbs = db_5 [] ∷ []; blocks = ob 1 (Number 1) [] [] ∷ [] }) ≡ refused 31 UnknownBlock
unfolding checked_program mnemonic_named op_of resolved_operand label_of scope_breaks first_large
of_nothing = refl

-- initial values in it name nothing: on one line the lesser number comes first
value_of_nothing : checked_program
    (record {
      symbols = [];
      dbs = db_5 (record { path = step.Name (codes "a") ∷ []; line = on_line 31; value = plain 1 } ∷ []) ∷ [];
      blocks = ob 1 (Number 1) [] [] ∷ [];
    })
    ≡ refused 31 UnknownName
unfolding checked_program mnemonic_named op_of resolved_operand label_of scope_breaks first_large
value_of_nothing = refl

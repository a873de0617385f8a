-- Calls, held against worked rows by computing the definitions.
use Rattle.std.proofs.Common.{◌≡◌, refl, List, [], ◌∷◌, ℕ, Some, None, Err, Result}
use Rattle.std.specs.Prelude.{codes}
use Rattle.memory_areas.specs.declared.place.AreaName.TheVariants as area
use Rattle.s7_base.specs.Tokens.{tokens_of}
use Rattle.s7_base.specs.declared.reason.Kind.{Kind}
use Rattle.s7_base.specs.declared.reason.Kind.TheVariants as kind
use Rattle.s7_base.specs.declared.reason.Reason.{Reason}
use Rattle.s7_base.specs.declared.reason.Reason.TheVariants.{Unsupported}
use Rattle.s7_base.specs.declared.word.Width.TheVariants as width
use Rattle.stl_statement_grammar.specs.CallOperands.{function_call, instance_call}
use Rattle.stl_statement_grammar.specs.Constants.{constant, plain}
use Rattle.stl_statement_grammar.specs.Mnemonics.{mnemonic_at}
use Rattle.stl_statement_grammar.specs.Pointers.{pointer}
use Rattle.stl_statement_grammar.proofs.OperandCases.{all_said, bad, is}
use Rattle.stl_tree.specs.declared.raw.PathStep.TheVariants as step
use Rattle.stl_tree.specs.declared.raw.RawActual.{RawActual, roll-RawActual}
use Rattle.stl_tree.specs.declared.raw.RawName.{RawName}
use Rattle.stl_tree.specs.declared.raw.RawName.TheVariants.{Name, Number}
use Rattle.stl_tree.specs.declared.raw.RawOp.{RawOp}
use Rattle.stl_tree.specs.declared.raw.RawOperand.{RawOperand}
use Rattle.stl_tree.specs.declared.raw.RawOperand.TheVariants.{At, Constant, InBlock, Local, Named, Pointer}

-- a call of a function, and one of a function block
abbrev call : RawName → List RawActual → Result RawOp Reason
call name actuals = is (codes "CALL") (function_call name actuals)

abbrev call_of : RawName → RawName → List RawActual → Result RawOp Reason
call_of name db actuals = is (codes "CALL") (instance_call name db actuals)

-- an actual on the first line
abbrev given : List ℕ → RawOperand → RawActual
given name value = roll-RawActual (record { formal = name; line = record { 0 = 1 }; value = value })

abbrev left_out : Kind → Result RawOp Reason
left_out k = Err (Unsupported k)

calls :
    all_said
    (codes "CALL FC 1" ∷ codes "call fc1" ∷ codes "CALL FB 1 , DB 6" ∷ codes "CALL FB1,DB6" ∷ codes "CALL \"x\"" ∷ codes "CALL \"x\",\"y\""
    ∷ codes "CALL FB 1, \"y\"" ∷ codes "CALL \"x\", DB 6" ∷ codes "CALL FC 99999999999" ∷ [])
    ≡ call (Number 1) [] ∷ call (Number 1) [] ∷ call_of (Number 1) (Number 6) [] ∷ call_of (Number 1) (Number 6) []
    ∷ call (Name (codes "x")) [] ∷ call_of (Name (codes "x")) (Name (codes "y")) [] ∷ call_of (Number 1) (Name (codes "y")) []
    ∷ call_of (Name (codes "x")) (Number 6) [] ∷ call (Number 4294967295) [] ∷ []
unfolding tokens_of mnemonic_at
calls = refl

actuals :
    all_said
    (codes "CALL FC 1 (a := MW 4)" ∷ codes "CALL FC 1(a:=TRUE,1b := -5 , in := #x.y)" ∷ codes "CALL FB 1, DB 6 (a := \"s\", b := \"d\".c)"
    ∷ codes "CALL FC 1 (a := P#M 1.0, b := B#(1,2))" ∷ codes "CALL \"x\" (a := DB5.DBX 0.7)" ∷ [])
    ≡ call (Number 1) (given (codes "a") (At (record { block = None; area = area.M; width = width.Word; byte = 4; bit = 0 })) ∷ [])
    ∷ call (Number 1)
    (given (codes "a") (Constant (constant width.Bit 1)) ∷ given (codes "1b") (Constant (plain 65531))
    ∷ given (codes "in") (Local (step.Name (codes "x") ∷ step.Name (codes "y") ∷ [])) ∷ [])
    ∷ call_of (Number 1) (Number 6) (given (codes "a") (Named (codes "s")) ∷ given (codes "b") (InBlock (codes "d") (step.Name (codes "c") ∷ [])) ∷ [])
    ∷ call (Number 1) (given (codes "a") (Pointer (pointer 131 1 0)) ∷ given (codes "b") (Constant (constant width.Word 258)) ∷ [])
    ∷ call (Name (codes "x")) (given (codes "a") (At (record { block = Some 5; area = area.Db; width = width.Bit; byte = 0; bit = 7 })) ∷ []) ∷ []
unfolding tokens_of mnemonic_at
actuals = refl

calls_alone :
    all_said (codes "UC FC 1" ∷ codes "CC fc1" ∷ codes "UC \"x\"" ∷ [])
    ≡ is (codes "UC") (function_call (Number 1) []) ∷ is (codes "CC") (function_call (Number 1) []) ∷ is (codes "UC") (function_call (Name (codes "x")) []) ∷ []
unfolding tokens_of mnemonic_at
calls_alone = refl

no_calls :
    all_said
    (codes "CALL" ∷ codes "CALL FC" ∷ codes "CALL FC 1 ()" ∷ codes "CALL FC 1 (a := 1" ∷ codes "CALL FC 1 (a := 1,)" ∷ codes "CALL FC 1 (a := 1) b"
    ∷ codes "CALL FC 1 (a : = 1)" ∷ codes "CALL FC 1 (\"a\" := 1)" ∷ codes "CALL FC 1 (a := MW [MD 0])" ∷ codes "CALL FC 1 (a := [AR1,P#0.0])"
    ∷ codes "CALL FC 1, DB 1" ∷ codes "CALL FC \"d\"" ∷ codes "CALL FB \"d\", DB 1" ∷ codes "CALL FB 1" ∷ codes "CALL FB 1 (a := 1)"
    ∷ codes "CALL FB 1, DB \"d\"" ∷ codes "CALL \"x\" (a := 1), \"y\"" ∷ codes "CALL MW 0" ∷ codes "CALL FC [MW 0]" ∷ codes "CALL OB 1" ∷ [])
    ≡ bad ∷ bad ∷ bad ∷ bad ∷ bad ∷ bad ∷ bad ∷ bad ∷ bad ∷ bad ∷ bad ∷ bad ∷ bad ∷ bad ∷ bad ∷ bad ∷ bad ∷ bad ∷ bad ∷ bad ∷ []
unfolding tokens_of mnemonic_at
no_calls = refl

no_calls_alone :
    all_said
    (codes "UC" ∷ codes "UC FC 1 (a := 1)" ∷ codes "CC FC" ∷ codes "UC OB 1" ∷ codes "UC DB 1" ∷ codes "CC \"x\" 1" ∷ codes "UC FC \"x\"" ∷ codes "UC 5" ∷ [])
    ≡ bad ∷ bad ∷ bad ∷ bad ∷ bad ∷ bad ∷ bad ∷ bad ∷ []
unfolding tokens_of mnemonic_at
no_calls_alone = refl

-- blocks that are not supported, whatever follows them
other_blocks :
    all_said
    (codes "CALL SFC 20" ∷ codes "CALL SFB4, DB 5 (a := 1)" ∷ codes "UC SFC 4 x" ∷ codes "CALL #motor" ∷ codes "CALL #a.b (c := 1)" ∷ [])
    ≡ left_out kind.SystemCall ∷ left_out kind.SystemCall ∷ left_out kind.SystemCall ∷ left_out kind.MultiInstance ∷ left_out kind.MultiInstance ∷ []
unfolding tokens_of mnemonic_at
other_blocks = refl

-- blocks whose numbers are found at run time
indirect_blocks :
    all_said
    (codes "UC FB 1" ∷ codes "CC FB1" ∷ codes "UC FB \"x\"" ∷ codes "UC [MW 0]" ∷ codes "UC FC [MW 0]" ∷ codes "CC FB [MW 0]" ∷ codes "UC MW 0"
    ∷ codes "UC DB5.DBW 0" ∷ codes "UC MW [MD 0]" ∷ codes "CC W [AR1,P#0.0]" ∷ codes "UC #x" ∷ codes "UC \"d\".x" ∷ [])
    ≡ left_out kind.IndirectBlock ∷ left_out kind.IndirectBlock ∷ left_out kind.IndirectBlock ∷ left_out kind.IndirectBlock
    ∷ left_out kind.IndirectBlock ∷ left_out kind.IndirectBlock ∷ left_out kind.IndirectBlock ∷ left_out kind.IndirectBlock
    ∷ left_out kind.IndirectBlock ∷ left_out kind.IndirectBlock ∷ left_out kind.IndirectBlock ∷ left_out kind.IndirectBlock ∷ []
unfolding tokens_of mnemonic_at
indirect_blocks = refl

-- the first form that is not supported counts, among what fits before it
left_out_there :
    all_said
    (codes "UC T 1" ∷ codes "CC PIW 0" ∷ codes "CALL FC 1 (a := T 5 x" ∷ codes "CALL FC 1 (a := 1, b := C#5)" ∷ codes "CALL FB 1, DB 6 (a := 1.5)"
    ∷ codes "CALL FC 1 (a := PIW [MD 0])" ∷ codes "CALL FC 1 (a := P##b, c := T 1)" ∷ codes "CALL FC 1 (a 1, b := T 1)" ∷ codes "CALL FC 1 (a := T#5s)" ∷ [])
    ≡ left_out kind.Timer ∷ left_out kind.Peripheral ∷ left_out kind.Timer ∷ left_out kind.Counter ∷ left_out kind.Real
    ∷ left_out kind.Peripheral ∷ left_out kind.NamePointer ∷ bad ∷ left_out kind.DateTime ∷ []
unfolding tokens_of mnemonic_at
left_out_there = refl

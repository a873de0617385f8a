-- Labels and jumps, held against worked rows by computing the verdict.
use denote.Hole.Carrier
use Rattle.std.proofs.Common.{◌≡◌, ℕ, true, false, List, [], ◌∷◌, ◌++◌, Option, Some, None, Ok, Result, refl}
use Rattle.std.specs.Prelude.{codes, map, replicate}
use Rattle.memory_areas.specs.declared.call.BlockName.TheVariants.{Ob}
use Rattle.memory_areas.specs.declared.place.AreaName.TheVariants as area
use Rattle.s7_base.specs.Broken.{rule_break}
use Rattle.s7_base.specs.Tokens.{tokens_of}
use Rattle.s7_base.specs.declared.check.Check.TheVariants as check
use Rattle.s7_base.specs.declared.reason.Kind.TheVariants.{Timer}
use Rattle.s7_base.specs.declared.reason.Reason.TheVariants.{BadJumpList, BadStatement, BracketOpen, DuplicateLabel, UnknownLabel, UnknownName, Unsupported}
use Rattle.s7_base.specs.declared.reason.Rejection.{Rejection}
use Rattle.status_word.specs.declared.test.Test.TheVariants as test
use Rattle.stl_grammar.specs.Items.{item_at}
use Rattle.stl_grammar.specs.RawPrograms.{raw_program, raw_text}
use Rattle.stl_rules.specs.BodyRules.{labels_at}
use Rattle.stl_rules.specs.DeclarationRules.{scope_breaks}
use Rattle.stl_rules.specs.Labels.{label_of}
use Rattle.stl_rules.specs.Programs.{op_of}
use Rattle.stl_rules.specs.Raw.{resolved_operand}
use Rattle.stl_rules.specs.TooLarge.{first_large}
use Rattle.stl_rules.specs.Verdict.{checked_program, verdict}
use Rattle.stl_rules.proofs.VerdictCases.{on_line_3, refused, with_body}
use Rattle.stl_statement_grammar.specs.Mnemonics.{mnemonic_at, mnemonic_named}
use Rattle.stl_statement_grammar.specs.Statements.{instruction_of}
use Rattle.stl_tree.specs.declared.program.BitArg.TheVariants.{At}
use Rattle.stl_tree.specs.declared.program.JumpTest.TheVariants as jump
use Rattle.stl_tree.specs.declared.program.Op.{Op}
use Rattle.stl_tree.specs.declared.program.Op.TheVariants as op
use Rattle.stl_tree.specs.declared.program.Operand.TheVariants.{Direct}
use Rattle.stl_tree.specs.declared.program.Program.{Program}
use Rattle.stl_tree.specs.declared.raw.RawInstr.{RawInstr}
use Rattle.stl_tree.specs.declared.raw.RawOperand.{RawOperand, out-RawOperand}
use Rattle.stl_tree.specs.declared.raw.RawOperand.TheVariants.{Label, Missing}

-- OB 1 with these instructions, all on line 3
abbrev accepted : List Op → Result Program Rejection
accepted ops =
    Ok (record {
      dbs = [];
      instances = [];
      blocks =
          record {
            name = Ob 1;
            line = record { 0 = 1 };
            formals = [];
            body = map on_line_3 ops ++ record { line = record { 0 = 4 }; op = op.BlockEnd } ∷ [];
          } ∷ [];
      symbols = [];
    })

-- Labels

jump_to_itself :
    verdict (with_body (codes "a: JU a;"))
    ≡ accepted (op.Jump jump.Always 0 ∷ [])
unfolding verdict checked_program raw_text raw_program item_at instruction_of tokens_of
    mnemonic_at mnemonic_named op_of resolved_operand label_of out-RawOperand Carrier.out scope_breaks first_large
jump_to_itself = refl

-- words of the language are labels
words_as_labels :
    verdict (with_body (codes "A: A I 0.0; L: JU A; FB: JU L; JU FB;"))
    ≡ accepted (op.Check check.A (At (Direct area.I 0 0)) ∷ op.Jump jump.Always 0 ∷ op.Jump jump.Always 1 ∷ op.Jump jump.Always 2 ∷ [])
unfolding verdict checked_program raw_text raw_program item_at instruction_of tokens_of
    mnemonic_at mnemonic_named op_of resolved_operand label_of out-RawOperand Carrier.out scope_breaks first_large
words_as_labels = refl

label_before_a_sign :
    verdict (with_body (codes "a: = Q 4.0;"))
    ≡ accepted (op.Assign (Direct area.Q 4 0) ∷ [])
unfolding verdict checked_program raw_text raw_program item_at instruction_of tokens_of
    mnemonic_at mnemonic_named op_of resolved_operand label_of out-RawOperand Carrier.out scope_breaks first_large
label_before_a_sign = refl

case_counts :
    verdict (with_body (codes "a: SET; A: JU a; JU A;"))
    ≡ accepted (op.SetRlo ∷ op.Jump jump.Always 0 ∷ op.Jump jump.Always 1 ∷ [])
unfolding verdict checked_program raw_text raw_program item_at instruction_of tokens_of
    mnemonic_at mnemonic_named op_of resolved_operand label_of out-RawOperand Carrier.out scope_breaks first_large
case_counts = refl

-- what follows a label decides
label_alone : verdict (with_body (codes "a: ;")) ≡ refused 3 BadStatement
unfolding verdict checked_program raw_text raw_program item_at instruction_of tokens_of mnemonic_at
label_alone = refl

label_before_network : verdict (with_body (codes "a: NETWORK SET;")) ≡ refused 3 BadStatement
unfolding verdict checked_program raw_text raw_program item_at instruction_of tokens_of mnemonic_at
label_before_network = refl

label_before_a_timer : verdict (with_body (codes "a: SP T 1;")) ≡ refused 3 (Unsupported Timer)
unfolding verdict checked_program raw_text raw_program item_at instruction_of tokens_of mnemonic_at
label_before_a_timer = refl

label_before_no_mnemonic : verdict (with_body (codes "FB: FOO;")) ≡ refused 3 BadStatement
unfolding verdict checked_program raw_text raw_program item_at instruction_of tokens_of mnemonic_at
label_before_no_mnemonic = refl

two_labels : verdict (with_body (codes "a: A: SET;")) ≡ refused 3 BadStatement
unfolding verdict checked_program raw_text raw_program item_at instruction_of tokens_of mnemonic_at
two_labels = refl

long_label : verdict (with_body (codes "abcde: SET;")) ≡ refused 3 BadStatement
unfolding verdict checked_program raw_text raw_program item_at instruction_of tokens_of mnemonic_at
long_label = refl

label_that_begins_with_a_digit : verdict (with_body (codes "1a: SET;")) ≡ refused 3 BadStatement
unfolding verdict checked_program raw_text raw_program item_at instruction_of tokens_of mnemonic_at
label_that_begins_with_a_digit = refl

long_target : verdict (with_body (codes "JU abcde;")) ≡ refused 3 BadStatement
unfolding verdict checked_program raw_text raw_program item_at instruction_of tokens_of mnemonic_at
long_target = refl

-- Jumps

each_jump :
    verdict (with_body (codes "x: JU x; JC x; JCN x; JCB x; JNB x; JBI x; JNBI x; JO x; JOS x;"))
    ≡ accepted (op.Jump jump.Always 0 ∷ op.Jump (jump.Rlo true) 0 ∷ op.Jump (jump.Rlo false) 0 ∷ op.Jump (jump.RloSaved true) 0
    ∷ op.Jump (jump.RloSaved false) 0 ∷ op.Jump (jump.Br true) 0 ∷ op.Jump (jump.Br false) 0 ∷ op.Jump jump.Overflow 0 ∷ op.Jump jump.StoredOverflow 0 ∷ [])
unfolding verdict checked_program raw_text raw_program item_at instruction_of tokens_of
    mnemonic_at mnemonic_named op_of resolved_operand label_of out-RawOperand Carrier.out scope_breaks first_large
each_jump = refl

each_result :
    verdict (with_body (codes "x: JZ x; JN x; JP x; JM x; JPZ x; JMZ x; JUO x; LOOP x; BEC; BE; BEU;"))
    ≡ accepted (op.Jump (jump.Result test.Eq) 0 ∷ op.Jump (jump.Result test.Ne) 0 ∷ op.Jump (jump.Result test.Gt) 0
    ∷ op.Jump (jump.Result test.Lt) 0 ∷ op.Jump (jump.Result test.Ge) 0 ∷ op.Jump (jump.Result test.Le) 0
    ∷ op.Jump (jump.Result test.Uo) 0 ∷ op.Loop 0 ∷ op.BlockEndIf ∷ op.BlockEnd ∷ op.BlockEnd ∷ [])
unfolding verdict checked_program raw_text raw_program item_at instruction_of tokens_of
    mnemonic_at mnemonic_named op_of resolved_operand label_of out-RawOperand Carrier.out scope_breaks first_large
each_result = refl

jump_list :
    verdict (with_body (codes "JL e; JU a; JU b; e: SET; a: CLR; b: NOT;"))
    ≡ accepted (op.JumpList 2 3 ∷ op.Jump jump.Always 4 ∷ op.Jump jump.Always 5 ∷ op.SetRlo ∷ op.ClearRlo ∷ op.NotRlo ∷ [])
unfolding verdict checked_program raw_text raw_program item_at instruction_of tokens_of
    mnemonic_at mnemonic_named op_of resolved_operand label_of out-RawOperand Carrier.out scope_breaks first_large
jump_list = refl

-- Rules of labels

label_twice : verdict (with_body (codes "a: SET;\na: CLR;")) ≡ refused 4 DuplicateLabel
unfolding verdict checked_program raw_text raw_program item_at instruction_of tokens_of
    mnemonic_at mnemonic_named op_of resolved_operand label_of out-RawOperand Carrier.out scope_breaks first_large
label_twice = refl

no_label : verdict (with_body (codes "JU x;")) ≡ refused 3 UnknownLabel
unfolding verdict checked_program raw_text raw_program item_at instruction_of tokens_of
    mnemonic_at mnemonic_named op_of resolved_operand label_of out-RawOperand Carrier.out scope_breaks first_large
no_label = refl

label_of_another_case : verdict (with_body (codes "a: JU A;")) ≡ refused 3 UnknownLabel
unfolding verdict checked_program raw_text raw_program item_at instruction_of tokens_of
    mnemonic_at mnemonic_named op_of resolved_operand label_of out-RawOperand Carrier.out scope_breaks first_large
label_of_another_case = refl

label_in_a_bracket : verdict (with_body (codes "A(;\na: );")) ≡ refused 4 BracketOpen
unfolding verdict checked_program raw_text raw_program item_at instruction_of tokens_of
    mnemonic_at mnemonic_named op_of resolved_operand label_of out-RawOperand Carrier.out scope_breaks first_large
label_in_a_bracket = refl

jump_in_a_bracket : verdict (with_body (codes "a: A(;\nJU a;\n);")) ≡ refused 4 BracketOpen
unfolding verdict checked_program raw_text raw_program item_at instruction_of tokens_of
    mnemonic_at mnemonic_named op_of resolved_operand label_of out-RawOperand Carrier.out scope_breaks first_large
jump_in_a_bracket = refl

loop_in_a_bracket : verdict (with_body (codes "a: A(;\nLOOP a;\n);")) ≡ refused 4 BracketOpen
unfolding verdict checked_program raw_text raw_program item_at instruction_of tokens_of
    mnemonic_at mnemonic_named op_of resolved_operand label_of out-RawOperand Carrier.out scope_breaks first_large
loop_in_a_bracket = refl

jump_list_in_a_bracket : verdict (with_body (codes "a: A(;\nJL a;\n);")) ≡ refused 4 BracketOpen
unfolding verdict checked_program raw_text raw_program item_at instruction_of tokens_of
    mnemonic_at mnemonic_named op_of resolved_operand label_of out-RawOperand Carrier.out scope_breaks first_large
jump_list_in_a_bracket = refl

end_in_a_bracket : verdict (with_body (codes "a: A(;\nBE;\n);")) ≡ refused 4 BracketOpen
unfolding verdict checked_program raw_text raw_program item_at instruction_of tokens_of
    mnemonic_at mnemonic_named op_of resolved_operand label_of out-RawOperand Carrier.out scope_breaks first_large
end_in_a_bracket = refl

unconditional_end_in_a_bracket : verdict (with_body (codes "a: A(;\nBEU;\n);")) ≡ refused 4 BracketOpen
unfolding verdict checked_program raw_text raw_program item_at instruction_of tokens_of
    mnemonic_at mnemonic_named op_of resolved_operand label_of out-RawOperand Carrier.out scope_breaks first_large
unconditional_end_in_a_bracket = refl

conditional_end_in_a_bracket : verdict (with_body (codes "a: A(;\nBEC;\n);")) ≡ refused 4 BracketOpen
unfolding verdict checked_program raw_text raw_program item_at instruction_of tokens_of
    mnemonic_at mnemonic_named op_of resolved_operand label_of out-RawOperand Carrier.out scope_breaks first_large
conditional_end_in_a_bracket = refl

list_of_none : verdict (with_body (codes "JL d; d: NOP 0;")) ≡ refused 3 BadJumpList
unfolding verdict checked_program raw_text raw_program item_at instruction_of tokens_of
    mnemonic_at mnemonic_named op_of resolved_operand label_of out-RawOperand Carrier.out scope_breaks first_large
list_of_none = refl

list_with_a_label : verdict (with_body (codes "a: JL d; d: JU a;")) ≡ refused 3 BadJumpList
unfolding verdict checked_program raw_text raw_program item_at instruction_of tokens_of
    mnemonic_at mnemonic_named op_of resolved_operand label_of out-RawOperand Carrier.out scope_breaks first_large
list_with_a_label = refl

list_with_a_label_inside : verdict (with_body (codes "JL d; JU d; a: JU d; d: SET;")) ≡ refused 3 BadJumpList
unfolding verdict checked_program raw_text raw_program item_at instruction_of tokens_of
    mnemonic_at mnemonic_named op_of resolved_operand label_of out-RawOperand Carrier.out scope_breaks first_large
list_with_a_label_inside = refl

list_before_another : verdict (with_body (codes "JL d; JU a; a: SET; d: SET;")) ≡ refused 3 BadJumpList
unfolding verdict checked_program raw_text raw_program item_at instruction_of tokens_of
    mnemonic_at mnemonic_named op_of resolved_operand label_of out-RawOperand Carrier.out scope_breaks first_large
list_before_another = refl

list_of_other_jumps : verdict (with_body (codes "JL d; JU d; JC d; d: SET;")) ≡ refused 3 BadJumpList
unfolding verdict checked_program raw_text raw_program item_at instruction_of tokens_of
    mnemonic_at mnemonic_named op_of resolved_operand label_of out-RawOperand Carrier.out scope_breaks first_large
list_of_other_jumps = refl

-- an unknown label comes first on one line
list_without_its_label : verdict (with_body (codes "JL x; JU a; a: SET;")) ≡ refused 3 UnknownLabel
unfolding verdict checked_program raw_text raw_program item_at instruction_of tokens_of
    mnemonic_at mnemonic_named op_of resolved_operand label_of out-RawOperand Carrier.out scope_breaks first_large
list_without_its_label = refl

list_at_the_end : verdict (with_body (codes "JL x;\nJU x;")) ≡ refused 3 UnknownLabel
unfolding verdict checked_program raw_text raw_program item_at instruction_of tokens_of
    mnemonic_at mnemonic_named op_of resolved_operand label_of out-RawOperand Carrier.out scope_breaks first_large
list_at_the_end = refl

-- a label means the first instruction that has it
list_before_the_second_label : verdict (with_body (codes "d: SET;\nJL d;\nJU d;\nd: CLR;")) ≡ refused 4 BadJumpList
unfolding verdict checked_program raw_text raw_program item_at instruction_of tokens_of
    mnemonic_at mnemonic_named op_of resolved_operand label_of out-RawOperand Carrier.out scope_breaks first_large
list_before_the_second_label = refl

-- items come before names, and names before labels
names_come_first : verdict (with_body (codes "JU x;\n\n\nA \"q\";")) ≡ refused 6 UnknownName
unfolding verdict checked_program raw_text raw_program item_at instruction_of tokens_of
    mnemonic_at mnemonic_named op_of resolved_operand label_of out-RawOperand Carrier.out scope_breaks first_large
names_come_first = refl

items_come_first : verdict (with_body (codes "\n\nJU x;\n\n\n\n\n\n\nSP T 1;")) ≡ refused 12 (Unsupported Timer)
unfolding verdict checked_program raw_text raw_program item_at instruction_of tokens_of
    mnemonic_at mnemonic_named op_of resolved_operand label_of out-RawOperand Carrier.out scope_breaks first_large
items_come_first = refl

-- the JU of a jump list: 255 are its most

abbrev instr : Option (List ℕ) → List ℕ → RawOperand → RawInstr
instr label mnemonic o = record { label = label; line = record { 0 = 3 }; op = record { mnemonic = mnemonic; operand = o } }

abbrev list : RawInstr
list = instr None (codes "JL") (Label (codes "d"))

-- so many JU, and an instruction with the label
abbrev jumps : ℕ → List RawInstr
jumps n = replicate n (instr None (codes "JU") (Label (codes "d"))) ++ instr (Some (codes "d")) (codes "SET") Missing ∷ []

most_of_a_list : labels_at (list ∷ jumps 255) 0 list (jumps 255) ≡ []
unfolding mnemonic_named label_of out-RawOperand Carrier.out
most_of_a_list = refl

one_too_many : labels_at (list ∷ jumps 256) 0 list (jumps 256) ≡ rule_break (record { 0 = 3 }) BadJumpList
unfolding mnemonic_named label_of out-RawOperand Carrier.out
one_too_many = refl

-- The verdict, held against worked rows by computing it.
use denote.Hole.Carrier
use Rattle.std.proofs.Common.{◌≡◌, refl, List, [], ◌∷◌, ◌++◌, ℕ, Ok, Err, Result}
use Rattle.std.specs.Prelude.{codes}
use Rattle.s7_base.specs.Tokens.{tokens_of}
use Rattle.s7_base.specs.declared.check.Check.TheVariants as check
use Rattle.memory_areas.specs.declared.place.AreaName.TheVariants as area
use Rattle.status_word.specs.declared.test.Test.TheVariants as test
use Rattle.s7_base.specs.declared.reason.Kind.TheVariants.{Real, Timer}
use Rattle.s7_base.specs.declared.reason.Reason.{Reason}
use Rattle.s7_base.specs.declared.reason.Reason.TheVariants.{BadAddress, BadToken, BadStatement, DuplicateBlock, Unsupported, BracketMissing, BracketOpen, NoBlocks, TooManyBrackets}
use Rattle.s7_base.specs.declared.reason.Rejection.{Rejection}
use Rattle.s7_base.specs.declared.reason.Rejection.TheVariants.{Refused}
use Rattle.stl_grammar.specs.Items.{item_at}
use Rattle.stl_rules.specs.Labels.{label_of}
use Rattle.stl_rules.specs.Programs.{op_of}
use Rattle.stl_rules.specs.Raw.{resolved_operand}
use Rattle.stl_rules.specs.DeclarationRules.{scope_breaks}
use Rattle.stl_rules.specs.TooLarge.{first_large}
use Rattle.stl_statement_grammar.specs.Statements.{instruction_of}
use Rattle.stl_statement_grammar.specs.Mnemonics.{mnemonic_at, mnemonic_named}
use Rattle.stl_grammar.specs.RawPrograms.{raw_program, raw_text}
use Rattle.stl_rules.specs.Verdict.{checked_program, verdict}
use Rattle.stl_tree.specs.declared.program.BitArg.TheVariants.{At, Flag}
use Rattle.memory_areas.specs.declared.call.BlockName.TheVariants.{Ob}
use Rattle.stl_tree.specs.declared.program.Instr.{Instr}
use Rattle.stl_tree.specs.declared.program.Op.{Op}
use Rattle.stl_tree.specs.declared.program.Op.TheVariants as op
use Rattle.stl_tree.specs.declared.program.Operand.TheVariants.{Direct}
use Rattle.stl_tree.specs.declared.program.Program.{Program}
use Rattle.stl_tree.specs.declared.raw.RawOperand.{out-RawOperand}

-- a source with its body on line 3
abbrev pub with_body : List ℕ → List ℕ
with_body body = codes "ORGANIZATION_BLOCK OB 1\nBEGIN\n" ++ body ++ codes "\nEND_ORGANIZATION_BLOCK\n"

abbrev pub refused : ℕ → Reason → Result Program Rejection
refused line reason = Err (Refused (record { 0 = line }) reason)

abbrev pub on_line_3 : Op → Instr
on_line_3 what = record { line = record { 0 = 3 }; op = what }

three_instructions :
    verdict (with_body (codes "A I 0.0; A I 0.1; = Q 4.0;"))
    ≡ Ok (record {
      dbs = [];
      instances = [];
      blocks =
          record {
            name = Ob 1;
            line = record { 0 = 1 };
            formals = [];
            body =
                on_line_3 (op.Check check.A (At (Direct area.I 0 0)))
                ∷ on_line_3 (op.Check check.A (At (Direct area.I 0 1)))
                ∷ on_line_3 (op.Assign (Direct area.Q 4 0))
                ∷ record { line = record { 0 = 4 }; op = op.BlockEnd } ∷ [];
          } ∷ [];
      symbols = [];
    })
unfolding verdict checked_program raw_text raw_program item_at instruction_of tokens_of
    mnemonic_at mnemonic_named op_of resolved_operand label_of out-RawOperand Carrier.out scope_breaks first_large
three_instructions = refl

empty_input : verdict [] ≡ refused 1 NoBlocks
unfolding verdict checked_program raw_text raw_program item_at instruction_of tokens_of mnemonic_at
empty_input = refl

no_mnemonic : verdict (with_body (codes "FOO 5;")) ≡ refused 3 BadStatement
unfolding verdict checked_program raw_text raw_program item_at instruction_of tokens_of mnemonic_at
no_mnemonic = refl

timer_is_left_out : verdict (with_body (codes "SP T 1;")) ≡ refused 3 (Unsupported Timer)
unfolding verdict checked_program raw_text raw_program item_at instruction_of tokens_of mnemonic_at
timer_is_left_out = refl

colon_equals_is_no_label : verdict (with_body (codes "L1:= M 0.0;")) ≡ refused 3 BadStatement
unfolding verdict checked_program raw_text raw_program item_at instruction_of tokens_of mnemonic_at
colon_equals_is_no_label = refl

title_needs_its_line : verdict (with_body (codes "TITLE\n= Q 4.0;")) ≡ refused 3 BadStatement
unfolding verdict checked_program raw_text raw_program item_at instruction_of tokens_of mnemonic_at
title_needs_its_line = refl

blank_before_the_point : verdict (with_body (codes "A I 0 .0;")) ≡ refused 3 BadStatement
unfolding verdict checked_program raw_text raw_program item_at instruction_of tokens_of mnemonic_at
blank_before_the_point = refl

byte_past_the_inputs : verdict (with_body (codes "A I 2048.0;")) ≡ refused 3 BadAddress
unfolding verdict checked_program raw_text raw_program item_at instruction_of tokens_of
    mnemonic_at mnemonic_named op_of resolved_operand label_of out-RawOperand Carrier.out scope_breaks first_large
byte_past_the_inputs = refl

bit_eight : verdict (with_body (codes "A I 0.8;")) ≡ refused 3 BadAddress
unfolding verdict checked_program raw_text raw_program item_at instruction_of tokens_of
    mnemonic_at mnemonic_named op_of resolved_operand label_of out-RawOperand Carrier.out scope_breaks first_large
bit_eight = refl

network_is_skipped : verdict (with_body (codes "NETWORK\n);")) ≡ refused 4 BracketMissing
unfolding verdict checked_program raw_text raw_program item_at instruction_of tokens_of
    mnemonic_at mnemonic_named op_of resolved_operand label_of out-RawOperand Carrier.out scope_breaks first_large
network_is_skipped = refl

section_in_a_body : verdict (with_body (codes "VAR_TEMP")) ≡ refused 3 BadStatement
unfolding verdict checked_program raw_text raw_program item_at instruction_of tokens_of mnemonic_at
section_in_a_body = refl

statement_is_cut_off : verdict (with_body (codes "A I 0.0")) ≡ refused 3 BadStatement
unfolding verdict checked_program raw_text raw_program item_at instruction_of tokens_of mnemonic_at
statement_is_cut_off = refl

typed_sign_is_a_mnemonic : verdict (with_body (codes "+R;")) ≡ refused 3 (Unsupported Real)
unfolding verdict checked_program raw_text raw_program item_at instruction_of tokens_of mnemonic_at
typed_sign_is_a_mnemonic = refl

typed_sign_with_a_blank : verdict (with_body (codes "-{x} I;")) ≡ refused 3 BadStatement
unfolding verdict checked_program raw_text raw_program item_at instruction_of tokens_of mnemonic_at
typed_sign_with_a_blank = refl

bad_token_comes_first : verdict (with_body (codes "FOO 5;\n\"open")) ≡ refused 4 BadToken
unfolding verdict checked_program raw_text raw_program item_at instruction_of tokens_of mnemonic_at
bad_token_comes_first = refl

body_is_missing : verdict (codes "ORGANIZATION_BLOCK OB 1\n") ≡ refused 2 BadStatement
unfolding verdict checked_program raw_text raw_program item_at instruction_of tokens_of mnemonic_at
body_is_missing = refl

text_ends_in_the_body : verdict (codes "ORGANIZATION_BLOCK OB 1\nBEGIN\n") ≡ refused 3 BadStatement
unfolding verdict checked_program raw_text raw_program item_at instruction_of tokens_of mnemonic_at
text_ends_in_the_body = refl

heading_is_cut_off : verdict (codes "ORGANIZATION_BLOCK\nOB") ≡ refused 1 BadStatement
unfolding verdict checked_program raw_text raw_program item_at instruction_of tokens_of mnemonic_at
heading_is_cut_off = refl

block_zero : verdict (codes "ORGANIZATION_BLOCK OB 0 BEGIN END_ORGANIZATION_BLOCK") ≡ refused 1 BadAddress
unfolding verdict checked_program raw_text raw_program item_at instruction_of tokens_of
    mnemonic_at mnemonic_named op_of resolved_operand label_of out-RawOperand Carrier.out scope_breaks first_large
block_zero = refl

second_block_of_a_number :
    verdict (codes "ORGANIZATION_BLOCK OB 1 BEGIN END_ORGANIZATION_BLOCK\nORGANIZATION_BLOCK OB 01 BEGIN\nEND_ORGANIZATION_BLOCK")
    ≡ refused 2 DuplicateBlock
unfolding verdict checked_program raw_text raw_program item_at instruction_of tokens_of
    mnemonic_at mnemonic_named op_of resolved_operand label_of out-RawOperand Carrier.out scope_breaks first_large
second_block_of_a_number = refl

function_is_cut_off : verdict (codes "FUNCTION FC 1 : VOID") ≡ refused 1 BadStatement
unfolding verdict checked_program raw_text raw_program item_at instruction_of tokens_of mnemonic_at
function_is_cut_off = refl

function_word_alone : verdict (codes "FUNCTION") ≡ refused 1 BadStatement
unfolding verdict checked_program raw_text raw_program item_at instruction_of tokens_of mnemonic_at
function_word_alone = refl

function_without_its_type : verdict (codes "FUNCTION FC 1 :") ≡ refused 1 BadStatement
unfolding verdict checked_program raw_text raw_program item_at instruction_of tokens_of mnemonic_at
function_without_its_type = refl

function_named_in_quotes : verdict (codes "FUNCTION \"x\"") ≡ refused 1 BadStatement
unfolding verdict checked_program raw_text raw_program item_at instruction_of tokens_of mnemonic_at
function_named_in_quotes = refl

data_block_without_its_number : verdict (codes "DATA_BLOCK DB") ≡ refused 1 BadStatement
unfolding verdict checked_program raw_text raw_program item_at instruction_of tokens_of mnemonic_at
data_block_without_its_number = refl

function_block_is_cut_off : verdict (codes "FUNCTION_BLOCK FB1") ≡ refused 1 BadStatement
unfolding verdict checked_program raw_text raw_program item_at instruction_of tokens_of mnemonic_at
function_block_is_cut_off = refl

second_block_is_cut_off : verdict (codes "ORGANIZATION_BLOCK OB 1\nBEGIN\nEND_ORGANIZATION_BLOCK\nORGANIZATION_BLOCK") ≡ refused 4 BadStatement
unfolding verdict checked_program raw_text raw_program item_at instruction_of tokens_of mnemonic_at
second_block_is_cut_off = refl

second_block : verdict (codes "ORGANIZATION_BLOCK OB 1\nBEGIN\nEND_ORGANIZATION_BLOCK\nDATA_BLOCK DB 1") ≡ refused 4 BadStatement
unfolding verdict checked_program raw_text raw_program item_at instruction_of tokens_of mnemonic_at
second_block = refl

semicolon_behind_the_end : verdict (codes "ORGANIZATION_BLOCK OB 1\nBEGIN\nEND_ORGANIZATION_BLOCK;") ≡ refused 3 BadStatement
unfolding verdict checked_program raw_text raw_program item_at instruction_of tokens_of mnemonic_at
semicolon_behind_the_end = refl

comment_alone : verdict (codes "// nothing here\n") ≡ refused 1 NoBlocks
unfolding verdict checked_program raw_text raw_program item_at instruction_of tokens_of mnemonic_at
comment_alone = refl

-- words in any case, numbers with leading zeros, titles, attributes and empty statements
spelled_freely :
    verdict (codes "organization_block ob01 {x} title == it's\nBegin ;a i0.07;; END_organization_BLOCK")
    ≡ Ok (record {
      dbs = [];
      instances = [];
      blocks =
          record {
            name = Ob 1;
            line = record { 0 = 1 };
            formals = [];
            body =
                record { line = record { 0 = 2 }; op = op.Check check.A (At (Direct area.I 0 7)) }
                ∷ record { line = record { 0 = 2 }; op = op.BlockEnd } ∷ [];
          } ∷ [];
      symbols = [];
    })
unfolding verdict checked_program raw_text raw_program item_at instruction_of tokens_of
    mnemonic_at mnemonic_named op_of resolved_operand label_of out-RawOperand Carrier.out scope_breaks first_large
spelled_freely = refl

-- brackets

bracket_is_missing : verdict (with_body (codes ");")) ≡ refused 3 BracketMissing
unfolding verdict checked_program raw_text raw_program item_at instruction_of tokens_of
    mnemonic_at mnemonic_named op_of resolved_operand label_of out-RawOperand Carrier.out scope_breaks first_large
bracket_is_missing = refl

bracket_is_open : verdict (with_body (codes "A(;")) ≡ refused 4 BracketOpen
unfolding verdict checked_program raw_text raw_program item_at instruction_of tokens_of
    mnemonic_at mnemonic_named op_of resolved_operand label_of out-RawOperand Carrier.out scope_breaks first_large
bracket_is_open = refl

bracket_is_closed :
    verdict (with_body (codes "O(;\nO;\n);"))
    ≡ Ok (record {
      dbs = [];
      instances = [];
      blocks =
          record {
            name = Ob 1;
            line = record { 0 = 1 };
            formals = [];
            body =
                on_line_3 (op.Bracket check.O)
                ∷ record { line = record { 0 = 4 }; op = op.OrAlone }
                ∷ record { line = record { 0 = 5 }; op = op.Close }
                ∷ record { line = record { 0 = 6 }; op = op.BlockEnd } ∷ [];
          } ∷ [];
      symbols = [];
    })
unfolding verdict checked_program raw_text raw_program item_at instruction_of tokens_of
    mnemonic_at mnemonic_named op_of resolved_operand label_of out-RawOperand Carrier.out scope_breaks first_large
bracket_is_closed = refl

-- eight brackets, and as many that close them: the eighth is open all the same
eight_brackets : verdict (with_body (codes "A(;\nA(;\nA(;\nA(;\nA(;\nA(;\nA(;\nA(;\n););););););););")) ≡ refused 10 TooManyBrackets
unfolding verdict checked_program raw_text raw_program item_at instruction_of tokens_of
    mnemonic_at mnemonic_named op_of resolved_operand label_of out-RawOperand Carrier.out scope_breaks first_large
eight_brackets = refl

-- of the broken rules of a stage the least line is named, and on one line the least number
least_line : verdict (with_body (codes ");\nA(;A(;A(;A(;A(;A(;A(;A(;")) ≡ refused 3 BracketMissing
unfolding verdict checked_program raw_text raw_program item_at instruction_of tokens_of
    mnemonic_at mnemonic_named op_of resolved_operand label_of out-RawOperand Carrier.out scope_breaks first_large
least_line = refl

least_number : verdict (codes "ORGANIZATION_BLOCK OB 1 BEGIN A(;A(;A(;A(;A(;A(;A(;A(; END_ORGANIZATION_BLOCK") ≡ refused 1 BracketOpen
unfolding verdict checked_program raw_text raw_program item_at instruction_of tokens_of
    mnemonic_at mnemonic_named op_of resolved_operand label_of out-RawOperand Carrier.out scope_breaks first_large
least_number = refl

-- an item that does not fit comes before a bracket that is missing
misfit_comes_first : verdict (with_body (codes ");\nFOO;")) ≡ refused 4 BadStatement
unfolding verdict checked_program raw_text raw_program item_at instruction_of tokens_of
    mnemonic_at mnemonic_named op_of resolved_operand label_of out-RawOperand Carrier.out scope_breaks first_large
misfit_comes_first = refl

each_form :
    verdict (with_body (codes "X ==0; S Q 0.0; R M 1.7; SET; CLR; NOT; SAVE; FP M 0.1; FN M 0.2; NOP 255; BLD 3;"))
    ≡ Ok (record {
      dbs = [];
      instances = [];
      blocks =
          record {
            name = Ob 1;
            line = record { 0 = 1 };
            formals = [];
            body =
                on_line_3 (op.Check check.X (Flag test.Eq)) ∷ on_line_3 (op.Set (Direct area.Q 0 0)) ∷ on_line_3 (op.Reset (Direct area.M 1 7))
                ∷ on_line_3 op.SetRlo ∷ on_line_3 op.ClearRlo ∷ on_line_3 op.NotRlo ∷ on_line_3 op.Save
                ∷ on_line_3 (op.EdgeUp (Direct area.M 0 1)) ∷ on_line_3 (op.EdgeDown (Direct area.M 0 2)) ∷ on_line_3 op.Nop ∷ on_line_3 op.Nop
                ∷ record { line = record { 0 = 4 }; op = op.BlockEnd } ∷ [];
          } ∷ [];
      symbols = [];
    })
unfolding verdict checked_program raw_text raw_program item_at instruction_of tokens_of
    mnemonic_at mnemonic_named op_of resolved_operand label_of out-RawOperand Carrier.out scope_breaks first_large
each_form = refl

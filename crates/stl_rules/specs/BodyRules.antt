-- The rules of bodies: brackets, labels and jump lists, and how many instructions and formals there may be.
-- Held against: this project's own rules.
use Rattle.std.specs.Prelude.{ℕ, zero, suc, ◌+◌, Bool, true, false, ◌==◌, ◌&&◌, not, nat_le, nat_lt, if◌then◌else◌, List, [], ◌∷◌, ◌++◌, length, slice_get, Option, Some, None}
use Rattle.nesting_stack.specs.Entries.{most_open}
use Rattle.s7_base.specs.Broken.{rule_break}
use Rattle.s7_base.specs.declared.rule_break.Break.{Break}
use Rattle.s7_base.specs.declared.reason.Line.{Line}
use Rattle.s7_base.specs.declared.reason.Reason.{Reason}
use Rattle.s7_base.specs.declared.reason.Reason.TheVariants.{BadJumpList, BracketMissing, BracketOpen, DuplicateLabel, TooManyBrackets, TooManyInstructions, TooManyParameters, UnknownLabel}
use Rattle.stl_rules.specs.Interfaces.{formals_declared}
use Rattle.stl_rules.specs.Labels.{label_of, listed_in, most_listed, target_in}
use Rattle.stl_statement_grammar.specs.Mnemonics.{mnemonic_named}
use Rattle.stl_statement_grammar.specs.declared.mnemonic.Mnemonic.{Mnemonic}
use Rattle.stl_statement_grammar.specs.declared.mnemonic.Mnemonic.TheVariants as is
use Rattle.stl_tree.specs.declared.program.Mode.{Mode}
use Rattle.stl_tree.specs.declared.raw.Declaration.{Declaration}
use Rattle.stl_tree.specs.declared.raw.RawBlock.{RawBlock}
use Rattle.stl_tree.specs.declared.raw.RawInstr.{RawInstr}

-- the rule that is broken on a line where a condition is true
abbrev pub broken_if : Bool → Line → Reason → List Break
broken_if true line rule = rule_break line rule
broken_if false line rule = []

-- Brackets

-- the rule that is broken where brackets are open at a label, a jump or an end
abbrev pub none_open : Line → ℕ → List Break
none_open line zero = []
none_open line (suc n) = rule_break line BracketOpen

-- the rule that an instruction breaks before which this many brackets are open: a bracket opens where there is no
-- room for it, one closes where none is open, or one is open at a jump, a call or the end of a block
abbrev pub brackets_at : Line → Option Mnemonic → ℕ → List Break
brackets_at line (Some (is.Bracket c)) n = if nat_lt n most_open then [] else rule_break line TooManyBrackets
brackets_at line (Some is.Close) zero = rule_break line BracketMissing
brackets_at line (Some (is.Jump test)) n = none_open line n
brackets_at line (Some is.Loop) n = none_open line n
brackets_at line (Some is.JumpList) n = none_open line n
brackets_at line (Some is.BlockEnd) n = none_open line n
brackets_at line (Some is.BlockEndIf) n = none_open line n
brackets_at line (Some is.Call) n = none_open line n
brackets_at line (Some is.CallAlone) n = none_open line n
brackets_at line (Some is.CallIf) n = none_open line n
brackets_at line other n = []

-- the rule that is broken where a bracket is open at a label
abbrev pub label_closed : Line → Option (List ℕ) → ℕ → List Break
label_closed line None n = []
label_closed line (Some label) n = none_open line n

-- how many brackets are open after an instruction; one for which there is no room is open too
abbrev pub open_then : Option Mnemonic → ℕ → ℕ
open_then (Some (is.Bracket c)) n = suc n
open_then (Some is.Close) zero = zero
open_then (Some is.Close) (suc n) = n
open_then other n = n

-- the rules of brackets that instructions break before which this many brackets are open, where the block ends on a
-- line
abbrev pub brackets_from : Line → ℕ → List RawInstr → List Break
brackets_from end n [] = none_open end n
brackets_from end n (raw ∷ rest) =
    let what = mnemonic_named raw.op.mnemonic in
    label_closed raw.line raw.label n ++ brackets_at raw.line what n ++ brackets_from end (open_then what n) rest

-- Labels

-- the rule that the label of an instruction at a position breaks: an instruction before it has it too
abbrev pub label_breaks : List RawInstr → ℕ → Line → Option (List ℕ) → List Break
label_breaks body at line None = []
label_breaks body at line (Some label) = broken_if (nat_lt (target_in body label) at) line DuplicateLabel

-- the rule that a jump to a label breaks: no instruction of the body has it
abbrev pub target_breaks : List RawInstr → Line → Option (List ℕ) → List Break
target_breaks body line None = []
target_breaks body line (Some label) = broken_if (not (nat_lt (target_in body label) (length body))) line UnknownLabel

-- so many JU come after a jump list at a position, and directly after them an instruction at the position of its label
abbrev pub is_list : List RawInstr → ℕ → ℕ → ℕ → Bool
is_list body at count target =
    nat_le 1 count && nat_le count most_listed && target == at + 1 + count && nat_lt target (length body)

-- the rule that a jump list at a position breaks, by its label and the number of JU after it
abbrev pub list_breaks : List RawInstr → ℕ → ℕ → Line → Option (List ℕ) → Option Mnemonic → List Break
list_breaks body at count line None what = []
list_breaks body at count line (Some label) (Some is.JumpList) =
    broken_if (not (is_list body at count (target_in body label))) line BadJumpList
list_breaks body at count line (Some label) other = []

-- the rules of labels that an instruction at a position of a body breaks, before these instructions
abbrev pub labels_at : List RawInstr → ℕ → RawInstr → List RawInstr → List Break
labels_at body at raw rest =
    label_breaks body at raw.line raw.label ++ target_breaks body raw.line (label_of raw.op.operand)
    ++ list_breaks body at (listed_in rest) raw.line (label_of raw.op.operand) (mnemonic_named raw.op.mnemonic)

-- those that the instructions of a body break from a position on
abbrev pub labels_from : List RawInstr → ℕ → List RawInstr → List Break
labels_from body at [] = []
labels_from body at (raw ∷ rest) = labels_at body at raw rest ++ labels_from body (at + 1) rest

-- How many there are

-- the most instructions of a body before its end word
abbrev pub most_instructions : ℕ
most_instructions = 32768

-- the rule that is broken where there is an instruction too many
abbrev pub instruction_too_many : Option RawInstr → List Break
instruction_too_many None = []
instruction_too_many (Some raw) = rule_break raw.line TooManyInstructions

-- the most formals of a block
abbrev pub most_formals : ℕ
most_formals = 64

-- the rule that is broken where there is a formal too many
abbrev pub formal_too_many : Option (Mode × Declaration) → List Break
formal_too_many None = []
formal_too_many (Some formal) = rule_break formal.1.line TooManyParameters

-- Bodies

-- the rules that the body of a block breaks
abbrev pub body_breaks : RawBlock → List Break
body_breaks raw =
    brackets_from raw.end_line 0 raw.body ++ labels_from raw.body 0 raw.body
    ++ instruction_too_many (slice_get raw.body most_instructions)
    ++ formal_too_many (slice_get (formals_declared raw) most_formals)

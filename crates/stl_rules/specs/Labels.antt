-- Labels. Where the first instruction with a label is, and which instructions belong to a jump list.
-- Held against: the manual's chapter 'Logic Control'.
use Rattle.std.specs.Prelude.{ℕ, Bool, true, false, ◌&&◌, nat_eq, min, List, Option, Some, None, is_none}
use Rattle.std.specs.Cmp.Lexicographic.{pointwise}
use Rattle.std.specs.List.{position_or_len, prefix_len}
use Rattle.stl_statement_grammar.specs.Mnemonics.{mnemonic_named}
use Rattle.stl_statement_grammar.specs.declared.mnemonic.Mnemonic.{Mnemonic}
use Rattle.stl_statement_grammar.specs.declared.mnemonic.Mnemonic.TheVariants as is
use Rattle.stl_tree.specs.declared.program.JumpTest.TheVariants as jump
use Rattle.stl_tree.specs.declared.raw.RawActual.{RawActual}
use Rattle.stl_tree.specs.declared.raw.RawCall.{RawCall}
use Rattle.stl_tree.specs.declared.raw.RawInstr.{RawInstr}
use Rattle.stl_tree.specs.declared.raw.RawOperand.{RawOperand, RawOperand-F, out-RawOperand}
use Rattle.stl_tree.specs.declared.raw.RawOperand.TheOpen as layer

-- an instruction with a label or none has this one, in the same case
abbrev pub is_same_label : List ℕ → Option (List ℕ) → Bool
is_same_label label None = false
is_same_label label (Some own) = pointwise nat_eq label own

abbrev pub has_label : List ℕ → RawInstr → Bool
has_label label raw = is_same_label label raw.label

-- the position of the first instruction of a body that has a label; the length of the body where none has it
abbrev pub target_in : List RawInstr → List ℕ → ℕ
target_in body label = position_or_len (has_label label) body

-- the label that an operand names
abbrev pub label_in : RawOperand-F RawOperand RawActual RawCall → Option (List ℕ)
label_in (layer.Label label) = Some label
label_in other = None

unfoldable pub label_of : RawOperand → Option (List ℕ)
label_of operand = label_in (out-RawOperand operand)

-- Jump lists

-- the most JU in a jump list
abbrev pub most_listed : ℕ
most_listed = 255

-- a mnemonic is JU
abbrev pub is_always : Option Mnemonic → Bool
is_always (Some (is.Jump jump.Always)) = true
is_always other = false

-- an instruction is a JU without a label
abbrev pub is_listed : RawInstr → Bool
is_listed raw = is_none raw.label && is_always (mnemonic_named raw.op.mnemonic)

-- how many JU without a label come first among some instructions
abbrev pub listed_in : List RawInstr → ℕ
listed_in rest = prefix_len is_listed rest

-- how many of them a jump list has before these instructions: at most as many as there may be
abbrev pub list_count : List RawInstr → ℕ
list_count rest = min (listed_in rest) most_listed

-- Operands that are found in memory. A written place, a name, or an area and a pointer; and constants that may stand in
-- their place. Listed forms that are not supported are named, whatever follows them.
-- Held against: each chapter of the manual.
use Rattle.std.specs.Prelude.{ℕ, Bool, true, false, ◌&&◌, ◌||◌, List, [], ◌∷◌, ◌++◌, codes, Option, Some, None}
use Rattle.std.specs.List.{find}
use Rattle.s7_base.specs.declared.reason.Kind.{Kind}
use Rattle.s7_base.specs.declared.reason.Kind.TheVariants as kind
use Rattle.s7_base.specs.declared.token.Token.{Token}
use Rattle.stl_statement_grammar.specs.BlockNames.{is_numbered}
use Rattle.stl_statement_grammar.specs.Constants.{constant_at}
use Rattle.digit_texts.specs.Digits.{are_digits}
use Rattle.stl_statement_grammar.specs.Paths.{named_at}
use Rattle.stl_statement_grammar.specs.Places.{place_at}
use Rattle.stl_statement_grammar.specs.Pointers.{crossing_at, indirect_at, pointer_at}
use Rattle.stl_statement_grammar.specs.Readers.{or_else, read_as}
use Rattle.stl_statement_grammar.specs.Words.{is_sign, is_word, is_word_kind}
use Rattle.stl_statement_grammar.specs.declared.mnemonic.Read.{Read}
use Rattle.stl_statement_grammar.specs.declared.mnemonic.Read.TheVariants.{LeftOut, No}
use Rattle.stl_tree.specs.declared.raw.RawOperand.{RawOperand}
use Rattle.stl_tree.specs.declared.raw.RawOperand.TheVariants.{At, Constant, Pointer}
use Rattle.stl_tree.specs.declared.raw.RawPlace.{RawPlace}

-- Forms of places that are not supported

-- a form of a place that is not supported: a word with a number, or with a bracket where it may be indirect, and its
-- kind
pub record NamedForm : Type 0 where
  pub word : List ℕ
  pub is_indirect : Bool
  pub kind : Kind

-- a form that is not supported and whose operand is a number alone
abbrev pub direct : List ℕ → Kind → NamedForm
direct word kind = record { word = word; is_indirect = false; kind = kind }

-- a word of the peripheral inputs or outputs
abbrev pub peripheral : List ℕ → NamedForm
peripheral word = record { word = word; is_indirect = true; kind = kind.Peripheral }

-- the forms of timers and counters
abbrev pub timers_and_counters : List NamedForm
timers_and_counters = direct (codes "T") kind.Timer ∷ direct (codes "C") kind.Counter ∷ []

-- the forms of timers, counters, and the peripheral inputs and outputs
abbrev pub left_out_forms : List NamedForm
left_out_forms =
    timers_and_counters
    ++ (peripheral (codes "PIB") ∷ peripheral (codes "PIW") ∷ peripheral (codes "PID")
    ∷ peripheral (codes "PQB") ∷ peripheral (codes "PQW") ∷ peripheral (codes "PQD") ∷ [])

-- the tokens after the word of a form that is not supported: a number, or a bracket
abbrev pub is_named : NamedForm → List Token → Bool
is_named form [] = false
is_named form (next ∷ rest) =
    (is_word_kind next.kind && are_digits next.text) || (form.is_indirect && is_sign (codes "[") next)

-- the tokens begin with a form that is not supported, in one word or in two
abbrev pub has_form : List Token → NamedForm → Bool
has_form [] form = false
has_form (first ∷ rest) form = (is_word form.word first && is_named form rest) || is_numbered form.word first

-- Operands

abbrev pub left_out_by : Option NamedForm → Read RawPlace
left_out_by None = No
left_out_by (Some form) = LeftOut form.kind

-- a form of a table that is not supported
abbrev pub left_out_at : List NamedForm → List Token → Read RawPlace
left_out_at table tokens = left_out_by (find (has_form tokens) table)

-- the operand at a place where a place of memory may be written
abbrev pub place_operand : List Token → Read RawPlace
place_operand tokens = or_else (place_at tokens) (left_out_at left_out_forms tokens)

-- the operand at a place where a place of memory, a name, or an area and a pointer may be written
abbrev pub placed_at : List Token → Read RawOperand
placed_at tokens = or_else (read_as At (place_operand tokens)) (or_else (named_at tokens) (indirect_at tokens))

-- the operand at a place where a place of memory, a name or a pointer, with or without an area, may be written
abbrev pub located_at : List Token → Read RawOperand
located_at tokens = or_else (placed_at tokens) (crossing_at tokens)

-- Constants

-- a constant as an operand, also that of a pointer
abbrev pub any_constant_at : List Token → Read RawOperand
any_constant_at tokens = or_else (read_as Constant (constant_at tokens)) (read_as Pointer (pointer_at tokens))

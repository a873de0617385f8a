-- The shapes of operands, as the code takes them in two.
use Rattle.stl_statement_grammar.specs.declared.mnemonic.OperandForm.{OperandForm}
use Rattle.stl_statement_grammar.specs.declared.mnemonic.OperandForm.TheVariants as shape

-- an operand of this form is neither a place, nor a name, nor a block
abbrev pub IsPlainForm : OperandForm → Type 0
IsPlainForm shape.Bit = ⊥
IsPlainForm shape.Checked = ⊥
IsPlainForm shape.CheckedOrNothing = ⊥
IsPlainForm shape.Loaded = ⊥
IsPlainForm shape.Stored = ⊥
IsPlainForm (shape.PointerLoaded r) = ⊥
IsPlainForm (shape.PointerStored r) = ⊥
IsPlainForm shape.Opened = ⊥
IsPlainForm shape.Label = ⊥
IsPlainForm shape.Called = ⊥
IsPlainForm shape.CalledAlone = ⊥
IsPlainForm other = Unit {0}

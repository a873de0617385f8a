-- What the code reads of a statement, before the mnemonic's name is made.
use Rattle.std.specs.Prelude.{◌≡◌, Result, Ok, Err}
use Rattle.s7_base.specs.declared.reason.Reason.{Reason}
use Rattle.stl_mnemonics.specs.declared.table.Row.{Row}
use Rattle.stl_mnemonics.specs.Rows.{view}
use Rattle.stl_statement_grammar.specs.Statements.{name_of}
use Rattle.stl_tree.specs.declared.raw.RawOp.{RawOp}
use Rattle.stl_tree.specs.declared.raw.RawOperand.{RawOperand}

-- a mnemonic and an operand that were read are those of the statement, or it is refused for the same reason
abbrev pub Says : Result (Row × RawOperand) Reason → Result RawOp Reason → Type 0
Says (Ok found) said = said ≡ Ok (record { mnemonic = name_of (view found.0); operand = found.1 })
Says (Err reason) said = said ≡ Err reason

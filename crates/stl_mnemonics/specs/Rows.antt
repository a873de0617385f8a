-- The rows of the code's table as those of the definition.
use Rattle.stl_mnemonics.specs.declared.table.Row.{Row as Found}
use Rattle.stl_statement_grammar.specs.Mnemonics.{Row}

-- a line of the table of mnemonics, as the definition has it
abbrev pub view : Found → Row
view row = record { first = row.0.now; second = row.1.now; what = row.2 }

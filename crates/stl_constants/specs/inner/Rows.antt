-- The rows of the code's table of prefixes as those of the definition.
use Rattle.stl_constants.specs.declared.constant.Prefixed.{Prefixed as FoundPrefix}
use Rattle.stl_statement_grammar.specs.Constants.{Prefixed}

-- a word before a `#`, as the definition has it
abbrev pub prefixed_of : FoundPrefix → Prefixed
prefixed_of row = record { word = row.0.now; what = row.1 }

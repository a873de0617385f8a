-- The rows of the code's tables as texts with what they spell.
use Rattle.std.specs.Prelude.{ℕ, List}
use Rattle.st_grammar.specs.declared.kind.Fixed.{Fixed}
use Rattle.st_grammar.specs.declared.kind.Word.{Word}
use Rattle.st_token_kinds.specs.declared.words.SignRow.{SignRow}
use Rattle.st_token_kinds.specs.declared.words.WordRow.{WordRow}

-- a line of the code's table of words, as the definition has it
abbrev pub word_shown : WordRow → List ℕ × Word
word_shown row = (row.0.now, row.1)

abbrev pub sign_shown : SignRow → List ℕ × Fixed
sign_shown row = (row.0.now, row.1)

-- an entry of a table with its text
abbrev pub with_text : {X : Type 0} → (X → List ℕ) → X → List ℕ × X
with_text text x = (text x, x)

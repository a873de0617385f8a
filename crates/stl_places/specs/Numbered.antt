-- Letters with a number, as `numbered_at` gives them.
use Rattle.stl_places.specs.declared.place.Numbered.{Numbered as FoundNumber}
use Rattle.stl_statement_grammar.specs.Places.{Numbered}

-- letters with a number after them, as the definition has them
abbrev pub numbered_of : FoundNumber → Numbered
numbered_of found = record { letters = found.letters.now; number = found.number }

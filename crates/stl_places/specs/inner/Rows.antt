-- The rows of the code's table of places as those of the definition.
use Rattle.stl_places.specs.declared.place.PlaceWord.{PlaceWord as FoundWord}
use Rattle.stl_statement_grammar.specs.Places.{PlaceWord}

-- the word of a place, as the definition has it
abbrev pub place_word_of : FoundWord → PlaceWord
place_word_of row = record { word = row.word.now; area = row.area; width = row.width }

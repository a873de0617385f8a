use Rattle.std.proofs.Common.{◌∙◌, ap, Option}
use Rattle.std.specs.Prelude.{option_map}
use Rattle.stl_statement_grammar.specs.Places.{has_letters}
use Rattle.stl_places.specs.declared.place.PlaceWord.{PlaceWord}
use Rattle.stl_places.specs.inner.Rows.{place_word_of}
use Rattle.stl_constants.proofs.Tables.{find_map}
use Rattle.stl_places.proofs.place.first_word.Goals as goal

pub returns : goal.returns
returns c =
    ap (λ (o : Option PlaceWord). option_map place_word_of o) c.word_found.ensures ∙ find_map place_word_of (has_letters c.args.letters.now) c.args.table.now

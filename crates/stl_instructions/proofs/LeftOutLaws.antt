-- A place is read as an operand exactly where one of its forms stands; what is left out has none.
use Rattle.std.proofs.Common.{◌≡◌, ℕ, false, List, ◌∷◌, length, Option, Some, None, ap, ◌∙◌}
use Rattle.std.proofs.lemmas.Bool.{and_left, or_from}
use Rattle.std.specs.List.{find}
use Rattle.s7_base.specs.declared.token.Token.{Token}
use Rattle.stl_constants.proofs.Reading.{AllOf, or_all, or_no, or_this}
use Rattle.stl_constants.proofs.Tables.{none_found}
use Rattle.stl_places.proofs.Fronts.{front_all}
use Rattle.stl_places.proofs.NoPlaces.{no_numbered}
use Rattle.stl_places.proofs.PlaceLaws.{no_place_at, place_alone_read, place_front}
use Rattle.stl_statement_grammar.specs.PlaceForms.{IsPlace}
use Rattle.stl_statement_grammar.specs.Places.{place_at}
use Rattle.stl_statement_grammar.specs.LocatedOperands.{NamedForm, has_form, left_out_at, left_out_by, left_out_forms, place_operand}
use Rattle.stl_statement_grammar.specs.Words.{is_word_kind}
use Rattle.stl_statement_grammar.specs.declared.mnemonic.Read.TheVariants.{Fits, No}
use Rattle.stl_tree.specs.declared.raw.RawPlace.{RawPlace}

-- From what is read to its form

-- what is left out has no form
pub left_out_all : (n : ℕ) (P : RawPlace → Type 0) (table : List NamedForm) (tokens : List Token) → AllOf n P (left_out_at table tokens)
left_out_all n P table tokens = by (find (has_form tokens) table)
  where
    by : (o : Option NamedForm) → AllOf n P (left_out_by o)
    by None = tt
    by (Some form) = tt

pub place_all : (tokens : List Token) → AllOf (length tokens) (IsPlace tokens) (place_operand tokens)
place_all tokens =
    or_all (length tokens) (IsPlace tokens) (place_at tokens) (left_out_at left_out_forms tokens)
    (front_all tokens IsPlace (place_at tokens) (place_front tokens))
    (left_out_all (length tokens) (IsPlace tokens) left_out_forms tokens)

-- From a form to what is read of it

pub place_read : (tokens : List Token) (place : RawPlace) → IsPlace tokens place → place_operand tokens ≡ Fits place (length tokens)
place_read tokens place is = or_this (place_at tokens) (left_out_at left_out_forms tokens) place (length tokens) (place_alone_read tokens place is)

-- Where no word stands neither does a place

pub no_place : (first : Token) (rest : List Token) → is_word_kind first.kind ≡ false → place_operand (first ∷ rest) ≡ No
no_place first rest h =
    or_no (place_at (first ∷ rest)) (left_out_at left_out_forms (first ∷ rest)) (no_place_at (first ∷ rest) (no_numbered first rest h))
    ∙ ap left_out_by (none_found (has_form (first ∷ rest)) left_out_forms no_form)
  where
    no_form : (form : NamedForm) → has_form (first ∷ rest) form ≡ false
    no_form form = or_from _ _ (and_left _ _ (and_left _ _ h)) (and_left _ _ (and_left _ _ h))

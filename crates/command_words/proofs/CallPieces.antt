-- The first piece of a text, and the actuals of the others.
use Rattle.std.proofs.Common.{◌≡◌, refl, ℕ, suc, ◌+◌, ◌<◌, Bool, true, false, not, ◌==◌, cond, List, [], ◌∷◌, ◌++◌, length, take, drop, ap, ◌∙◌, sym, Option, Some, None, arith}
use Rattle.std.specs.Prelude.{option_map, option_and_then, if◌then◌else◌}
use Rattle.std.specs.List.{prefix_len}
use Rattle.std.proofs.lemmas.List.{append_assoc, append-nil}
use Rattle.memory_areas.specs.declared.place.Place.{Place}
use Rattle.s7_base.specs.declared.word.Width.{Width}
use Rattle.command_words.specs.CallWord.{with_byte, pieces, actual_of, actuals_in}

-- Pieces

-- how many bytes stand before the first comma
abbrev pub first_size : List ℕ → ℕ
first_size text = prefix_len (λ b. not (b == 44)) text

-- the pieces after the first one, by what stands after that
abbrev pub pieces_behind : List ℕ → List (List ℕ)
pieces_behind [] = []
pieces_behind (comma ∷ rest) = pieces rest

at_byte : (is_comma : Bool) (b n : ℕ) (rest : List ℕ) → pieces rest ≡ take n rest ∷ pieces_behind (drop n rest)
    → (if is_comma then [] ∷ pieces rest else with_byte b (pieces rest))
    ≡ take (cond (not is_comma) (1 + n) 0) (b ∷ rest) ∷ pieces_behind (drop (cond (not is_comma) (1 + n) 0) (b ∷ rest))
at_byte true b n rest e = refl
at_byte false b n rest e = let s : 1 + n ≡ suc n = omega arith in rw s (ap (with_byte b) e)

pub first_piece : (text : List ℕ) → pieces text ≡ take (first_size text) text ∷ pieces_behind (drop (first_size text) text)
first_piece [] = refl
first_piece (b ∷ rest) = at_byte (b == 44) b (first_size rest) rest (first_piece rest)

-- Actuals

-- actuals before those of a rest, if it has them
abbrev pub before : List (Place × Width) → Option (List (Place × Width)) → Option (List (Place × Width))
before actuals rest = option_map (λ more. actuals ++ more) rest

-- the first actual and the others
abbrev with_first : Option (Place × Width) → Option (List (Place × Width)) → Option (List (Place × Width))
with_first first rest = option_and_then (λ actual. option_map (λ actuals. actual ∷ actuals) rest) first

pub before_nothing : (rest : Option (List (Place × Width))) → before [] rest ≡ rest
before_nothing None = refl
before_nothing (Some actuals) = refl

no_actual : (actuals : List (Place × Width)) (first : Option (Place × Width)) (rest : Option (List (Place × Width)))
    → first ≡ None → before actuals (with_first first rest) ≡ None
no_actual actuals first rest none = ap (λ (o : Option (Place × Width)). before actuals (with_first o rest)) none

one_more : (actuals : List (Place × Width)) (actual : Place × Width) (rest : Option (List (Place × Width)))
    → before actuals (with_first (Some actual) rest) ≡ before (actuals ++ actual ∷ []) rest
one_more actuals actual None = refl
one_more actuals actual (Some more) = ap Some (sym (append_assoc actuals (actual ∷ []) more))

-- the first piece is no actual
pub at_no_actual : (actuals : List (Place × Width)) (text : List ℕ) (whole : Option (List (Place × Width)))
    → actual_of (take (first_size text) text) ≡ None → before actuals (actuals_in (pieces text)) ≡ whole → whole ≡ None
at_no_actual actuals text whole none e =
    sym e ∙ ap (λ (ps : List (List ℕ)). before actuals (actuals_in ps)) (first_piece text)
    ∙ no_actual actuals (actual_of (take (first_size text) text)) (actuals_in (pieces_behind (drop (first_size text) text))) none

-- the first piece is an actual
pub at_actual : (actuals : List (Place × Width)) (actual : Place × Width) (text : List ℕ) (whole : Option (List (Place × Width)))
    → actual_of (take (first_size text) text) ≡ Some actual → before actuals (actuals_in (pieces text)) ≡ whole
    → before (actuals ++ actual ∷ []) (actuals_in (pieces_behind (drop (first_size text) text))) ≡ whole
at_actual actuals actual text whole found e =
    sym (one_more actuals actual (actuals_in (pieces_behind (drop (first_size text) text))))
    ∙ ap (λ (o : Option (Place × Width)). before actuals (with_first o (actuals_in (pieces_behind (drop (first_size text) text))))) (sym found)
    ∙ ap (λ (ps : List (List ℕ)). before actuals (actuals_in ps)) (sym (first_piece text))
    ∙ e

-- the last piece is an actual
pub at_last : (actuals : List (Place × Width)) (left : List ℕ) (whole : Option (List (Place × Width)))
    → length left ≡ 0 → before actuals (actuals_in (pieces_behind left)) ≡ whole → whole ≡ Some actuals
at_last actuals [] whole h e = sym e ∙ ap Some (append-nil actuals)
at_last actuals (comma ∷ rest) whole h e = absurd (omega arith)

-- there is a comma after the first piece
pub at_comma : (actuals : List (Place × Width)) (left : List ℕ) (whole : Option (List (Place × Width)))
    → 0 < length left → before actuals (actuals_in (pieces_behind left)) ≡ whole → before actuals (actuals_in (pieces (drop 1 left))) ≡ whole
at_comma actuals [] whole h e = absurd (omega arith)
at_comma actuals (comma ∷ rest) whole h e = e

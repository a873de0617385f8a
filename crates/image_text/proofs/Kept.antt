-- Numbers that are kept in so many bits.
use Rattle.std.proofs.Common.{◌≡◌, ℕ, ◌<◌, Bool, true, false, if◌then◌else◌, List, [], ◌∷◌, length, Option, Some, None, option_map, refl, sym, ap, ◌∙◌, arith}
use Rattle.std.specs.List.{slice_split, list_any}
use Rattle.digit_texts.specs.Digits.{capped_number}
use Rattle.memory_areas.specs.declared.place.Area.{Area}
use Rattle.image_text.specs.Image.{area_of, byte_number, is_blank, is_empty, area_line_of, line_of_parts}
use Rattle.image_text.specs.inner.Fields.{area_kept, pieces_left, area_line_kept}
use Rattle.image_text.proofs.Cuts.{has_first}

choose : (t : Bool) (a : Area) (n : ℕ) (fields : List (List ℕ))
    → option_map area_line_kept (if t then None else Some (record { area = a; byte = n; fields = fields }))
    ≡ (if t then None else Some (record { area = area_kept a; byte = capped_number n; fields = fields }))
choose true a n fields = refl
choose false a n fields = refl

line_of_parts_kept : (a : Option Area) (n : Option ℕ) (fields : List (List ℕ))
    → option_map area_line_kept (line_of_parts a n fields) ≡ line_of_parts (option_map area_kept a) (option_map capped_number n) fields
line_of_parts_kept None n fields = refl
line_of_parts_kept (Some a) None fields = refl
line_of_parts_kept (Some a) (Some n) fields = choose (list_any is_empty fields) a n fields

-- the shape of a line is that of its pieces
pub area_line_whole : (name number fields behind line : List ℕ) → slice_split is_blank line ≡ name ∷ pieces_left is_blank behind
    → pieces_left is_blank behind ≡ number ∷ pieces_left is_blank fields → 0 < length fields
    → line_of_parts (option_map area_kept (area_of name)) (option_map capped_number (byte_number number)) (pieces_left is_blank fields)
    ≡ option_map area_line_kept (area_line_of (slice_split is_blank line))
area_line_whole name number [] behind line e f h = absurd (omega arith)
area_line_whole name number (b ∷ fields) behind line e f h =
    has_first
    (λ xs. line_of_parts (option_map area_kept (area_of name)) (option_map capped_number (byte_number number)) xs
    ≡ option_map area_line_kept (area_line_of (name ∷ number ∷ xs)))
    (λ x xs. sym (line_of_parts_kept (area_of name) (byte_number number) (x ∷ xs))) is_blank fields
    ∙ ap (λ xs. option_map area_line_kept (area_line_of xs)) (sym (e ∙ ap (λ xs. name ∷ xs) f))

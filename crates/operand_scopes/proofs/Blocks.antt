-- Where blocks stand, and what is at their places.
use Rattle.std.proofs.Common.{◌≡◌, ℕ, suc, ◌+◌, Bool, Bor, true, false, cond, not, nat_lt, List, [], ◌∷◌, length, map, slice_get, Option, Some, None, option_map, refl, sym, ap, ◌∙◌, arith}
use Rattle.std.specs.List.{position, position_or_len}
use Rattle.std.specs.Slice.{IsItemAt}
use Rattle.std.proofs.lemmas.Bool.Decides.{nat_tests}
use Rattle.std.proofs.lemmas.Option.{slice_get_past, slice_get_read}
use Rattle.name_tables.specs.Before.{block_numbers, is_block as is_numbered, number_of_block}
use Rattle.name_tables.specs.Places.{first_place}
use Rattle.stl_rules.specs.Names.{block_position}
use Rattle.stl_tree.specs.declared.raw.BlockKind.{BlockKind}
use Rattle.stl_tree.specs.declared.raw.RawProgram.{RawProgram}

-- the first place is the position
place_is_position : {X Y : Type 0} (test : Y → Bool) (f : X → Y) (xs : List X) → first_place test (map f xs) ≡ position (λ x. test (f x)) xs
place_is_position test f [] = refl
place_is_position test f (x ∷ xs) = by (test (f x)) (place_is_position test f xs)
  where
    at_first : (m : ℕ) → ◌≡◌ {A = Option ℕ} (Some 0) (cond (nat_lt 0 (suc m)) (Some 0) None)
    at_first m = grind (arith, nat_tests)

    one_later : (n m : ℕ) → option_map (λ k. suc k) (cond (nat_lt n m) (Some n) None) ≡ cond (nat_lt (1 + n) (suc m)) (Some (1 + n)) None
    one_later n m = grind (arith, nat_tests)

    by : (b : Bool)
        → first_place test (map f xs) ≡ cond (nat_lt (position_or_len (λ y. test (f y)) xs) (length xs)) (Some (position_or_len (λ y. test (f y)) xs)) None
        → cond b (Some 0) (option_map (λ n. suc n) (first_place test (map f xs)))
        ≡ cond (nat_lt (cond (not b) (1 + position_or_len (λ y. test (f y)) xs) 0) (suc (length xs)))
        (Some (cond (not b) (1 + position_or_len (λ y. test (f y)) xs) 0)) None
    by true e = at_first (length xs)
    by false e = ap (option_map (λ n. suc n)) e ∙ one_later (position_or_len (λ y. test (f y)) xs) (length xs)

pub at_position : (text : RawProgram) (kind : BlockKind) (n : ℕ)
    → first_place (is_numbered kind n) (block_numbers text.symbols text.blocks) ≡ block_position text kind n
at_position text kind n = place_is_position (is_numbered kind n) (number_of_block text.symbols) text.blocks

-- what is lent of a place
pub lent_at : {X : Type 0} (xs : List X) (i : ℕ) (r : Option (Bor X)) → IsItemAt xs i r → option_map (λ (b : Bor X). b.now) r ≡ slice_get xs i
lent_at xs i None h = sym (slice_get_past xs i h.3)
lent_at xs i (Some b) h = sym (slice_get_read xs (length xs) i b.now refl h.3.0 h.1)

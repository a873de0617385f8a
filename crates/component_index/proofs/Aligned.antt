-- What stands behind a multiple of 16 stands as behind 0, and at a multiple of its alignment.
use Rattle.std.proofs.Common.{◌≡◌, ℕ, zero, suc, ◌+◌, ◌*◌, ◌%◌, ◌^◌, ◌<◌, ◌≤◌, ℤ, List, [], ◌∷◌, Bool, true, false, cond, Option, Some, None, refl, ap, ◌∙◌, arith}
use Rattle.std.specs.Prelude.{IfSome, option_map}
use Rattle.std.specs.Int.{next_multiple_of}
use Rattle.std.proofs.Math.Logic.{◌⊎◌, inl, inr}
use Rattle.std.proofs.Math.Nat.{le_of_lt, min-eq_left, min-eq_right}
use Rattle.std.proofs.lemmas.Bool.{cases_lt}
use Rattle.s7_base.specs.Tokens.{is_same_word}
use Rattle.stl_tree.specs.declared.raw.Declaration.{Declaration}
use Rattle.stl_tree.specs.declared.raw.DeclType.{DeclType}
use Rattle.stl_rules.specs.Extents.{end_of, extent_of, place_behind}
use Rattle.stl_rules.specs.Paths.{Placed, element_at, elements_before, named_behind}
use Rattle.stl_rules.proofs.Ends.{IsEven, bit, byte, whole, word}
use Rattle.symbol_layout.proofs.Kept.{is_aligned}
use Rattle.symbol_layout.specs.Kept.{IsAlignment, capped_bits}

-- Multiples

pub at_multiple : (end a b : ℕ) → IsEven a b → next_multiple_of end a % a ≡ 0
at_multiple end a b bit = omega arith
at_multiple end a b (byte e) = omega arith
at_multiple end a b (word e) = omega arith

moved_place : (place n a b : ℕ) → IsEven a b → place % 16 ≡ 0 → next_multiple_of (place + n) a ≡ place + next_multiple_of n a
moved_place place n a b bit h = omega arith
moved_place place n a b (byte e) h = omega (arith, h)
moved_place place n a b (word e) h = omega (arith, h)

pub both_multiples : (place n a b : ℕ) → IsEven a b → place % 16 ≡ 0 → n % a ≡ 0 → (place + n) % a ≡ 0
both_multiples place n a b bit h e = omega arith
both_multiples place n a b (byte f) h e = omega (arith, h, e)
both_multiples place n a b (word f) h e = omega (arith, h, e)

whole_times : (k a b : ℕ) → IsEven a b → (k * b) % a ≡ 0
whole_times k a b bit = omega arith
whole_times k a b (byte e) = times k
  where
    times : (n : ℕ) → (n * b) % 8 ≡ 0
    times zero = omega arith
    times (suc n) = let h = times n in let one : suc n * b ≡ b + n * b = omega arith in omega (arith, h, one, e)
whole_times k a b (word e) = times k
  where
    times : (n : ℕ) → (n * b) % 16 ≡ 0
    times zero = omega arith
    times (suc n) = let h = times n in let one : suc n * b ≡ b + n * b = omega arith in omega (arith, h, one, e)

-- a multiple of an alignment is one as it is kept
kept_multiple : (place a : ℕ) → (place < 2 ^ 60) ⊎ (2 ^ 60 ≤ place) → IsAlignment a → place % a ≡ 0 → capped_bits place % a ≡ 0
kept_multiple place a (inl h) is e = ap (λ n. n % a) (min-eq_left (le_of_lt h)) ∙ e
kept_multiple place a (inr h) is e = ap (λ n. n % a) (min-eq_right h) ∙ is.2

abbrev pub IsWhole : ℕ → DeclType → Type 0
IsWhole place ty = place % (extent_of ty).alignment ≡ 0

pub kept_whole : (place : ℕ) (ty : DeclType) → IsWhole place ty → IsWhole (capped_bits place) ty
kept_whole place ty e = kept_multiple place (extent_of ty).alignment (cases_lt place (2 ^ 60)) (is_aligned ty) e

-- Elements

pub element_whole : (place : ℕ) (bounds : List (ℤ × ℤ)) (ty : DeclType) (indices : List ℤ) → place % 16 ≡ 0
    → IfSome (element_at place bounds ty indices) (λ x. IsWhole x.0 x.1)
element_whole place bounds ty indices h = by (elements_before 0 bounds indices)
  where
    by : (o : Option ℕ) → IfSome (option_map (λ k. (place + k * (extent_of ty).bits, ty)) o) (λ (x : Placed). IsWhole x.0 x.1)
    by None = tt
    by (Some k) =
        both_multiples place (k * (extent_of ty).bits) (extent_of ty).alignment (extent_of ty).bits (whole ty) h
        (whole_times k (extent_of ty).alignment (extent_of ty).bits (whole ty))

-- Names

pub named_moved : (place : ℕ) → place % 16 ≡ 0 → (decls : List Declaration) (n : ℕ) (name : List ℕ)
    → named_behind (place + n) decls name ≡ option_map (λ (x : Placed). (place + x.0, x.1)) (named_behind n decls name)
named_moved place h [] n name = refl
named_moved place h (d ∷ decls) n name =
    either (is_same_word d.name name)
    (ap (λ k. named_behind (k + (extent_of d.ty).bits) decls name) here
    ∙ ap (λ k. named_behind k decls name) (together place (place_behind n (extent_of d.ty)) (extent_of d.ty).bits)
    ∙ named_moved place h decls (end_of n d) name)
  where
    here : place_behind (place + n) (extent_of d.ty) ≡ place + place_behind n (extent_of d.ty)
    here = moved_place place n (extent_of d.ty).alignment (extent_of d.ty).bits (whole d.ty) h

    together : (a b c : ℕ) → (a + b) + c ≡ a + (b + c)
    together a b c = omega arith

    either : (t : Bool)
        → named_behind (end_of (place + n) d) decls name ≡ option_map (λ (x : Placed). (place + x.0, x.1)) (named_behind (end_of n d) decls name)
        → cond t (Some (place_behind (place + n) (extent_of d.ty), d.ty)) (named_behind (end_of (place + n) d) decls name)
        ≡ option_map (λ (x : Placed). (place + x.0, x.1)) (cond t (Some (place_behind n (extent_of d.ty), d.ty)) (named_behind (end_of n d) decls name))
    either true more = ap (λ k. Some (k, d.ty)) here
    either false more = more

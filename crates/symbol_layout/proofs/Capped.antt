-- Lengths that are kept within the most bits.
use Rattle.std.specs.Prelude.{◌≡◌, ℕ, zero, ◌+◌, ◌*◌, ◌/◌, ◌%◌, ◌^◌, ◌≤◌, ◌<◌, min, ◌⊎◌}
use Rattle.std.specs.Int.{next_multiple_of}
use Rattle.std.proofs.Common.{refl, sym, ap, ◌∙◌, arith}
use Rattle.std.proofs.Math.Logic.{inl, inr}
use Rattle.std.proofs.Math.Nat.{eq-zero-or-pos, le-mul_of_pos_right, le_of_lt, min-eq_left, min-eq_right, mul-le-mul_right, mul_comm}
use Rattle.std.proofs.lemmas.Bool.{cases_lt}
use Rattle.std.proofs.lemmas.Nat.{div-add-mod'}
use Rattle.stl_rules.proofs.Equations.{extent_equations}
use Rattle.symbol_layout.proofs.Places.{at_least}
use Rattle.stl_rules.specs.Extents.{IsLeast, end_behind, even_extent, place_behind}
use Rattle.stl_rules.specs.declared.layout.Extent.{Extent}
use Rattle.symbol_layout.specs.Kept.{IsAlignment, capped_bits, capped_extent}

-- Products and sums

module _ (c : ℕ) where
  many : (a b : ℕ) → c ≤ a → (b ≡ zero) ⊎ (zero < b) → min (min a c * b) c ≡ min (a * b) c
  many a b h (inl none) =
      let nothing : min (min a c * 0) c ≡ min (a * 0) c = omega arith in
      ap (λ n. min (min a c * n) c) none ∙ nothing ∙ sym (ap (λ n. min (a * n) c) none)
  many a b h (inr some) =
      let one : c ≤ c * b = le-mul_of_pos_right c some in
      let more : c * b ≤ a * b = mul-le-mul_right b h in
      let both : min (c * b) c ≡ min (a * b) c = omega (arith, one, more) in
      ap (λ n. min (n * b) c) (min-eq_right h) ∙ both

  one_side : (a b : ℕ) → (a < c) ⊎ (c ≤ a) → min (min a c * b) c ≡ min (a * b) c
  one_side a b (inl h) = ap (λ n. min (n * b) c) (min-eq_left (le_of_lt h))
  one_side a b (inr h) = many a b h (eq-zero-or-pos b)

pub capped_product : (a b : ℕ) → capped_bits (capped_bits a * capped_bits b) ≡ capped_bits (a * b)
capped_product a b =
    one_side (2 ^ 60) a (capped_bits b) (cases_lt a (2 ^ 60))
    ∙ ap capped_bits (mul_comm a (capped_bits b))
    ∙ one_side (2 ^ 60) b a (cases_lt b (2 ^ 60))
    ∙ ap capped_bits (mul_comm b a)

pub capped_sum : (a b : ℕ) → capped_bits (capped_bits a + capped_bits b) ≡ capped_bits (a + b)
capped_sum a b = omega arith

-- Places

place_within : (most end alignment : ℕ) → (end < most) ⊎ (most ≤ end) → 1 ≤ alignment → most % alignment ≡ 0
    → min (next_multiple_of end alignment) most ≡ next_multiple_of (min end most) alignment
place_within most end alignment (inl h) positive whole =
    let times : most / alignment * alignment + most % alignment ≡ most = div-add-mod' most alignment in
    let least : IsLeast alignment end (next_multiple_of end alignment) = at_least end (record { alignment = alignment; bits = 0 }) positive in
    let here : next_multiple_of end alignment ≤ most / alignment * alignment = least.is_least (most / alignment) (omega (arith, times, whole, h)) in
    let low : next_multiple_of end alignment ≤ most = omega (arith, here, times, whole) in
    min-eq_left low ∙ sym (ap (λ n. next_multiple_of n alignment) (min-eq_left (le_of_lt h)))
place_within most end alignment (inr h) positive whole =
    let times : most / alignment * alignment + most % alignment ≡ most = div-add-mod' most alignment in
    let least : IsLeast alignment end (next_multiple_of end alignment) = at_least end (record { alignment = alignment; bits = 0 }) positive in
    let last : IsLeast alignment most (next_multiple_of most alignment) = at_least most (record { alignment = alignment; bits = 0 }) positive in
    let behind : end ≤ next_multiple_of end alignment = least.is_behind in
    let above : most ≤ next_multiple_of most alignment = last.is_behind in
    let here : next_multiple_of most alignment ≤ most / alignment * alignment = last.is_least (most / alignment) (omega (arith, times, whole)) in
    let same : min (next_multiple_of end alignment) most ≡ next_multiple_of most alignment = omega (arith, behind, h, above, here, times, whole) in
    same ∙ sym (ap (λ n. next_multiple_of n alignment) (min-eq_right h))

pub capped_place : (end alignment : ℕ) → IsAlignment alignment
    → capped_bits (next_multiple_of end alignment) ≡ next_multiple_of (capped_bits end) alignment
capped_place end alignment is = place_within (2 ^ 60) end alignment (cases_lt end (2 ^ 60)) is.0 is.2

pub capped_end : (end : ℕ) (extent : Extent) → IsAlignment extent.alignment
    → capped_bits (end_behind (capped_bits end) (capped_extent extent)) ≡ capped_bits (end_behind end extent)
capped_end end extent is =
    let kept : capped_bits (next_multiple_of end extent.alignment) ≡ next_multiple_of (capped_bits end) extent.alignment
    = capped_place end extent.alignment is in
    ap (λ n. capped_bits (n + capped_bits extent.bits)) (sym kept) ∙ capped_sum (place_behind end extent) extent.bits

-- a length that is kept ends at the same kept place
pub end_of_kept : (end : ℕ) (extent : Extent) → capped_bits (end_behind end (capped_extent extent)) ≡ capped_bits (end_behind end extent)
end_of_kept end extent = sum_kept (place_behind end extent) extent.bits
  where
    sum_kept : (place bits : ℕ) → capped_bits (place + capped_bits bits) ≡ capped_bits (place + bits)
    sum_kept place bits = omega arith

-- a place within the most bits has its place within them
pub place_low : (end alignment : ℕ) → end ≤ 2 ^ 60 → IsAlignment alignment → next_multiple_of end alignment ≤ 2 ^ 60
place_low end alignment low is =
    let kept : capped_bits (next_multiple_of end alignment) ≡ next_multiple_of (capped_bits end) alignment
    = capped_place end alignment is in
    let here : next_multiple_of (capped_bits end) alignment ≡ next_multiple_of end alignment
    = ap (λ n. next_multiple_of n alignment) (min-eq_left low) in
    omega (arith, kept, here)

-- what is filled up, of what is kept
pub capped_filled : (bits : ℕ) → even_extent (capped_bits bits) ≡ capped_extent (even_extent bits)
capped_filled bits = ap (λ n. record { alignment = 16; bits = n }) (sym (capped_place bits 16 (omega arith, omega arith, refl)))

pub ruleset capped_laws = (capped_product, capped_sum)

pub ruleset extent_laws = (capped_product, capped_filled, extent_equations)

-- counts of values, item by item
pub counts : (so_far count length rest : ℕ)
    → capped_bits (capped_bits (capped_bits so_far + capped_bits (count * length)) + rest) ≡ capped_bits (so_far + (count * length + rest))
counts so_far count length rest = omega arith

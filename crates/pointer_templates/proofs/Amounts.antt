-- Facts on pointers as patterns, and what a pointer is worth that an amount is added to.
use Rattle.std.proofs.Common.{◌≡◌, ℕ, ◌+◌, ◌*◌, ◌/◌, ◌%◌, ◌^◌, ◌<◌, pos, List, Ok, ap, ◌∙◌, arith}
use Rattle.std.specs.Prelude.{ℤ, ◌+ℤ◌, bit_and, bit_or, unsigned_abs}
use Rattle.std.specs.Int.{int_rem_euclid}
use Rattle.std.proofs.lemmas.Int.{ints}
use Rattle.std.proofs.lemmas.Nat.{and_mask, or_shifted}
use Rattle.std.proofs.lemmas.Nat.Bits.{and_high_mask}
use Rattle.memory_areas.specs.Pointers.{pointer_plus}
use Rattle.pointer_templates.specs.Pointers.{pointer_sum_of}
use Rattle.template_parts.specs.Builders.{read_of}
use Rattle.template_parts.proofs.Pointers.{dword}
use Rattle.s7_base.specs.SignedNumbers.{number, pattern}
use Rattle.st_tree.proofs.Equations.{value_binary, value_convert, value_literal}
use Rattle.st_tree.specs.State.{State}
use Rattle.st_tree.specs.Value.{value}
use Rattle.st_tree.specs.declared.expr.Expr.{Expr}
use Rattle.st_tree.specs.declared.expr.StType.TheVariants as type
use Rattle.st_tree.specs.declared.program.Located.{Located}
use Rattle.st_tree.specs.declared.state.Value.{Value}
use Rattle.stl_tree.specs.Reads.{register_of}
use Rattle.stl_tree.specs.declared.program.Ar.{Ar}

-- a number as a DINT
abbrev pub dint : ℤ → Value
dint z = record { ty = type.Dint; n = z }

-- the low 24 bits of a sum of 32 bits are those of the sum of the low 24 bits
sum_below : (p : ℕ) (z : ℤ) → pattern 32 (number 32 (p % 2 ^ 32) +ℤ z) % 2 ^ 24 ≡ unsigned_abs (int_rem_euclid (pos (p % 2 ^ 24) +ℤ z) (pos (2 ^ 24)))
sum_below p z = grind (arith, ints)

-- an amount 0 moves nothing
pub unmoved : (p : ℕ) → pointer_plus p (pos 0) ≡ p
unmoved p = grind (arith, ints)

-- what is moved stays a pointer of 32 bits
pub moved_below : (p : ℕ) (z : ℤ) → p < 2 ^ 32 → pointer_plus p z < 2 ^ 32
moved_below p z h = grind (arith, ints)

-- the pattern of the number of a pattern
same_pattern : (z : ℤ) → pattern 32 (number 32 (pattern 32 z)) ≡ pattern 32 z
same_pattern z = grind (arith, ints)

-- bits of a sum put under an area code
put_below : (p w : ℕ) → p < 2 ^ 32 → w < 2 ^ 24
    → pattern 32
    (pos (bit_or (pattern 32 (pos (pattern 32 (pos (bit_and (pattern 32 (pos p)) (pattern 32 (pos 4278190080))))))) (pattern 32 (pos (pattern 32 (pos w))))))
    ≡ p / 2 ^ 24 * 2 ^ 24 + w
put_below p w h k =
    let high : bit_and p 4278190080 ≡ p / 2 ^ 24 * 2 ^ 24 = and_high_mask 32 24 (omega arith) p h in
    let e : p % 2 ^ 32 ≡ p = omega arith in
    let f : w % 2 ^ 32 % 2 ^ 32 ≡ w = omega arith in
    let m : p / 2 ^ 24 * 2 ^ 24 % 2 ^ 32 % 2 ^ 32 ≡ p / 2 ^ 24 * 2 ^ 24 = omega arith in
    let n : (p / 2 ^ 24 * 2 ^ 24 + w) % 2 ^ 32 ≡ p / 2 ^ 24 * 2 ^ 24 + w = omega arith in
    rw (e, high, f, m, or_shifted (p / 2 ^ 24) 24 w k) n

-- the low bits of a sum, by their mask
low_bits : (p : ℕ) (z : ℤ)
    → bit_and (pattern 32 (pos (pattern 32 (number 32 (pattern 32 (number 32 (pattern 32 (pos p)) +ℤ z)))))) (pattern 32 (pos 16777215))
    ≡ unsigned_abs (int_rem_euclid (pos (p % 2 ^ 24) +ℤ z) (pos (2 ^ 24)))
low_bits p z =
    let q : ℕ = pattern 32 (number 32 (pattern 32 (number 32 (p % 2 ^ 32) +ℤ z))) in
    let same : q ≡ pattern 32 (number 32 (p % 2 ^ 32) +ℤ z) = same_pattern (number 32 (p % 2 ^ 32) +ℤ z) in
    let twice : q % 2 ^ 32 % 2 ^ 24 ≡ q % 2 ^ 24 = omega arith in
    and_mask (q % 2 ^ 32) 24 ∙ twice ∙ ap (λ (n : ℕ). n % 2 ^ 24) same ∙ sum_below p z

low_bits_below : (p : ℕ) (z : ℤ) → unsigned_abs (int_rem_euclid (pos (p % 2 ^ 24) +ℤ z) (pos (2 ^ 24))) < 2 ^ 24
low_bits_below p z = grind (arith, ints)

-- the pointer of an address register with an amount added
pub moved_worth : (g : List Located) (t : State) (a : Ar) (e : Expr) (p : ℕ) (z : ℤ) → p < 2 ^ 32 → value g (read_of (register_of a)) t ≡ Ok (dword p)
    → value g e t ≡ Ok (dint z) → value g (pointer_sum_of a e) t ≡ Ok (dword (pointer_plus p z))
moved_worth g t a e p z small h k =
    let low : unsigned_abs (int_rem_euclid (pos (p % 2 ^ 24) +ℤ z) (pos (2 ^ 24))) < 2 ^ 24 = low_bits_below p z in
    simp (value_binary, value_convert, value_literal, h, k, low_bits, put_below)

-- What pointers are worth as a row takes them, and the place that each names.
use Rattle.std.proofs.Common.{◌≡◌, ℕ, ◌+◌, ◌*◌, ◌/◌, ◌%◌, ◌^◌, ◌<◌, pos, List, Ok, Some, refl, ap, ◌∙◌, arith}
use Rattle.std.specs.Prelude.{ℤ, ◌+ℤ◌, bit_and, bit_or}
use Rattle.std.specs.Int.Bits.{or_shifted_r}
use Rattle.std.proofs.lemmas.Int.{ints}
use Rattle.std.proofs.lemmas.Nat.{and_mask, or_shifted}
use Rattle.std.proofs.lemmas.Nat.Bits.{and_high_mask}
use Rattle.memory_areas.specs.Access.{and_then, area_named, code_of, name_of_code, place_aimed, aim_of_pointer}
use Rattle.memory_areas.specs.Pointers.{bit_of_pointer, byte_of_pointer, code_of_pointer, with_offset}
use Rattle.memory_areas.specs.declared.place.AreaName.{AreaName}
use Rattle.memory_areas.specs.declared.place.AreaName.TheVariants as area
use Rattle.memory_areas.specs.declared.place.Place.{Place}
use Rattle.s7_base.specs.SignedNumbers.{number, pattern}
use Rattle.s7_base.specs.declared.register.Reg.TheVariants as reg
use Rattle.stl_tree.specs.AddressRegisters.{pointer_in}
use Rattle.stl_tree.specs.Now.{Now}
use Rattle.stl_tree.specs.Reads.{register_of}
use Rattle.stl_tree.specs.declared.program.Ar.{Ar}
use Rattle.stl_tree.specs.declared.program.Ar.TheVariants as ar
use Rattle.stl_tree.proofs.AddressCases.{coded}
use Rattle.st_tree.specs.Operators.{binary_value, converted_value}
use Rattle.st_tree.specs.State.{State}
use Rattle.st_tree.specs.Value.{value}
use Rattle.st_tree.specs.declared.expr.BinaryOp.{BinaryOp}
use Rattle.st_tree.specs.declared.expr.BinaryOp.TheVariants as binary
use Rattle.st_tree.specs.declared.expr.Expr.{Expr}
use Rattle.st_tree.specs.declared.expr.Expr.TheVariants as expr
use Rattle.st_tree.specs.declared.expr.StType.{StType}
use Rattle.st_tree.specs.declared.expr.StType.TheVariants as type
use Rattle.st_tree.specs.declared.expr.Var.TheVariants as var
use Rattle.st_tree.specs.declared.program.Located.{Located}
use Rattle.st_tree.specs.declared.state.Value.{Value}
use Rattle.st_tree.proofs.Equations.{value_binary, value_convert, value_literal, value_read}
use Rattle.template_parts.specs.Builders.{and_of, binary_of, constant_of, convert_of, read_of}
use Rattle.template_parts.specs.Pointing.{crossing_of, in_area_of, place_in_of, sum_of}
use Rattle.template_parts.specs.Related.{Frames, Related}

-- a pattern as a DWORD
abbrev pub dword : ℕ → Value
dword p = record { ty = type.Dword; n = pos p }

-- Patterns

place_kept : (p : ℕ) → p < 2 ^ 32 → pattern 32 (pos (bit_and (pattern 32 (pos p)) (pattern 32 (pos 524287)))) ≡ p % 2 ^ 19
place_kept p h =
    let e : p % 2 ^ 32 ≡ p = omega arith in
    let low : bit_and p 524287 ≡ p % 2 ^ 19 = and_mask p 19 in
    let f : p % 2 ^ 19 % 2 ^ 32 ≡ p % 2 ^ 19 = omega arith in
    rw (e, low) f

high_kept : (p : ℕ) → p < 2 ^ 32 → pattern 32 (pos (bit_and (pattern 32 (pos p)) (pattern 32 (pos 4294443008)))) ≡ p / 2 ^ 19 * 2 ^ 19
high_kept p h =
    let e : p % 2 ^ 32 ≡ p = omega arith in
    let high : bit_and p 4294443008 ≡ p / 2 ^ 19 * 2 ^ 19 = and_high_mask 32 19 (omega arith) p h in
    let f : p / 2 ^ 19 * 2 ^ 19 % 2 ^ 32 ≡ p / 2 ^ 19 * 2 ^ 19 = omega arith in
    rw (e, high) f

area_put : (c x : ℕ) → c < 256 → x < 2 ^ 19 → pattern 32 (pos (bit_or (pattern 32 (pos x)) (pattern 32 (pos (c * 2 ^ 24))))) ≡ c * 2 ^ 24 + x
area_put c x h k =
    let e : x % 2 ^ 32 ≡ x = omega arith in
    let f : c * 2 ^ 24 % 2 ^ 32 ≡ c * 2 ^ 24 = omega arith in
    let small : x < 2 ^ 24 = omega arith in
    let n : (c * 2 ^ 24 + x) % 2 ^ 32 ≡ c * 2 ^ 24 + x = omega arith in
    rw (e, f, or_shifted_r c 24 x small) n

places_put : (p x : ℕ) → p < 2 ^ 32 → x < 2 ^ 19
    → pattern 32 (pos (bit_or (pattern 32 (pos (p / 2 ^ 19 * 2 ^ 19))) (pattern 32 (pos x)))) ≡ p / 2 ^ 19 * 2 ^ 19 + x
places_put p x h k =
    let e : p / 2 ^ 19 * 2 ^ 19 % 2 ^ 32 ≡ p / 2 ^ 19 * 2 ^ 19 = omega arith in
    let f : x % 2 ^ 32 ≡ x = omega arith in
    let n : (p / 2 ^ 19 * 2 ^ 19 + x) % 2 ^ 32 ≡ p / 2 ^ 19 * 2 ^ 19 + x = omega arith in
    rw (e, f, or_shifted (p / 2 ^ 19) 19 x k) n

-- a sum of DINTs has the pattern of the sum, whichever sign its operand has
sum_kept : (p offset : ℕ) → p < 2 ^ 32
    → pattern 32 (number 32 (pattern 32 (number 32 (pattern 32 (pos p)) +ℤ pos offset))) ≡ (p + offset) % 2 ^ 32
sum_kept p offset h = grind (arith, ints)

-- Expressions

module _ (g : List Located) (t : State) where
  -- an expression is worth this pattern
  abbrev pub IsDword : Expr → ℕ → Type 0
  IsDword e p = value g e t ≡ Ok (dword p)

  joined : (op : BinaryOp) (e f : Expr) (v w : Value) → value g e t ≡ Ok v → value g f t ≡ Ok w → value g (expr.Binary op e f) t ≡ binary_value op v w
  joined op e f v w h k =
      value_binary g op e f t
      ∙ ap (λ r. and_then r (λ x. and_then (value g f t) (binary_value op x))) h
      ∙ ap (λ r. and_then r (binary_value op v)) k

  changed_type : (from to : StType) (e : Expr) (v : Value) → value g e t ≡ Ok v → value g (expr.Convert from to e) t ≡ Ok (converted_value to v)
  changed_type from to e v h = value_convert g from to e t ∙ ap (λ r. and_then r (λ x. Ok (converted_value to x))) h

  place_worth : (e : Expr) (p : ℕ) → p < 2 ^ 32 → IsDword e p → IsDword (place_in_of e) (p % 2 ^ 19)
  place_worth e p small h =
      joined binary.And e (constant_of type.Dword (pos 524287)) (dword p) (dword 524287) h (value_literal g type.Dword (pos 524287) t)
      ∙ ap (λ n. Ok (dword n)) (place_kept p small)

  code_small : (a : AreaName) → code_of a < 256
  code_small area.I = omega arith
  code_small area.Q = omega arith
  code_small area.M = omega arith
  code_small area.L = omega arith
  code_small area.Db = omega arith
  code_small area.Di = omega arith

  place_small : (p : ℕ) → p % 2 ^ 19 < 2 ^ 19
  place_small p = omega arith

  pub in_area_worth : (a : AreaName) (e : Expr) (p : ℕ) → p < 2 ^ 32 → IsDword e p → IsDword (in_area_of a e) (code_of a * 2 ^ 24 + p % 2 ^ 19)
  in_area_worth a e p small h =
      joined binary.Or (place_in_of e) (constant_of type.Dword (pos (code_of a * 2 ^ 24))) (dword (p % 2 ^ 19)) (dword (code_of a * 2 ^ 24))
      (place_worth e p small h) (value_literal g type.Dword (pos (code_of a * 2 ^ 24)) t)
      ∙ ap (λ n. Ok (dword n)) (area_put (code_of a) (p % 2 ^ 19) (code_small a) (place_small p))

  added_worth : (e : Expr) (p offset : ℕ) → p < 2 ^ 32 → IsDword e p
      → IsDword (convert_of type.Dint type.Dword (binary_of binary.Add (convert_of type.Dword type.Dint e) (constant_of type.Dint (pos offset))))
      ((p + offset) % 2 ^ 32)
  added_worth e p offset small h =
      let first : Value = converted_value type.Dint (dword p) in
      let second : Value = record { ty = type.Dint; n = pos offset } in
      changed_type type.Dint type.Dword (binary_of binary.Add (convert_of type.Dword type.Dint e) (constant_of type.Dint (pos offset)))
      (record { ty = type.Dint; n = number 32 (pattern 32 (number 32 (pattern 32 (pos p)) +ℤ pos offset)) })
      (joined binary.Add (convert_of type.Dword type.Dint e) (constant_of type.Dint (pos offset)) first second
      (changed_type type.Dword type.Dint e (dword p) h) (value_literal g type.Dint (pos offset) t))
      ∙ ap (λ n. Ok (dword n)) (sum_kept p offset small)

  crossed_worth : (e sum : Expr) (p offset : ℕ) → p < 2 ^ 32 → IsDword e p → IsDword sum ((p + offset) % 2 ^ 32)
      → IsDword (expr.Binary binary.Or (and_of e (constant_of type.Dword (pos 4294443008))) (place_in_of sum)) (with_offset p offset)
  crossed_worth e sum p offset small h k =
      let least : (p + offset) % 2 ^ 32 < 2 ^ 32 = omega arith in
      let same : p / 2 ^ 19 * 2 ^ 19 + (p + offset) % 2 ^ 32 % 2 ^ 19 ≡ with_offset p offset = omega arith in
      joined binary.Or (and_of e (constant_of type.Dword (pos 4294443008))) (place_in_of sum)
      (dword (p / 2 ^ 19 * 2 ^ 19)) (dword ((p + offset) % 2 ^ 32 % 2 ^ 19))
      (joined binary.And e (constant_of type.Dword (pos 4294443008)) (dword p) (dword 4294443008) h (value_literal g type.Dword (pos 4294443008) t)
      ∙ ap (λ n. Ok (dword n)) (high_kept p small))
      (place_worth sum ((p + offset) % 2 ^ 32) least k)
      ∙ ap (λ n. Ok (dword n)) (places_put p ((p + offset) % 2 ^ 32 % 2 ^ 19) small (place_small ((p + offset) % 2 ^ 32)) ∙ same)

  -- Address registers

  module _ (frames : Frames) (now : Now) (related : Related frames now t) where
    pub pointer_small : (r : Ar) → pointer_in r now.registers < 2 ^ 32
    pointer_small ar.One = related.range.ar1
    pointer_small ar.Two = related.range.ar2

    pub pointer_worth : (r : Ar) → IsDword (read_of (register_of r)) (pointer_in r now.registers)
    pointer_worth ar.One = value_read g (var.Register reg.Ar1) t ∙ ap (λ (n : ℤ). Ok (record { ty = type.Dword; n = n })) (related.registers reg.Ar1 tt)
    pointer_worth ar.Two = value_read g (var.Register reg.Ar2) t ∙ ap (λ (n : ℤ). Ok (record { ty = type.Dword; n = n })) (related.registers reg.Ar2 tt)

    pub sum_worth : (r : Ar) (offset : ℕ) → IsDword (sum_of r offset) ((pointer_in r now.registers + offset) % 2 ^ 32)
    sum_worth r offset = added_worth (read_of (register_of r)) (pointer_in r now.registers) offset (pointer_small r) (pointer_worth r)

    pub crossing_worth : (r : Ar) (offset : ℕ) → IsDword (crossing_of r offset) (with_offset (pointer_in r now.registers) offset)
    crossing_worth r offset =
        crossed_worth (read_of (register_of r)) (sum_of r offset) (pointer_in r now.registers) offset (pointer_small r) (pointer_worth r) (sum_worth r offset)

-- Places

-- the place that a pointer means, in a named area
abbrev pub place_pointed : AreaName → ℕ → ℕ → ℕ → ℕ → Place
place_pointed a p db di activation = record { area = area_named a db di activation; byte = byte_of_pointer p; bit = bit_of_pointer p }

by_parts : (q db di activation byte x : ℕ) (a : AreaName) → name_of_code (code_of_pointer q) ≡ Some a → byte_of_pointer q ≡ byte → bit_of_pointer q ≡ x
    → place_aimed (aim_of_pointer q db di activation) ≡ Ok (record { area = area_named a db di activation; byte = byte; bit = x })
by_parts q db di activation byte x a e f h = rw (e, f, h) refl

-- a pointer with the code of an area names a place in it, wherever its byte and bit come from
pub in_area_resolved : (a : AreaName) (p x db di activation : ℕ) → x ≡ p % 2 ^ 19
    → place_aimed (aim_of_pointer (code_of a * 2 ^ 24 + x) db di activation) ≡ Ok (place_pointed a p db di activation)
in_area_resolved a p x db di activation e =
    let c : ℕ = code_of a in
    let code : (c * 2 ^ 24 + x) / 2 ^ 24 ≡ c = omega arith in
    by_parts (code_of a * 2 ^ 24 + x) db di activation (byte_of_pointer p) (bit_of_pointer p) a (ap name_of_code code ∙ coded a) (omega arith) (omega arith)

-- what an offset adds to the byte and bit number
pub same_offset : (p offset : ℕ) → (p + offset) % 2 ^ 32 % 2 ^ 19 ≡ with_offset p offset % 2 ^ 19
same_offset p offset = omega arith

-- pointers have 32 bits
pub in_area_small : (a : AreaName) (p : ℕ) → code_of a * 2 ^ 24 + p % 2 ^ 19 < 2 ^ 32
in_area_small area.I p = omega arith
in_area_small area.Q p = omega arith
in_area_small area.M p = omega arith
in_area_small area.L p = omega arith
in_area_small area.Db p = omega arith
in_area_small area.Di p = omega arith

pub offset_small : (p offset : ℕ) → p < 2 ^ 32 → with_offset p offset < 2 ^ 32
offset_small p offset h = omega arith

-- What a write to a place leaves of a memory, and which cells of constants read as before.
use Rattle.std.proofs.Common.{◌≡◌, ◌⊎◌, inl, inr, ⊎_elim, ℕ, zero, suc, ◌+◌, ◌*◌, ◌<◌, ◌≤◌, pos, List, [], ◌∷◌, length, Option, Some, None, Result, Ok, Err, refl, sym, ap, subst, ◌∙◌, arith}
use Rattle.std.specs.Prelude.{slice_set}
use Rattle.std.proofs.lemmas.Bool.{cases_order}
use Rattle.memory_areas.specs.Access.{Aim, aim_of_place, and_then, bytes_for_access, bytes_there, bytes_wide, fault_of, read_bit, read_byte, read_dword, read_word, unless, write_bytes}
use Rattle.memory_areas.specs.AreaLaws.{IsOutside}
use Rattle.memory_areas.specs.Areas.{Contents, bit_of_byte, byte_at, byte_with, bytes_of_dword, bytes_of_word, dword_at, overwrite, with_bytes, word_at}
use Rattle.memory_areas.specs.Memory.{HasActivations}
use Rattle.memory_areas.specs.declared.place.Area.{Area}
use Rattle.memory_areas.specs.declared.place.Area.TheVariants as area
use Rattle.memory_areas.specs.declared.place.Place.{Place}
use Rattle.memory_areas.proofs.AreaLaws.{bits_leave_byte, bits_leave_sizes, bits_read_back, bytes_leave_byte, bytes_leave_sizes, bytes_read_back, dwords_leave_byte, dwords_leave_sizes, dwords_read_back, words_leave_byte, words_leave_sizes, words_read_back}
use Rattle.s7_base.specs.declared.outcome.Fault.{Fault}
use Rattle.s7_base.specs.declared.word.Width.{Width}
use Rattle.s7_base.specs.declared.word.Width.TheVariants as width
use Rattle.stl_tree.specs.Calls.{cell_of}
use Rattle.st_tree.specs.Fitting.{IsOf}
use Rattle.st_tree.specs.State.{read_place, write_place}
use Rattle.st_tree.specs.Values.{flag, is_set, pattern, type_of_width, typed}
use Rattle.st_tree.specs.declared.expr.StType.{StType}
use Rattle.st_tree.specs.declared.expr.StType.TheVariants as type
use Rattle.st_tree.specs.declared.state.Value.{Value}

-- Of the memory after a write

-- what holds of it, if there is one
abbrev pub After : (Contents → Type 0) → Result Contents Fault → Type 0
After P (Ok m) = P m
After P (Err f) = Unit {0}

module _ (P : Contents → Type 0) (p : Place) (m : Contents) (has : (bytes : List ℕ) → P (with_bytes p.area bytes m)) where
  one_has : (w : Width) (new : List ℕ → List ℕ)
      → After P (and_then (bytes_for_access p w m) (λ bytes. Ok (write_bytes p bytes (new bytes) m)))
  one_has w new = by (bytes_for_access p w m)
    where
      by : (r : Result (List ℕ) Fault) → After P (and_then r (λ bytes. Ok (write_bytes p bytes (new bytes) m)))
      by (Ok bytes) = has (overwrite bytes p.byte (new bytes))
      by (Err f) = tt

  written_has : (ty : StType) (v : Value) → After P (write_place ty p v m)
  written_has type.Bool v = one_has width.Bit (λ bytes. byte_with (byte_at bytes p.byte) p.bit (is_set v) ∷ [])
  written_has type.Byte v = one_has width.Byte (λ bytes. pattern 8 v.n ∷ [])
  written_has type.Word v = one_has width.Word (λ bytes. bytes_of_word (pattern 16 v.n))
  written_has type.Dword v = one_has width.Dword (λ bytes. bytes_of_dword (pattern 32 v.n))
  written_has type.Int v = one_has width.Word (λ bytes. bytes_of_word (pattern 16 v.n))
  written_has type.Dint v = one_has width.Dword (λ bytes. bytes_of_dword (pattern 32 v.n))
  written_has type.Lint v = one_has width.Dword (λ bytes. bytes_of_dword (pattern 32 v.n))

as_long : {X : Type 0} → (xs : List X) (i : ℕ) (v : X) → length (slice_set xs i v) ≡ length xs
as_long [] i v = refl
as_long (x ∷ xs) zero v = refl
as_long (x ∷ xs) (suc i) v = ap suc (as_long xs i v)

sizes_with : (a : Area) (bytes : List ℕ) (m : Contents) → HasActivations m → HasActivations (with_bytes a bytes m)
sizes_with (area.Local d) bytes m h = (as_long m.locals d bytes ∙ h.0, h.1)
sizes_with (area.Cell d) bytes m h = (h.0, as_long m.cells d bytes ∙ h.1)
sizes_with a bytes m h = h

-- it has local data and cells of as many activations
pub sizes_after : (ty : StType) (p : Place) (v : Value) (before after : Contents) → HasActivations before → write_place ty p v before ≡ Ok after
    → HasActivations after
sizes_after ty p v before after h e =
    subst (After HasActivations) e (written_has HasActivations p before (λ bytes. sizes_with p.area bytes before h) ty v)

-- and each access has the fault that it had
pub faults_after : (ty : StType) (p : Place) (v : Value) (before after : Contents) → write_place ty p v before ≡ Ok after
    → (aim : Aim) (w : Width) → fault_of aim w after ≡ fault_of aim w before
faults_after type.Bool p v before after e = (bits_leave_sizes p (is_set v) before after e).1
faults_after type.Byte p v before after e = (bytes_leave_sizes p (pattern 8 v.n) before after e).1
faults_after type.Word p v before after e = (words_leave_sizes p (pattern 16 v.n) before after e).1
faults_after type.Int p v before after e = (words_leave_sizes p (pattern 16 v.n) before after e).1
faults_after ty p v before after e = (dwords_leave_sizes p (pattern 32 v.n) before after e).1

-- Cells

-- a write to a cell changes no other part of the memory
pub rest_after : (d k : ℕ) (ty : StType) (v : Value) (before after : Contents) → write_place ty (cell_of d k) v before ≡ Ok after
    → (after.areas ≡ before.areas) × (after.locals ≡ before.locals)
rest_after d k ty v before after e =
    subst (After (λ (m : Contents). (m.areas ≡ before.areas) × (m.locals ≡ before.locals))) e
    (written_has (λ (m : Contents). (m.areas ≡ before.areas) × (m.locals ≡ before.locals)) (cell_of d k) before (λ bytes. (refl, refl)) ty v)

-- what was written is read back, where the value is one of the type
pub read_after : (w : Width) (p : Place) (v : Value) (before after : Contents) → IsOf (type_of_width w) v
    → write_place (type_of_width w) p v before ≡ Ok after → read_place (type_of_width w) p after ≡ Ok v
read_after width.Bit p v before after of e =
    ap (λ r. and_then r (λ b. Ok (flag b))) (bits_read_back p (is_set v) before after e) ∙ ap (λ (x : Value). Ok x) (flag_set v of)
  where
    flag_set : (v : Value) → IsOf type.Bool v → flag (is_set v) ≡ v
    flag_set v of = let kind = of.type in let number = of.number in grind arith
read_after width.Byte p v before after of e =
    ap (λ r. and_then r (λ n. Ok (typed type.Byte (pos n)))) (bytes_read_back p (pattern 8 v.n) before after e) ∙ ap (λ (x : Value). Ok x) (again v of)
  where
    again : (v : Value) → IsOf type.Byte v → typed type.Byte (pos (pattern 8 v.n)) ≡ v
    again v of = let kind = of.type in let number = of.number in grind arith
read_after width.Word p v before after of e =
    ap (λ r. and_then r (λ n. Ok (typed type.Word (pos n)))) (words_read_back p (pattern 16 v.n) before after e) ∙ ap (λ (x : Value). Ok x) (again v of)
  where
    again : (v : Value) → IsOf type.Word v → typed type.Word (pos (pattern 16 v.n)) ≡ v
    again v of = let kind = of.type in let number = of.number in grind arith
read_after width.Dword p v before after of e =
    ap (λ r. and_then r (λ n. Ok (typed type.Dword (pos n)))) (dwords_read_back p (pattern 32 v.n) before after e) ∙ ap (λ (x : Value). Ok x) (again v of)
  where
    again : (v : Value) → IsOf type.Dword v → typed type.Dword (pos (pattern 32 v.n)) ≡ v
    again v of = let kind = of.type in let number = of.number in grind arith

-- a byte of a cell, at another position, or of another activation
abbrev byte_of_cell : ℕ → ℕ → ℕ → Place
byte_of_cell d k i = record { area = area.Cell d; byte = 4 * k + i; bit = 0 }

few_bytes : (w : Width) → bytes_wide w ≤ 4
few_bytes width.Bit = omega arith
few_bytes width.Byte = omega arith
few_bytes width.Word = omega arith
few_bytes width.Dword = omega arith

outside : (d k e j i : ℕ) (w : Width) → i < 4 → (e ≡ d → j ≡ k → ⊥) → IsOutside (cell_of d k) w (byte_of_cell e j i)
outside d k e j i w small apart same =
    let deep : e ≡ d = cc in
    let few : bytes_wide w ≤ 4 = few_bytes w in
    ⊎_elim (λ (equal : j ≡ k). absurd (apart deep equal))
    (⊎_elim (λ (less : j < k). inl (omega arith)) (λ (greater : k < j). inr (omega arith)))
    (cases_order j k)

module _ (d k : ℕ) (w : Width) (v : Value) (before after : Contents) (e : write_place (type_of_width w) (cell_of d k) v before ≡ Ok after) where
  byte_stays : (at j i : ℕ) → i < 4 → (at ≡ d → j ≡ k → ⊥)
      → byte_at (bytes_there (Some (area.Cell at)) after) (4 * j + i) ≡ byte_at (bytes_there (Some (area.Cell at)) before) (4 * j + i)
  byte_stays at j i small apart = by w e (outside d k at j i w small apart)
    where
      by : (u : Width) → write_place (type_of_width u) (cell_of d k) v before ≡ Ok after → IsOutside (cell_of d k) u (byte_of_cell at j i)
          → byte_at (bytes_there (Some (area.Cell at)) after) (4 * j + i) ≡ byte_at (bytes_there (Some (area.Cell at)) before) (4 * j + i)
      by width.Bit f out = bits_leave_byte (cell_of d k) (byte_of_cell at j i) (is_set v) before after out f
      by width.Byte f out = bytes_leave_byte (cell_of d k) (byte_of_cell at j i) (pattern 8 v.n) before after out f
      by width.Word f out = words_leave_byte (cell_of d k) (byte_of_cell at j i) (pattern 16 v.n) before after out f
      by width.Dword f out = dwords_leave_byte (cell_of d k) (byte_of_cell at j i) (pattern 32 v.n) before after out f

  -- what a read gives hangs on its fault and on what it takes from the bytes of its area
  read_as : {V : Type 0} → (p : Place) (u : Width) (take : List ℕ → V) → take (bytes_there (Some p.area) after) ≡ take (bytes_there (Some p.area) before)
      → and_then (bytes_for_access p u after) (λ bytes. Ok (take bytes)) ≡ and_then (bytes_for_access p u before) (λ bytes. Ok (take bytes))
  read_as {V = V} p u take same =
      ap (λ (o : Option Fault). and_then {B = V} (unless o (bytes_there (Some p.area) after)) (λ bytes. Ok (take bytes)))
      (faults_after (type_of_width w) (cell_of d k) v before after e (aim_of_place p) u)
      ∙ by (fault_of (aim_of_place p) u before)
    where
      by : (o : Option Fault) → and_then {B = V} (unless o (bytes_there (Some p.area) after)) (λ bytes. Ok (take bytes))
          ≡ and_then {B = V} (unless o (bytes_there (Some p.area) before)) (λ bytes. Ok (take bytes))
      by None = ap (λ (x : V). Ok x) same
      by (Some f) = refl

  -- a cell at another position, or of another activation, reads as before
  pub other_cell : (at j : ℕ) (u : Width) → (at ≡ d → j ≡ k → ⊥)
      → read_place (type_of_width u) (cell_of at j) after ≡ read_place (type_of_width u) (cell_of at j) before
  other_cell at j u apart = by u
    where
      same : (i : ℕ) → i < 4 → byte_at (bytes_there (Some (area.Cell at)) after) (4 * j + i) ≡ byte_at (bytes_there (Some (area.Cell at)) before) (4 * j + i)
      same i small = byte_stays at j i small apart

      first : byte_at (bytes_there (Some (area.Cell at)) after) (4 * j) ≡ byte_at (bytes_there (Some (area.Cell at)) before) (4 * j)
      first =
          let here : 4 * j + 0 ≡ 4 * j = omega arith in
          subst (λ n. byte_at (bytes_there (Some (area.Cell at)) after) n ≡ byte_at (bytes_there (Some (area.Cell at)) before) n) here (same 0 (omega arith))

      by : (u : Width) → read_place (type_of_width u) (cell_of at j) after ≡ read_place (type_of_width u) (cell_of at j) before
      by width.Bit =
          ap (λ r. and_then r (λ b. Ok (flag b)))
          (read_as (cell_of at j) width.Bit (λ bytes. bit_of_byte (byte_at bytes (4 * j)) 0) (ap (λ b. bit_of_byte b 0) first))
      by width.Byte =
          ap (λ r. and_then r (λ n. Ok (typed type.Byte (pos n)))) (read_as (cell_of at j) width.Byte (λ bytes. byte_at bytes (4 * j)) first)
      by width.Word =
          ap (λ r. and_then r (λ n. Ok (typed type.Word (pos n))))
          (read_as (cell_of at j) width.Word (λ bytes. word_at bytes (4 * j)) (rw (first, same 1 (omega arith)) refl))
      by width.Dword =
          ap (λ r. and_then r (λ n. Ok (typed type.Dword (pos n))))
          (read_as (cell_of at j) width.Dword (λ bytes. dword_at bytes (4 * j))
          (rw (first, same 1 (omega arith), same 2 (omega arith), same 3 (omega arith)) refl))

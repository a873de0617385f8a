-- Accesses that meet the fault that they meet in a new memory of the same data blocks.
use Rattle.std.proofs.Common.{◌≡◌, ◌⊎◌, inl, inr, ⊎_elim, ℕ, ◌+◌, ◌<◌, ◌≤◌, Bool, true, false, List, [], ◌∷◌, length, get_or, slice_get, Option, Some, None, refl, sym, ap, ◌∙◌, arith, ◌==◌, nat_lt, if◌then◌else◌}
use Rattle.std.specs.Prelude.{is_none, is_some, slice_set}
use Rattle.std.proofs.lemmas.Bool.{cases_eq}
use Rattle.std.proofs.lemmas.Bool.Decides.{nat_tests}
use Rattle.std.proofs.lemmas.List.{get_or-replicate, length-replicate}
use Rattle.std.proofs.lemmas.Option.{slice_get-get_or, slice_get_past}
use Rattle.memory_areas.specs.Access.{Aim, aim_of_place, bytes_there, bytes_wide, fault_of, first_fault, is_closed, is_missing, is_unaligned, or_none}
use Rattle.memory_areas.specs.Areas.{Areas, Contents, IsMemoryOf, Match, block_of, bytes_in, bytes_of, fresh, no_locals, with_areas, with_zero_activation, zero_locals}
use Rattle.memory_areas.specs.Memory.{Decides, HasActivations, HasBlocks, IsActivation}
use Rattle.memory_areas.specs.OutsideActuals.{FitsWidth, IsOutsidePlace}
use Rattle.memory_areas.specs.declared.data_block.DataBlock.{DataBlock}
use Rattle.memory_areas.specs.declared.place.Area.{Area}
use Rattle.memory_areas.specs.declared.place.Area.TheVariants as area
use Rattle.memory_areas.specs.declared.place.Place.{Place}
use Rattle.memory_areas.specs.declared.sizes.TheConstants.{ACTIVATIONS, INPUT_BYTES, OUTPUT_BYTES, MARKER_BYTES}
use Rattle.s7_base.specs.declared.outcome.Fault.TheVariants.{DbNotOpen, DbMissing, AreaCode, Alignment, AreaLength}
use Rattle.s7_base.specs.declared.word.Width.{Width}
use Rattle.s7_base.specs.declared.word.Width.TheVariants as width
use Rattle.memory_areas.proofs.ReplacedBytes.{get_set_other, get_set_same}

-- Blocks

-- the blocks of a number, in two lists of the same numbers and lengths
abbrev Alike : Option DataBlock → Option DataBlock → Type 0
Alike None None = Unit {0}
Alike None (Some b) = ⊥
Alike (Some a) None = ⊥
Alike (Some a) (Some b) = length a.bytes ≡ length b.bytes

alike_by : (t u : Bool) (a b : DataBlock) (x y : Option DataBlock) → t ≡ u → length a.bytes ≡ length b.bytes
    → Alike x y → Alike (if t then Some a else x) (if u then Some b else y)
alike_by true true a b x y e h k = h
alike_by false false a b x y e h k = k
alike_by t u a b x y e h k = cc

blocks_alike : (n : ℕ) (xs ys : List DataBlock) → Match xs ys → Alike (block_of n xs) (block_of n ys)
blocks_alike n [] [] h = tt
blocks_alike n (x ∷ xs) (y ∷ ys) h =
    alike_by (x.number == n) (y.number == n) x y (block_of n xs) (block_of n ys) (ap (λ k. k == n) h.0) h.1.sized (blocks_alike n xs ys h.2)
blocks_alike n xs ys h = absurd h

-- so both are there or neither is, with as many bytes
alike_same : (x y : Option DataBlock) → Alike x y
    → (is_none x ≡ is_none y) × (is_some x ≡ is_some y) × (length (or_none (bytes_in x)) ≡ length (or_none (bytes_in y)))
alike_same None None h = (refl, refl, refl)
alike_same (Some a) (Some b) h = (refl, refl, h)
alike_same x y h = absurd h

-- Two memories

-- an area exists in both memories or in neither, and with as many bytes
abbrev pub IsAlike : Area → Contents → Contents → Type 0
IsAlike a m n = (is_missing (Some a) m ≡ is_missing (Some a) n) × (length (bytes_there (Some a) m) ≡ length (bytes_there (Some a) n))

-- so an access has the same fault in both
fault_by : (a : Area) (byte x : ℕ) (w : Width) (m n : Contents) → IsAlike a m n
    → fault_of (record { area = Some a; byte = byte; bit = x }) w m ≡ fault_of (record { area = Some a; byte = byte; bit = x }) w n
fault_by a byte x w m n h =
    ap (λ b. first_fault ((is_closed (Some a), DbNotOpen) ∷ (b, DbMissing) ∷ (is_none (Some a), AreaCode) ∷ (is_unaligned w x, Alignment)
    ∷ (nat_lt (length (bytes_there (Some a) m)) (byte + bytes_wide w), AreaLength) ∷ [])) h.0
    ∙ ap (λ l. first_fault ((is_closed (Some a), DbNotOpen) ∷ (is_missing (Some a) n, DbMissing)
    ∷ (is_none (Some a), AreaCode) ∷ (is_unaligned w x, Alignment) ∷ (nat_lt l (byte + bytes_wide w), AreaLength) ∷ [])) h.1

-- what is said of the faults in areas is said of all accesses
by_area : (m n : Contents) → ((a : Area) (byte x : ℕ) (w : Width)
    → fault_of (record { area = Some a; byte = byte; bit = x }) w m ≡ fault_of (record { area = Some a; byte = byte; bit = x }) w n)
    → (aim : Aim) (w : Width) → fault_of aim w m ≡ fault_of aim w n
by_area m n h aim w = at aim.area aim.byte aim.bit
  where
    at : (a : Option Area) (byte x : ℕ) → fault_of (record { area = a; byte = byte; bit = x }) w m ≡ fault_of (record { area = a; byte = byte; bit = x }) w n
    at None byte x = refl
    at (Some a) byte x = h a byte x w

-- A memory of data blocks

module _ (blocks : List DataBlock) (m : Contents) (is : IsMemoryOf blocks m.areas) where
  outside_alike : (a : Area) → IsOutsidePlace a → IsAlike a m (fresh blocks)
  outside_alike area.I h = (refl, is.inputs.sized ∙ sym (length-replicate {A = ℕ} INPUT_BYTES 0))
  outside_alike area.Q h = (refl, is.outputs.sized ∙ sym (length-replicate {A = ℕ} OUTPUT_BYTES 0))
  outside_alike area.M h = (refl, is.markers.sized ∙ sym (length-replicate {A = ℕ} MARKER_BYTES 0))
  outside_alike (area.Local d) h = absurd h
  outside_alike (area.Cell d) h = absurd h
  outside_alike (area.Db n) h =
      let same = alike_same (block_of n m.areas.blocks) (block_of n blocks) (blocks_alike n m.areas.blocks blocks is.matching) in (same.0, same.2)

  -- an access outside meets the same fault
  pub fault_same : (p : Place) (w : Width) → IsOutsidePlace p.area → fault_of (aim_of_place p) w m ≡ fault_of (aim_of_place p) w (fresh blocks)
  fault_same p w h = fault_by p.area p.byte p.bit w m (fresh blocks) (outside_alike p.area h)

  -- a block is there as in a new memory
  pub block_same : (n : ℕ) → is_some (block_of n m.areas.blocks) ≡ is_some (block_of n blocks)
  block_same n = (alike_same (block_of n m.areas.blocks) (block_of n blocks) (blocks_alike n m.areas.blocks blocks is.matching)).1

  pub width_decides : (b : Bool) (p : Place) (w v : Width) → w ≡ v → IsOutsidePlace p.area
      → Decides b (fault_of (aim_of_place p) w m ≡ None) → Decides b (FitsWidth blocks v (p, w))
  width_decides true p w v e o h = record { width = e; outside = o; lies = sym (fault_same p w o) ∙ h }
  width_decides false p w v e o h = λ fits. h (fault_same p w o ∙ fits.lies)

-- at the start of a run, all areas are as in a new memory
pub blocks_at_start : (blocks : List DataBlock) (areas : Areas) → IsMemoryOf blocks areas → HasBlocks blocks (with_areas areas)
blocks_at_start blocks areas is = by_area (with_areas areas) (fresh blocks) (λ a byte x w. fault_by a byte x w (with_areas areas) (fresh blocks) (by a))
  where
    by : (a : Area) → IsAlike a (with_areas areas) (fresh blocks)
    by area.I = outside_alike blocks (with_areas areas) is area.I tt
    by area.Q = outside_alike blocks (with_areas areas) is area.Q tt
    by area.M = outside_alike blocks (with_areas areas) is area.M tt
    by (area.Db n) = outside_alike blocks (with_areas areas) is (area.Db n) tt
    by (area.Local d) = (refl, refl)
    by (area.Cell d) = (refl, refl)

-- The local data of one activation

zero_there : (d : ℕ) → d < ACTIVATIONS → slice_get no_locals d ≡ Some zero_locals
zero_there d h =
    let many : length no_locals ≡ ACTIVATIONS = length-replicate ACTIVATIONS zero_locals in
    slice_get-get_or no_locals d zero_locals (omega arith) ∙ ap (λ (x : List ℕ). Some x) (get_or-replicate ACTIVATIONS d zero_locals zero_locals h)

-- some lists, of which one is zeros now, have at each place what they had, or what no_locals has
set_alike : (locals : List (List ℕ)) (d e : ℕ) → length locals ≡ ACTIVATIONS → d < ACTIVATIONS
    → (slice_get (slice_set locals d zero_locals) e ≡ slice_get locals e) ⊎ (slice_get (slice_set locals d zero_locals) e ≡ slice_get no_locals e)
set_alike locals d e many h = ⊎_elim here (λ apart. inl (get_set_other locals d e zero_locals apart)) (cases_eq e d)
  where
    here : e ≡ d → (slice_get (slice_set locals d zero_locals) e ≡ slice_get locals e) ⊎ (slice_get (slice_set locals d zero_locals) e ≡ slice_get no_locals e)
    here same =
        let set : slice_get (slice_set locals d zero_locals) d ≡ Some zero_locals =
        get_set_same locals d zero_locals (get_or locals d zero_locals) (slice_get-get_or locals d zero_locals (omega arith)) in
        inr (ap (slice_get (slice_set locals d zero_locals)) same ∙ set ∙ sym (zero_there d h) ∙ ap (slice_get no_locals) (sym same))

-- after the local data and the cells of an activation were made zero, each access has the fault that it had
pub blocks_after_clear : (blocks : List DataBlock) (m : Contents) (d : ℕ) → HasActivations m → d < ACTIVATIONS → HasBlocks blocks m
    → HasBlocks blocks (with_zero_activation d m)
blocks_after_clear blocks m d many h has = by_area (with_zero_activation d m) (fresh blocks) at
  where
    -- an area that is as it was, or as in a new memory
    either : (a : Area) (byte x : ℕ) (w : Width) → IsAlike a (with_zero_activation d m) m ⊎ IsAlike a (with_zero_activation d m) (fresh blocks)
        → fault_of (record { area = Some a; byte = byte; bit = x }) w (with_zero_activation d m)
        ≡ fault_of (record { area = Some a; byte = byte; bit = x }) w (fresh blocks)
    either a byte x w (inl old) =
        fault_by a byte x w (with_zero_activation d m) m old ∙ has (record { area = Some a; byte = byte; bit = x }) w
    either a byte x w (inr new) = fault_by a byte x w (with_zero_activation d m) (fresh blocks) new

    local : (e : ℕ) (o p q : Option (List ℕ)) → (o ≡ p) ⊎ (o ≡ q)
        → (length (or_none o) ≡ length (or_none p)) ⊎ (length (or_none o) ≡ length (or_none q))
    local e o p q (inl same) = inl (ap (λ x. length (or_none x)) same)
    local e o p q (inr same) = inr (ap (λ x. length (or_none x)) same)

    is_local : (e : ℕ) → IsAlike (area.Local e) (with_zero_activation d m) m ⊎ IsAlike (area.Local e) (with_zero_activation d m) (fresh blocks)
    is_local e =
        ⊎_elim (λ old. inl (refl, old)) (λ new. inr (refl, new))
        (local e (slice_get (slice_set m.locals d zero_locals) e) (slice_get m.locals e) (slice_get no_locals e) (set_alike m.locals d e many.0 h))

    is_cell : (e : ℕ) → IsAlike (area.Cell e) (with_zero_activation d m) m ⊎ IsAlike (area.Cell e) (with_zero_activation d m) (fresh blocks)
    is_cell e =
        ⊎_elim (λ old. inl (refl, old)) (λ new. inr (refl, new))
        (local e (slice_get (slice_set m.cells d zero_locals) e) (slice_get m.cells e) (slice_get no_locals e) (set_alike m.cells d e many.1 h))

    at : (a : Area) (byte x : ℕ) (w : Width)
        → fault_of (record { area = Some a; byte = byte; bit = x }) w (with_zero_activation d m)
        ≡ fault_of (record { area = Some a; byte = byte; bit = x }) w (fresh blocks)
    at area.I byte x w = either area.I byte x w (inl (refl, refl))
    at area.Q byte x w = either area.Q byte x w (inl (refl, refl))
    at area.M byte x w = either area.M byte x w (inl (refl, refl))
    at (area.Db n) byte x w = either (area.Db n) byte x w (inl (refl, refl))
    at (area.Local e) byte x w = either (area.Local e) byte x w (is_local e)
    at (area.Cell e) byte x w = either (area.Cell e) byte x w (is_cell e)

-- an access that a new memory lets through is to an activation that exists
pub reached_exists : (blocks : List DataBlock) (p : Place) (w : Width) → fault_of (aim_of_place p) w (fresh blocks) ≡ None → IsActivation p.area
reached_exists blocks p w e = by p.area e
  where
    none_past : (d : ℕ) → ACTIVATIONS ≤ d → slice_get no_locals d ≡ None
    none_past d h = slice_get_past no_locals d (omega (arith, length-replicate ACTIVATIONS zero_locals, h))

    refused : (o : Option (List ℕ)) → o ≡ None → (x : Bool)
        → first_fault ((x, Alignment) ∷ (nat_lt (length (or_none o)) (p.byte + bytes_wide w), AreaLength) ∷ []) ≡ None → ⊥
    refused o none x f = wide w none x f
      where
        some : (v : Width) → 1 ≤ bytes_wide v
        some width.Bit = omega arith
        some width.Byte = omega arith
        some width.Word = omega arith
        some width.Dword = omega arith

        unshort : (b : Bool) → b ≡ true → first_fault ((b, AreaLength) ∷ []) ≡ None → ⊥
        unshort true e f = cc
        unshort false e f = cc

        wide : (v : Width) → o ≡ None → (y : Bool)
            → first_fault ((y, Alignment) ∷ (nat_lt (length (or_none o)) (p.byte + bytes_wide v), AreaLength) ∷ []) ≡ None → ⊥
        wide v n true g = cc
        wide v n false g =
            let short : nat_lt (length (or_none o)) (p.byte + bytes_wide v) ≡ true = rw n (grind (arith, nat_tests, some v)) in
            unshort (nat_lt (length (or_none o)) (p.byte + bytes_wide v)) short g

    by_number : (d : ℕ) (t : Bool) → nat_lt d ACTIVATIONS ≡ t
        → first_fault ((is_unaligned w p.bit, Alignment) ∷ (nat_lt (length (or_none (slice_get no_locals d))) (p.byte + bytes_wide w), AreaLength) ∷ []) ≡ None
        → d < ACTIVATIONS
    by_number d true e f = grind (arith, nat_tests, e)
    by_number d false e f = absurd (refused (slice_get no_locals d) (none_past d (grind (arith, nat_tests, e))) (is_unaligned w p.bit) f)

    by : (a : Area) → fault_of (record { area = Some a; byte = p.byte; bit = p.bit }) w (fresh blocks) ≡ None → IsActivation a
    by area.I f = tt
    by area.Q f = tt
    by area.M f = tt
    by (area.Db n) f = tt
    by (area.Local d) f = by_number d (nat_lt d ACTIVATIONS) refl f
    by (area.Cell d) f = by_number d (nat_lt d ACTIVATIONS) refl f

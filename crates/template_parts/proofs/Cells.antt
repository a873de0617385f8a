-- Accesses to places that are no cells don't see the cells of a memory, and leave them as they are.
use Rattle.std.proofs.Common.{◌≡◌, ℕ, List, [], ◌∷◌, Option, Some, None, Result, Ok, Err, refl, ap, subst, ◌∙◌}
use Rattle.memory_areas.specs.Access.{and_then, area_if_named, area_named, place_if_named, write_bytes, bytes_for_access}
use Rattle.memory_areas.specs.Areas.{Contents, byte_at, byte_with, bytes_of_dword, bytes_of_word, with_bytes}
use Rattle.memory_areas.specs.declared.place.Area.{Area}
use Rattle.memory_areas.specs.declared.place.Area.TheVariants as area
use Rattle.memory_areas.specs.declared.place.AreaName.{AreaName}
use Rattle.memory_areas.specs.declared.place.AreaName.TheVariants as name
use Rattle.memory_areas.specs.declared.place.Place.{Place}
use Rattle.s7_base.specs.declared.outcome.Fault.{Fault}
use Rattle.s7_base.specs.declared.word.Width.{Width}
use Rattle.s7_base.specs.declared.word.Width.TheVariants as width
use Rattle.st_tree.specs.State.{read_place, write_place}
use Rattle.st_tree.specs.Values.{is_set, pattern}
use Rattle.st_tree.specs.declared.state.Value.{Value}
use Rattle.st_tree.specs.declared.expr.StType.{StType}
use Rattle.st_tree.specs.declared.expr.StType.TheVariants as type
use Rattle.template_parts.specs.Related.{IsCell, IsInMemory, without_cells}

-- A named area is no cell

pub named_in_memory : (a : AreaName) (db di activation : ℕ) → IsInMemory (area_named a db di activation)
named_in_memory name.I db di activation = tt
named_in_memory name.Q db di activation = tt
named_in_memory name.M db di activation = tt
named_in_memory name.L db di activation = tt
named_in_memory name.Db db di activation = tt
named_in_memory name.Di db di activation = tt

-- a place is no cell, where there is one
abbrev pub LiesInMemory : Result Place Fault → Type 0
LiesInMemory (Ok p) = IsInMemory p.area
LiesInMemory (Err f) = Unit {0}

-- so is what a pointer is aimed at
pub aimed_in_memory : (a : Option AreaName) (db di activation byte bit : ℕ) → LiesInMemory (place_if_named (area_if_named a db di activation) byte bit)
aimed_in_memory None db di activation byte bit = tt
aimed_in_memory (Some a) db di activation byte bit = named_in_memory a db di activation

-- Reading

-- a place that is no cell
module _ (p : Place) (m : Contents) where
  reached_alike : (a : Area) → IsInMemory a → (byte bit : ℕ) (w : Width)
      → bytes_for_access (record { area = a; byte = byte; bit = bit }) w (without_cells m) ≡ bytes_for_access (record { area = a; byte = byte; bit = bit }) w m
  reached_alike (area.Cell d) h byte bit w = elim h [ ]
  reached_alike area.I h byte bit w = refl
  reached_alike area.Q h byte bit w = refl
  reached_alike area.M h byte bit w = refl
  reached_alike (area.Local d) h byte bit w = refl
  reached_alike (area.Db n) h byte bit w = refl

  module _ (h : IsInMemory p.area) where
    same_reached : (w : Width) → bytes_for_access p w (without_cells m) ≡ bytes_for_access p w m
    same_reached w = reached_alike p.area h p.byte p.bit w

    -- it is read alike
    pub read_alike : (ty : StType) → read_place ty p (without_cells m) ≡ read_place ty p m
    read_alike type.Bool = simp same_reached
    read_alike type.Byte = simp same_reached
    read_alike type.Word = simp same_reached
    read_alike type.Dword = simp same_reached
    read_alike type.Int = simp same_reached
    read_alike type.Dint = simp same_reached
    read_alike type.Lint = simp same_reached

    put_alike : (a : Area) → IsInMemory a → (bytes : List ℕ) → with_bytes a bytes (without_cells m) ≡ without_cells (with_bytes a bytes m)
    put_alike (area.Cell d) k bytes = elim k [ ]
    put_alike area.I k bytes = refl
    put_alike area.Q k bytes = refl
    put_alike area.M k bytes = refl
    put_alike (area.Local d) k bytes = refl
    put_alike (area.Db n) k bytes = refl

    -- and written alike
    abbrev pub without : Result Contents Fault → Result Contents Fault
    without r = and_then r (λ written. Ok (without_cells written))

    -- a write of bytes that are made of those that are there
    abbrev written : (List ℕ → List ℕ) → Contents → Result (List ℕ) Fault → Result Contents Fault
    written new memory r = and_then r (λ bytes. Ok (write_bytes p bytes (new bytes) memory))

    one_alike : (w : Width) (new : List ℕ → List ℕ)
        → written new (without_cells m) (bytes_for_access p w (without_cells m)) ≡ without (written new m (bytes_for_access p w m))
    one_alike w new = ap (written new (without_cells m)) (same_reached w) ∙ by (bytes_for_access p w m)
      where
        by : (r : Result (List ℕ) Fault) → written new (without_cells m) r ≡ without (written new m r)
        by (Ok bytes) = ap (λ (x : Contents). Ok x) (put_alike p.area h _)
        by (Err f) = refl

    pub write_alike : (ty : StType) (v : Value) → write_place ty p v (without_cells m) ≡ without (write_place ty p v m)
    write_alike type.Bool v = one_alike width.Bit (λ bytes. byte_with (byte_at bytes p.byte) p.bit (is_set v) ∷ [])
    write_alike type.Byte v = one_alike width.Byte (λ bytes. pattern 8 v.n ∷ [])
    write_alike type.Word v = one_alike width.Word (λ bytes. bytes_of_word (pattern 16 v.n))
    write_alike type.Dword v = one_alike width.Dword (λ bytes. bytes_of_dword (pattern 32 v.n))
    write_alike type.Int v = one_alike width.Word (λ bytes. bytes_of_word (pattern 16 v.n))
    write_alike type.Dint v = one_alike width.Dword (λ bytes. bytes_of_dword (pattern 32 v.n))
    write_alike type.Lint v = one_alike width.Dword (λ bytes. bytes_of_dword (pattern 32 v.n))

    -- the cells stay
    cells_put : (a : Area) → IsInMemory a → (bytes : List ℕ) → (with_bytes a bytes m).cells ≡ m.cells
    cells_put (area.Cell d) k bytes = elim k [ ]
    cells_put area.I k bytes = refl
    cells_put area.Q k bytes = refl
    cells_put area.M k bytes = refl
    cells_put (area.Local d) k bytes = refl
    cells_put (area.Db n) k bytes = refl

    -- of what a write gives, if it gives a memory
    abbrev KeepsCells : Result Contents Fault → Type 0
    KeepsCells (Ok after) = after.cells ≡ m.cells
    KeepsCells (Err f) = Unit {0}

    one_keeps : (w : Width) (new : List ℕ → List ℕ) → KeepsCells (written new m (bytes_for_access p w m))
    one_keeps w new = by (bytes_for_access p w m)
      where
        by : (r : Result (List ℕ) Fault) → KeepsCells (written new m r)
        by (Ok bytes) = cells_put p.area h _
        by (Err f) = tt

    keeps_cells : (ty : StType) (v : Value) → KeepsCells (write_place ty p v m)
    keeps_cells type.Bool v = one_keeps width.Bit (λ bytes. byte_with (byte_at bytes p.byte) p.bit (is_set v) ∷ [])
    keeps_cells type.Byte v = one_keeps width.Byte (λ bytes. pattern 8 v.n ∷ [])
    keeps_cells type.Word v = one_keeps width.Word (λ bytes. bytes_of_word (pattern 16 v.n))
    keeps_cells type.Dword v = one_keeps width.Dword (λ bytes. bytes_of_dword (pattern 32 v.n))
    keeps_cells type.Int v = one_keeps width.Word (λ bytes. bytes_of_word (pattern 16 v.n))
    keeps_cells type.Dint v = one_keeps width.Dword (λ bytes. bytes_of_dword (pattern 32 v.n))
    keeps_cells type.Lint v = one_keeps width.Dword (λ bytes. bytes_of_dword (pattern 32 v.n))

    pub write_keeps_cells : (ty : StType) (v : Value) (after : Contents) → write_place ty p v m ≡ Ok after → after.cells ≡ m.cells
    write_keeps_cells ty v after e = subst KeepsCells e (keeps_cells ty v)

-- Cells

-- a cell is read alike where the cells are the same
pub cell_read_alike : (p : Place) → IsCell p.area → (ty : StType) (m n : Contents) → m.cells ≡ n.cells → read_place ty p m ≡ read_place ty p n
cell_read_alike p h ty m n e = read ty
  where
    by : (a : Area) → IsCell a → (w : Width)
        → bytes_for_access (record { area = a; byte = p.byte; bit = p.bit }) w m ≡ bytes_for_access (record { area = a; byte = p.byte; bit = p.bit }) w n
    by (area.Cell d) k w =
        ap (λ (cells : List (List ℕ)). bytes_for_access (record { area = area.Cell d; byte = p.byte; bit = p.bit }) w (record n { cells = cells })) e
    by a k w = elim k [ ]

    same : (w : Width) → bytes_for_access p w m ≡ bytes_for_access p w n
    same w = by p.area h w

    read : (ty : StType) → read_place ty p m ≡ read_place ty p n
    read type.Bool = simp same
    read type.Byte = simp same
    read type.Word = simp same
    read type.Dword = simp same
    read type.Int = simp same
    read type.Dint = simp same
    read type.Lint = simp same

-- What loops over declarations and indices do at a turn.
use Rattle.std.specs.Prelude.{ℕ, ◌+◌, ◌*◌, ℤ, ◌-ℤ◌, unsigned_abs, if◌then◌else◌, List, [], ◌∷◌, Option, Some, None, option_map}
use Rattle.stl_tree.specs.declared.raw.Declaration.{Declaration}
use Rattle.stl_tree.specs.declared.raw.ElemType.{ElemType}
use Rattle.stl_rules.specs.Extents.{end_of, indices_in}
use Rattle.stl_rules.specs.Paths.{is_index}
use Rattle.stl_rules.specs.TooLarge.{passes}
use Rattle.symbol_layout.specs.Kept.{capped_bits}

-- the end of a declaration after one that ends at this bit, if the length does not pass the limit there
abbrev pub end_within : ℕ → ℕ → Declaration → Option ℕ
end_within limit end d = if passes limit (end_of end d) then None else Some (end_of end d)

-- the elementary type of the initial values of a type, and how many of them are counted
abbrev pub capped_takes : Option (ElemType × ℕ) → Option (ElemType × ℕ)
capped_takes most = option_map (λ (pair : ElemType × ℕ). (pair.0, capped_bits pair.1)) most

-- how many elements of a dimension come before one at an index, after this many whole lines of the dimension
abbrev pub row_behind : ℕ → ℤ × ℤ → ℤ → Option ℕ
row_behind rows bounds i =
    if is_index bounds i then Some (rows * indices_in bounds + unsigned_abs (i -ℤ bounds.0)) else None

-- how many elements of a dimension come before one at the first of some indices, after this many whole lines of the
-- dimension
abbrev pub next_row : ℕ → ℤ × ℤ → List ℤ → Option ℕ
next_row rows bounds [] = None
next_row rows bounds (i ∷ is) = row_behind rows bounds i

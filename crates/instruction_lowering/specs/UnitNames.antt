-- In which order the units of a graph program stand, and what their formals are called.
-- Held against: this project's own names.
use Rattle.std.specs.Prelude.{ℕ, suc, ◌+◌, ◌*◌, ◌^◌, nat_lt, Bool, ◌&&◌, if◌then◌else◌, List, [], ◌∷◌, ◌++◌, length, codes, decimal, zero}
use Rattle.memory_areas.specs.declared.call.BlockName.{BlockName}
use Rattle.memory_areas.specs.declared.call.BlockName.TheVariants as name
use Rattle.stl_tree.specs.declared.program.Block.{Block}
use Rattle.stl_tree.specs.declared.program.Formal.{Formal}
use Rattle.st_tree.specs.Naming.{is_free, is_name, is_new, key_of}
use Rattle.st_tree.specs.Values.{type_of_width}
use Rattle.st_tree.specs.declared.program.Local.{Local}

-- The order of units

-- functions come first, then function blocks, then organization blocks, each by its number
abbrev pub order_of : BlockName → ℕ
order_of (name.Fc n) = n
order_of (name.Fb n) = 2 ^ 16 + n
order_of (name.Ob n) = 2 * 2 ^ 16 + n

-- blocks in this order, and one more at its place
abbrev pub insert_block : Block → List Block → List Block
insert_block b [] = b ∷ []
insert_block b (c ∷ rest) =
    if nat_lt (order_of c.name) (order_of b.name) then c ∷ insert_block b rest else b ∷ c ∷ rest

-- blocks in this order
abbrev pub in_order : List Block → List Block
in_order [] = []
in_order (b ∷ rest) = insert_block b (in_order rest)

-- the position of the unit of a block: how many of the blocks come before it
abbrev pub unit_position : List Block → BlockName → ℕ
unit_position [] called = 0
unit_position (b ∷ rest) called =
    if nat_lt (order_of b.name) (order_of called) then suc (unit_position rest called) else unit_position rest called

-- The names of formals

-- a formal may keep its name, after others with these keys
abbrev pub may_keep : List (List ℕ) → List ℕ → Bool
may_keep earlier name = is_name name && is_free name && is_new (key_of name) earlier

-- a name with `_` added at its end until it is none of those that have these keys, at most so often
abbrev pub until_new : ℕ → List (List ℕ) → List ℕ → List ℕ
until_new zero earlier name = name
until_new (suc most) earlier name =
    if is_new (key_of name) earlier then name else until_new most earlier (name ++ codes "_")

-- the name of the formal at a position: its own, or P and its position from 1
abbrev pub name_of_formal : List (List ℕ) → ℕ → List ℕ → List ℕ
name_of_formal earlier k name =
    if may_keep earlier name then name else until_new (length earlier) earlier (codes "P" ++ decimal (k + 1))

-- the formals of a unit, from a position on, after others with these keys
abbrev pub formals_from : List (List ℕ) → ℕ → List Formal → List Local
formals_from earlier k [] = []
formals_from earlier k (f ∷ formals) =
    let name = name_of_formal earlier k f.name in
    record { name = name; ty = type_of_width f.width } ∷ formals_from (earlier ++ key_of name ∷ []) (k + 1) formals

-- the formals of the unit of a block: those of a function; organization blocks have none, and those of a function block
-- are in its instance
abbrev pub unit_formals : BlockName → List Formal → List Local
unit_formals (name.Ob n) formals = []
unit_formals (name.Fc n) formals = formals_from [] 0 formals
unit_formals (name.Fb n) formals = []
